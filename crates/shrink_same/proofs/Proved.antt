-- The facts of specs/Same.antt. Assumes nothing.
use mathlib.Core.Path.{◌≡◌, refl, sym, ap, ◌∙◌, subst}
use mathlib.Core.Bool.{Bool, true, false, cond}
use mathlib.Core.List.{List, [], ◌∷◌, ◌++◌, reverse, append_assoc, flatten}
use Prim.Native.Nat.{ℕ, ◌*◌, ◌≤◌}
use native.Mathlib.Omega.{arith}
use lib.Dec.{leb}
use lib.ListN.{length, take, drop}
use borrow.Author.Tests.{leb-true}
use Rattle.fold.specs.Run.{Run, going, under, halted}
use Rattle.fold.specs.Device.{records}
use Rattle.fold.specs.Shrink as fold
use Rattle.fold.proofs.Laws as laws
use Rattle.fold.proofs.Runs.{halts}
use Rattle.edition.specs.declared.Edition.{Edition}
use Rattle.wire.specs.Decode.{reads_in}
use Rattle.trailer.specs.Trailer.{trailer_of, records_at, records_of, edition_at, edition_in}
use Rattle.trailer.specs.declared.Trailer.{Trailer}
use Rattle.std.specs.Prelude.{Result, Ok, Err}
use Rattle.refused.specs.declared.Refusal.{Refusal}
use Rattle.refused.specs.declared.Refusal.TheVariants.{OutputTooShort}
use Rattle.trailer.proofs.Laws.{ends}
use Rattle.banks.specs.declared.State.{State}
use Rattle.banks.specs.State.{fresh}
use Rattle.edition.specs.Edition.{edition_of}
use Rattle.replay.specs.Replay.{played, play_of, replay_from, replay_of}
use Rattle.walk.specs.Turn.{turn_of}
use Rattle.replay.proofs.Numbers.{accepted}
use Rattle.replay.proofs.Proved as replay
use Rattle.travel.specs.Stretch.{Stretch}
use Rattle.writer.specs.Writer.{log_of}
use Rattle.shrink.specs.Shrink.{smaller_at, smaller_of}
use Rattle.shrink_rule.specs.Drops.{drops, kept}
use Rattle.shrink_rule.specs.How.{rule, none}
use Rattle.shrink_rule.proofs.Every.{Sixteen}
use Rattle.shrink.proofs.Whole.{notes_count, sixteen, shorter, log_ready, log_kept, log_smaller}
use Rattle.shrink_same.specs.Same.{Same, Kept, Stretches}
use Rattle.shrink_same.proofs.Runs.{same_run, kept_twice, fewer_reads, kept_cut, kept_first, calm_kept, steps_kept, doubles_kept, steps_again, doubles_again}
use Rattle.shrink_same.proofs.Longer.{longer}
use Rattle.shaft.specs.Shaft.{steps, doubles}
use Rattle.shrink_same.proofs.Bytes.{is_known, new_trailer, new_records, new_notes}

-- ---- a log that replays, and its trailer

module _ (log : List ℕ) (room : ℕ) (goes : (replay_of log room).course ≡ going) (t : Trailer) (f : trailer_of log ≡ Ok t) where
  abbrev rs : List (List ℕ)
  rs = records_of log

  abbrev o : Edition
  o = edition_in log

  run : replay_of log room ≡ played o rs
  run = accepted log room goes

  plays : (played o rs).course ≡ going
  plays = sym (ap (λ (x : Run State ℕ). x.course) run) ∙ goes

  here : rs ≡ records 16 t.count (drop t.start log)
  here = ap (λ (u : Result Trailer Refusal). records_at u log) f

  has_room : 8 * reads_in rs ≤ room
  unfolding replay_of replay_from play_of
  has_room = rw here (by (leb (8 * reads_in (records 16 t.count (drop t.start log))) room) refl)
    where
      by : (b : Bool) → leb (8 * reads_in (records 16 t.count (drop t.start log))) room ≡ b → 8 * reads_in (records 16 t.count (drop t.start log)) ≤ room
      by true h = leb-true (8 * reads_in (records 16 t.count (drop t.start log))) room h
      by false h =
          let there = ap (λ (u : Result Trailer Refusal). (replay_from u log room).course) f in
          let six = ap (λ (b : Bool). (cond b (played (edition_of t.edition) (records 16 t.count (drop t.start log))) (halted fresh 0 [] OutputTooShort)).course) h in
          absurd (halts OutputTooShort (sym (there ∙ six) ∙ goes))

  is_log : smaller_of log ≡ log_of (take t.start log) (flatten (kept [] rs)) t.edition
  is_log = ap (λ (u : Result Trailer Refusal). smaller_at u log) f ∙ ap (λ (l : List (List ℕ)). log_of (take t.start log) (flatten (kept [] l)) t.edition) (sym here)

  whole : Sixteen (kept [] rs)
  whole =
      subst Sixteen (sym (log_kept log room goes ∙ ap (fold.kept rule none) here)) (sixteen log t.start t.count (log_ready log room goes t f))

  less : length (smaller_of log) ≤ length log
  less = rw (log_smaller log room goes t f) (shorter log t.start t.count (log_ready log room goes t f) t.edition log)

  short : length (log_of (take t.start log) (flatten (kept [] rs)) t.edition) ≤ 32768
  short = omega (arith, less, ends log t f, ap length is_log)

  notes : length (take t.start log) ≡ t.start
  notes = sym (notes_count log t.start t.count (log_ready log room goes t f))

  -- the trailer that the smaller log has
  abbrev its : Trailer
  its = record { start = t.start; count = length (kept [] rs); edition = t.edition }

  its_trailer : trailer_of (smaller_of log) ≡ Ok its
  its_trailer =
      ap trailer_of is_log ∙ new_trailer (take t.start log) (kept [] rs) t.edition whole (is_known log t f) short
      ∙ ap {B = Result Trailer Refusal} (λ (b : ℕ). Ok (record { start = b; count = length (kept [] rs); edition = t.edition })) notes

  its_notes : take t.start (smaller_of log) ≡ take t.start log
  its_notes =
      ap (take t.start) is_log ∙ ap (λ (b : ℕ). take b (log_of (take t.start log) (flatten (kept [] rs)) t.edition)) (sym notes)
      ∙ new_notes (take t.start log) (kept [] rs) t.edition whole (is_known log t f) short

  its_records : records_of (smaller_of log) ≡ kept [] rs
  its_records = ap records_of is_log ∙ new_records (take t.start log) (kept [] rs) t.edition whole (is_known log t f) short

  its_edition : edition_in (smaller_of log) ≡ o
  its_edition = ap edition_at its_trailer ∙ sym (ap edition_at f)

  its_replay : replay_of (smaller_of log) room ≡ under (replay_of log room).state (length (kept [] rs)) (replay_of log room).readings
  its_replay =
      replay.replayed (smaller_of log) its room its_trailer (omega (arith, has_room, fewer_reads o rs plays, ap reads_in its_records))
      ∙ ap (λ (x : Edition). played x (records_of (smaller_of log))) its_edition
      ∙ ap (played o) its_records
      ∙ same_run o rs plays
      ∙ ap (λ (x : Run State ℕ). under x.state (length (kept [] rs)) x.readings) (sym run)

  same_again : smaller_of (smaller_of log) ≡ smaller_of log
  same_again =
      ap (λ (u : Result Trailer Refusal). smaller_at u (smaller_of log)) its_trailer
      ∙ ap (λ (l : List (List ℕ)). log_of (take t.start (smaller_of log)) (flatten (kept [] l)) t.edition) (sym (ap (λ (u : Result Trailer Refusal). records_at u (smaller_of log)) its_trailer) ∙ its_records)
      ∙ ap (λ (l : List (List ℕ)). log_of (take t.start (smaller_of log)) (flatten l) t.edition) (kept_twice o rs plays)
      ∙ ap (λ (l : List ℕ). log_of l (flatten (kept [] rs)) t.edition) its_notes
      ∙ sym is_log

-- a log that replays has a trailer
found_one : (log : List ℕ) (room : ℕ) → (replay_of log room).course ≡ going → (P : Type 0) → ((t : Trailer) → trailer_of log ≡ Ok t → P) → P
unfolding replay_of replay_from
found_one log room goes P h = by (trailer_of log) refl
  where
    by : (r : Result Trailer Refusal) → trailer_of log ≡ r → P
    by (Ok t) f = h t f
    by (Err k) f = absurd (halts k (sym (ap (λ (r : Result Trailer Refusal). (replay_from r log room).course) f) ∙ goes))

pub all_same : (log : List ℕ) (room : ℕ) (goes : (replay_of log room).course ≡ going) → Same log room goes
all_same log room goes =
    found_one log room goes (Same log room goes) λ t f.
    record {
      trailer = λ u g. (its_trailer log room goes u g, its_notes log room goes u g);
      records = its_records log room goes t f;
      replay = its_replay log room goes t f;
      again = same_again log room goes t f;
      shorter = less log room goes t f;
    }

-- ---- the stretches

module _ (o : Edition) (k i : ℕ) (r : List ℕ) (before rs : List (List ℕ)) (st : Stretch o k i before r rs) (d : drops (reverse before) r ≡ false) where
  abbrev stays : List (List ℕ)
  stays = kept (r ∷ reverse before) rs

  cut : kept [] (before ++ r ∷ rs) ≡ kept [] before ++ r ∷ stays
  cut = kept_cut [] before (r ∷ rs) ∙ ap (λ (l : List (List ℕ)). kept [] before ++ l) (kept_first (reverse before) r rs d)

  first : (played o (kept [] before)).state ≡ (played o before).state
  first = ap (λ (x : Run State ℕ). x.state) (same_run o before (laws.first_goes (turn_of o) fresh before (r ∷ rs) st.applied))

  still_stretch : Stretch o k i (kept [] before) r stays
  still_stretch = record {
    applied = ap (λ (l : List (List ℕ)). (played o l).course) (sym cut) ∙ ap (λ (x : Run State ℕ). x.course) (same_run o (before ++ r ∷ rs) st.applied);
    begins = st.begins;
    counts = rw first st.counts;
    calm = calm_kept o.port k i (r ∷ reverse before) rs st.calm;
  }

-- where the first record stays
kept_stretch : (k i : ℕ) (log r : List ℕ) (before rs later : List (List ℕ)) (room : ℕ) → (replay_of log room).course ≡ going
    → records_of log ≡ before ++ r ∷ rs ++ later → Stretch (edition_in log) k i before r rs → drops (reverse before) r ≡ false → Kept k i log r rs
kept_stretch k i log r before rs later room goes is st d =
    found_one log room goes (Kept k i log r rs) λ t f.
    record {
      before = kept [] before;
      first = r;
      stay = kept (r ∷ reverse before) rs;
      later = kept (reverse (before ++ r ∷ rs)) later;
      cut =
          its_records log room goes t f ∙ ap (kept []) is ∙ kept_cut [] (before ++ r ∷ rs) later
          ∙ ap (λ (l : List (List ℕ)). l ++ kept (reverse (before ++ r ∷ rs)) later) (cut (edition_in log) k i r before rs st d);
      stretch = subst (λ (o : Edition). Stretch o k i (kept [] before) r (kept (r ∷ reverse before) rs)) (sym (its_edition log room goes t f)) (still_stretch (edition_in log) k i r before rs st d);
      same_steps = steps_kept k i r (reverse before) rs st.begins;
      same_doubles = doubles_kept k i r (reverse before) rs st.begins;
    }

pub stretches : Stretches
stretches k i log r before rs later room goes is st = by (drops (reverse before) r) refl
  where
    by : (t : Bool) → drops (reverse before) r ≡ t → Kept k i log r rs
    by false d = kept_stretch k i log r before rs later room goes is st d
    by true d =
        let x = longer (edition_in log) k i before r rs st d in
        let there : records_of log ≡ x.earlier ++ x.p ∷ (x.qs ++ r ∷ rs) ++ later =
        is ∙ ap (λ (l : List (List ℕ)). l ++ r ∷ rs ++ later) x.cut ∙ ap (λ (l : List (List ℕ)). l ++ later) (append_assoc x.earlier (x.p ∷ x.qs) (r ∷ rs)) in
        let y = kept_stretch k i log x.p x.earlier (x.qs ++ r ∷ rs) later room goes there x.stretch x.stays in
        record {
          before = y.before;
          first = y.first;
          stay = y.stay;
          later = y.later;
          cut = y.cut;
          stretch = y.stretch;
          same_steps = y.same_steps ∙ x.same_told steps steps_again;
          same_doubles = y.same_doubles ∙ x.same_told doubles doubles_again;
        }
