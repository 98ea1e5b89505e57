-- The facts of specs/Facts.antt.
-- Assumes nothing.
use mathlib.Core.Path.{◌≡◌, refl, sym, ap, ap₂, ◌∙◌, subst}
use mathlib.Core.List.{List, [], ◌∷◌, ◌++◌}
use mathlib.Core.Bool.{Bool, true, false, cond}
use Prim.Native.Nat.{ℕ, ◌*◌, ◌/◌, ◌%◌, ◌^◌}
use native.Mathlib.Nat.{zero-add, mod-eq_of_lt}
use native.Mathlib.Omega.{arith}
use lib.Dec.{eqb}
use lib.ListN.{length, take, drop, take-append-drop, length-drop, drop_of_length-le}
use lib.Seq.{length-take-le}
use borrow.Author.Tests.{eq-eqb, ne_eqb}
use Rattle.refused.specs.Number.{number_of}
use Rattle.refused.specs.declared.Refusal.{Refusal}
use Rattle.std.proofs.Common.{Result, Ok}
use Rattle.fold.specs.Output.{stop_of, refusal_of}
use Rattle.fold.specs.Device.{records}
use Rattle.fold.specs.Stream.{wholes, left_over}
use Rattle.fold.proofs.Streams.{records_front}
use Rattle.edition.specs.Edition.{edition_of}
use Rattle.trailer.specs.Trailer.{trailer_of, records_at, edition_at}
use Rattle.trailer.specs.declared.Trailer.{Trailer}
use Rattle.trailer.proofs.Laws.{ends}
use Rattle.bank.specs.Bank.{encoder_at}
use Rattle.banks.specs.declared.State.{State}
use Rattle.banks.specs.State.{bank_at}
use Rattle.replay.specs.Replay.{played, replay_of}
use Rattle.replay.proofs.Numbers.{small}
use Rattle.replay.proofs.Replays.{replayed}
use Rattle.travel.specs.Stretch.{pins_in, encoder_after}
use Rattle.travel.specs.Demand.{Demand}
use Rattle.travel.proofs.Proved.{demand_of_runs}
use Rattle.live_state.specs.Live.{Live, Taken, fresh_of, taken_of, chunk_of, end_of}
use Rattle.live_state.proofs.Ways.{Way, again, taken, not_taken, way}
use Rattle.live_state.proofs.Ways as ways
use Rattle.live_cut.specs.Cut.{Lent, bytes_in, streamed, Roomy}
use Rattle.live_cut.specs.Facts.{Cuts}
use Rattle.live_cut.proofs.Chunks.{stays, taken_not_six, all_at_once}

any_cut : (e : ℕ) (cs : List Lent) → Roomy (fresh_of e) cs → streamed (fresh_of e) cs ≡ taken_of (fresh_of e) (bytes_in cs)
any_cut e cs h = all_at_once (fresh_of e) cs (record { none = refl; few = omega arith; small = omega arith }) h

left_long : (b : List ℕ) → length (left_over 16 b) ≡ length b % 16
left_long b = omega (arith, length-drop (16 * (length b / 16)) b)

end_of_one : (e : ℕ) (b : List ℕ) → (taken_of (fresh_of e) b).refused ≡ 0 → end_of (taken_of (fresh_of e) b).live ≡ cond (eqb (length b % 16) 0) 0 5
unfolding taken_of
end_of_one e b g = rw (eq-eqb (number_of (refusal_of (played (edition_of e) (wholes 16 b)).course)) 0 g) (ap (λ (n : ℕ). cond (eqb n 0) 0 5) (left_long b))

-- ---- a log's records

module _ (log : List ℕ) (a n e : ℕ) (found : trailer_of log ≡ Ok (record { start = a; count = n; edition = e })) where
  abbrev all : List ℕ
  all = take (16 * n) (drop a log)

  long : length all ≡ 16 * n
  long = length-take-le (16 * n) (drop a log) (omega (arith, length-drop a log, (ends log _ found).0))

  log_records : wholes 16 all ≡ records 16 n (drop a log)
  log_records =
      let count : length all / 16 ≡ n = omega (arith, long) in
      ap (λ (k : ℕ). records 16 k all) count
      ∙ sym (records_front 16 n all (drop (16 * n) (drop a log)) (omega (arith, long)))
      ∙ ap (records 16 n) (take-append-drop (16 * n) (drop a log))

  none_left : (b : Bool) → cond b (left_over 16 all) [] ≡ []
  none_left true = drop_of_length-le all {i = 16 * (length all / 16)} (omega (arith, long))
  none_left false = refl

six_leaves : (s : Live) (b : List ℕ) (room : ℕ) → (chunk_of s b room).refused ≡ 6 → chunk_of s b room ≡ record { live = s; refused = 6; readings = [] }
six_leaves s b room h = by (way s b room)
  where
    by : Way s b room → chunk_of s b room ≡ record { live = s; refused = 6; readings = [] }
    by (again some e) = e ∙ ap {B = Taken} (λ (k : ℕ). record { live = s; refused = k; readings = [] }) (sym (ap (λ (t : Taken). t.refused) e) ∙ h)
    by (taken none e) = absurd (taken_not_six s b (sym (ap (λ (t : Taken). t.refused) e) ∙ h))
    by (not_taken none e) = e

-- ---- the facts

pub cuts : Cuts
unfolding taken_of stop_of
cuts = record {
  any_cut = any_cut;
  end_of_all = λ e cs h g.
      let one = any_cut e cs h in
      ap (λ (t : Taken). end_of t.live) one ∙ end_of_one e (bytes_in cs) (sym (ap (λ (t : Taken). t.refused) one) ∙ g);
  of_logs = λ log room a n e cs found enough is h.
      let x = replay_of log room in
      let same : played (edition_of e) (wholes 16 (all log a n e found)) ≡ x =
      ap₂ played (ap edition_at (sym found)) (log_records log a n e found ∙ ap (λ (r : Result Trailer Refusal). records_at r log) (sym found))
      ∙ sym (replayed log _ room found enough) in
      let few : x.applied % 2 ^ 64 ≡ x.applied = mod-eq_of_lt (omega (arith, small log room (stop_of x) refl)) in
      any_cut e cs h
      ∙ ap (taken_of (fresh_of e)) is
      ∙ rw (same, none_left log a n e found (eqb (number_of (refusal_of x.course)) 0), zero-add x.applied, few);
  six_leaves = six_leaves;
  refused_again = λ s cs b room h. (stays s cs h, ways.refused_again s b room h, rw (ne_eqb s.refused 0 h));
  demand = λ e k i cs before r rs h cut st.
      subst (λ (x : State). Demand (pins_in k i (r ∷ rs)) (encoder_after (edition_of e) k i (before ++ r ∷ [])).count (encoder_at i (bank_at k x)).count)
      (ap (λ (l : List (List ℕ)). (played (edition_of e) l).state) (sym cut) ∙ sym (ap (λ (t : Taken). t.live.state) (any_cut e cs h)))
      (demand_of_runs (edition_of e) k i before r rs st);
}
