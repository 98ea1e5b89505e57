-- The facts of specs/Demand.antt and specs/Log.antt.
-- Assumes nothing.
use mathlib.Core.Path.{◌≡◌, refl, sym, ap, ◌∙◌, subst}
use mathlib.Core.Bool.{true}
use mathlib.Core.List.{List, [], ◌∷◌, ◌++◌, append_assoc, foldl, map}
use Prim.Native.Nat.{ℕ, ◌*◌, ◌≤◌, ◌<◌}
use native.Mathlib.Omega.{arith}
use lib.ListN.{length, length-append, drop}
use lib.Seq.{get_or-append_seam}
use lib.IntN.{ℤ, neg_ℤ, ◌+ℤ◌, ◌-ℤ◌, +ℤ_assoc, +ℤ_comm, +ℤ-neg_ℤ_cancel, -ℤ-+ℤ_cancel}
use lib.Signed.{mag}
use Rattle.laws.specs.Each.{map_from}
use Rattle.fold.specs.Turn.{Turn, reads, applies, leaves, given}
use Rattle.fold.specs.Run.{Run, going, after, step, resumed, run_of, tally}
use Rattle.fold.specs.Output.{bytes_of, over, output_of}
use Rattle.fold.specs.Device.{records}
use Rattle.fold.proofs.Laws as laws
use Rattle.fold.proofs.Runs.{first_applied, goes_applies}
use Rattle.edition.specs.declared.Edition.{Edition}
use Rattle.encoder_count.specs.Count.{pattern, signed, wrap}
use Rattle.encoder.specs.Encoder.{counts_in_quadrature, stat_of}
use Rattle.encoder_count.proofs.Wrap.{pattern_lt, pattern_wrap, pattern_add_wrap, wrap_fits}
use Rattle.shaft.specs.Shaft.{travel, steps, gap_of}
use Rattle.shaft.proofs.Balance.{AllPins}
use Rattle.shaft.proofs.Motions.{gaps, sign}
use Rattle.select.specs.Select.{field_of, some, encoder_routed}
use Rattle.numbers.specs.Bytes.{le_of, le_bytes}
use Rattle.wire.specs.Decode.{reads_in}
use Rattle.trailer.specs.Trailer.{trailer_of, records_at, records_of, edition_in}
use Rattle.wire.specs.Decode.{bank_of, decode_of}
use Rattle.records.specs.Record.{named_of, write_of, read_of, pins_of, ticks_of, answer_of}
use Rattle.trailer.specs.declared.Trailer.{Trailer}
use Rattle.records.specs.declared.Record.TheVariants.{ReadEncoder, Pins}
use Rattle.std.specs.Prelude.{Result, Ok, Err}
use Rattle.refused.specs.declared.Refusal.{Refusal}
use Rattle.replay.proofs.Bytes.{reading_there}
use Rattle.trailer.proofs.Laws.{few_records}
use Rattle.wire.proofs.Formed.{formed, bank_formed}
use Rattle.bank.specs.Bank.{encoder_at}
use Rattle.banks.specs.declared.State.{State}
use Rattle.banks.specs.State.{fresh, bank_at}
use Rattle.banks.proofs.Whole.{Both}
use Rattle.bank.specs.Bank as bank
use Rattle.replay.specs.Replay.{played, play_of, replay_from, replay_of}
use Rattle.walk.specs.Turn.{turn_of, written}
use Rattle.replay.proofs.Proved.{replayed}
use Rattle.travel.specs.Stretch.{names, pins_in, undisturbed, encoder_after}
use Rattle.travel.specs.Demand.{Demand, DemandOfRuns}
use Rattle.travel.specs.Log.{DemandOfLogs, DemandOfOutputs, Examples}
use Rattle.travel.proofs.Events.{Event, pins, event_at, pins_among, pins_among_lem, all_quiet_lem, pins_bank, event_pins}
use Rattle.travel.proofs.Counting.{Channel, on_event, first_ready, counting}
use Rattle.travel.proofs.Banks.{Sound, view_at, turn_pins}
use Rattle.travel.proofs.Follows.{all_sound, follows}
use Rattle.travel.proofs.Pins.{all_pins, few}

-- ---- what is counted is the travel and the gap

split : (c : ℤ) (vs : List ℕ) (ps : List ℤ) → c +ℤ steps vs ≡ c +ℤ travel ps +ℤ gap_of vs ps
split c vs ps =
    ap (λ (z : ℤ). c +ℤ z) (sym (+ℤ_comm (travel ps) (gap_of vs ps) ∙ -ℤ-+ℤ_cancel (steps vs) (travel ps)))
    ∙ sym (+ℤ_assoc c (travel ps) (gap_of vs ps))

demand : (vs : List ℕ) (first last : ℤ) → AllPins vs → last ≡ wrap (first +ℤ steps vs) → Demand vs first last
demand vs first last a counted = record {
  count = λ ps f. counted ∙ ap wrap (split first vs ps);
  gaps = gaps vs a;
  counted = counted;
  difference = λ h. sym (apart h);
  sign = sign vs a;
}
  where
    apart : mag (steps vs) < 2147483648 → wrap (last -ℤ first) ≡ steps vs
    apart h =
        ap (λ (z : ℤ). wrap (z -ℤ first)) counted
        ∙ ap signed (pattern_add_wrap (first +ℤ steps vs) (neg_ℤ first))
        ∙ ap wrap (ap (λ (z : ℤ). z -ℤ first) (+ℤ_comm first (steps vs)) ∙ +ℤ-neg_ℤ_cancel (steps vs) first)
        ∙ wrap_fits (steps vs) h

-- ---- any run, from any sound bank

from_state : (o : Edition) (k i : ℕ) (b : State) (r : List ℕ) (rs : List (List ℕ)) → Both Sound b → names k 3 1 i r ≡ true
    → counts_in_quadrature (encoder_routed o.port (bank_at k b).select i) (encoder_at i (bank_at k b)).cnfg ≡ true → undisturbed o.port k i rs ≡ true → (run_of (turn_of o) b (r ∷ rs)).course ≡ going
    → Demand (pins_in k i (r ∷ rs)) (encoder_at i (bank_at k (run_of (turn_of o) b (r ∷ [])).state)).count (encoder_at i (bank_at k (run_of (turn_of o) b (r ∷ rs)).state)).count
from_state o k i b r rs sound begins counts calm goes =
    let v = le_of 8 r 8 in
    let c = view_at o.port k i b in
    let goes_first = laws.first_goes (turn_of o) b (r ∷ []) rs goes in
    let decoded = turn_pins o k i b r begins (goes_applies (turn_of o) b r goes_first) in
    let within = (formed o r (Pins i v) decoded).1 in
    let in_two : k < 2 = omega (arith, bank_formed o r (Pins i v) decoded, pins_bank o i r k begins) in
    let ready = first_ready c v counts ((sound.each k in_two).ranges i).count in
    let first = follows o k i in_two within b (r ∷ []) sound goes_first in
    let last = follows o k i in_two within b (r ∷ rs) sound goes in
    let is : event_at o.port k i r ≡ pins v = event_pins o i r k begins in
    let shows : v ∷ pins_among (map (event_at o.port k i) rs) ≡ pins_in k i (r ∷ rs) = sym (rw begins (ap (λ (l : List ℕ). v ∷ l) (pins_among_lem o.port k i rs))) in
    let counted = counting (on_event c (pins v)) v (map (event_at o.port k i) rs) ready (all_quiet_lem o.port k i rs calm) in
    demand _ _ _ (all_pins o k i b (r ∷ rs) goes)
    (ap (λ (d : Channel). d.encoder.count) (last ∙ ap (λ (x : Event). foldl on_event (on_event c x) (map (event_at o.port k i) rs)) is)
    ∙ counted
    ∙ ap (λ (x : Event). wrap ((on_event c x).encoder.count +ℤ steps (v ∷ pins_among (map (event_at o.port k i) rs)))) (sym is)
    ∙ ap (λ (d : Channel). wrap (d.encoder.count +ℤ steps (v ∷ pins_among (map (event_at o.port k i) rs)))) (sym first)
    ∙ ap (λ (vs : List ℕ). wrap ((encoder_at i (bank_at k (run_of (turn_of o) b (r ∷ [])).state)).count +ℤ steps vs)) shows)

pub demand_of_runs : DemandOfRuns
demand_of_runs o k i before r rs st =
    let b = (played o before).state in
    let goes = st.applied in
    let goes_first = laws.first_goes (turn_of o) fresh (before ++ r ∷ []) rs (ap (λ (l : List (List ℕ)). (played o l).course) (append_assoc before (r ∷ []) rs) ∙ goes) in
    subst (λ (x : State). Demand (pins_in k i (r ∷ rs)) (encoder_at i (bank_at k x)).count (encoder_after o k i (before ++ r ∷ rs)).count) (sym (laws.rest_state (turn_of o) fresh before (r ∷ []) goes_first))
    (subst (λ (x : State). Demand (pins_in k i (r ∷ rs)) (encoder_at i (bank_at k (run_of (turn_of o) b (r ∷ [])).state)).count (encoder_at i (bank_at k x)).count) (sym (laws.rest_state (turn_of o) fresh before (r ∷ rs) goes))
    (from_state o k i b r rs (all_sound o before) st.begins st.counts st.calm (laws.rest_goes (turn_of o) fresh before (r ∷ rs) goes)))

-- ---- a log

pub demand_of_logs : DemandOfLogs
demand_of_logs k i log r before rs later cut st =
    let short : length (r ∷ rs) < 2048 =
    omega (arith, rw cut at (few_records log), length-append (before ++ r ∷ rs) later, length-append before (r ∷ rs)) in
    (demand_of_runs (edition_in log) k i before r rs st).difference (omega (arith, few k i (r ∷ rs)))

-- ---- the output's bytes

module _ (o : Edition) (k i : ℕ) (q : List ℕ) (names : decode_of o q ≡ Ok (ReadEncoder i 2)) (there : bank_of q ≡ k) where
  asks_cntr : (b : State) → turn_of o b q ≡ reads (pattern (encoder_at i (bank_at k b)).count)
  unfolding turn_of bank.turn_of
  asks_cntr b = rw (names, (formed o q (ReadEncoder i 2) names).0.is_kind, there)

  -- the readings of a run that goes on to q, wherever the rest leads
  reads_next : (rs later : List (List ℕ)) → (played o rs).course ≡ going
      → (ws : List ℕ) × ((played o (rs ++ q ∷ later)).readings ≡ (played o rs).readings ++ pattern (encoder_after o k i rs).count ∷ ws)
  reads_next rs later goes =
      let b = (played o rs).state in
      let first = first_applied (turn_of o) b q later (ap applies (asks_cntr b)) ∙ ap (λ (t : Turn State ℕ). after 1 (given t) (run_of (turn_of o) (leaves b t) later)) (asks_cntr b) in (
        (run_of (turn_of o) b later).readings,
        ap (λ (x : Run State ℕ). x.readings) (laws.cut_in_two (turn_of o) fresh rs (q ∷ later) goes) ∙ ap (λ (x : Run State ℕ). (played o rs).readings ++ x.readings) first,
      )

  reads_bytes : (rs later : List (List ℕ)) (out : List ℕ) → (played o rs).course ≡ going
      → le_of 8 (written (played o (rs ++ q ∷ later)) out) (8 * length (played o rs).readings) ≡ pattern (encoder_after o k i rs).count
  unfolding output_of over
  reads_bytes rs later out goes =
      let next = reads_next rs later goes in
      let before = (played o rs).readings in
      let v = pattern (encoder_after o k i rs).count in
      let is = get_or-append_seam before v next.0 0 in
      ap (λ (l : List ℕ). le_of 8 (bytes_of (le_bytes 8) l ++ drop (length (bytes_of (le_bytes 8) l)) out) (8 * length (played o rs).readings)) next.1
      ∙ reading_there (before ++ v ∷ next.0) _ (length before) (omega (arith, length-append before (v ∷ next.0))) (omega (arith, is, pattern_lt (encoder_after o k i rs).count))
      ∙ is

-- a log with records has a trailer, and with room it replays as their run
plays : (log : List ℕ) (room : ℕ) (before : List (List ℕ)) (r : List ℕ) (rs : List (List ℕ)) → records_of log ≡ before ++ r ∷ rs
    → 8 * reads_in (records_of log) ≤ room → replay_of log room ≡ played (edition_in log) (before ++ r ∷ rs)
plays log room before r rs cut fits = by (trailer_of log) refl
  where
    by : (t : Result Trailer Refusal) → trailer_of log ≡ t → replay_of log room ≡ played (edition_in log) (before ++ r ∷ rs)
    by (Ok t) e = replayed log t room e fits ∙ ap (played (edition_in log)) cut
    by (Err k) e =
        let none : length (before ++ r ∷ rs) ≡ 0 = ap length (sym cut ∙ ap (λ (t : Result Trailer Refusal). records_at t log) e) in
        absurd (omega (arith, length-append before (r ∷ rs)))

pub demand_of_outputs : DemandOfOutputs
demand_of_outputs k i log out r q before rs later cut st names there room ps f =
    let first = (encoder_after (edition_in log) k i (before ++ r ∷ [])).count in
    ap (λ (x : Run State ℕ). le_of 8 (written x out) (8 * length (played (edition_in log) (before ++ r ∷ rs)).readings)) (plays log (length out) (before ++ r ∷ rs) q later cut room)
    ∙ reads_bytes (edition_in log) k i q names there (before ++ r ∷ rs) later out st.applied
    ∙ ap pattern (demand_of_runs (edition_in log) k i before r rs st).counted
    ∙ pattern_wrap (first +ℤ steps (pins_in k i (r ∷ rs)))
    ∙ ap pattern (split first (pins_in k i (r ∷ rs)) ps)

-- ---- the two logs

pub examples : Examples
unfolding replay_of replay_from trailer_of play_of run_of resumed step tally records turn_of bank.turn_of le_of decode_of named_of write_of read_of pins_of ticks_of answer_of field_of some map_from stat_of bank.fresh
examples = record {
  cut = refl;
  stretch = record { applied = refl; begins = refl; counts = refl; calm = refl };
  asks = refl;
  fits = (refl, (omega arith, tt));
  clean_step = (refl, refl);
  stopping_cut = refl;
  stops = refl;
}
