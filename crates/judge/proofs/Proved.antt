-- The facts of specs/Facts.antt.
-- Assumes nothing.
use mathlib.Core.Path.{◌≡◌, refl, sym, ap, ◌∙◌}
use mathlib.Core.Logic.{◌⊎◌, inl, inr}
use mathlib.Core.List.{List, ◌++◌}
use Prim.Native.Nat.{ℕ, ◌-◌, ◌≤◌}
use native.Mathlib.Omega.{arith}
use Rattle.edition.specs.declared.Edition.{Edition}
use Rattle.fold.specs.Run.{Run, going, stopped, run_of}
use Rattle.fold.specs.Turn.{Turn}
use Rattle.fold.specs.Output.{bytes_of}
use lib.ListN.{length}
use Rattle.numbers.specs.Bytes.{le_of, le_bytes}
use Rattle.trailer.specs.Trailer.{trailer_of, records_of, edition_in}
use Rattle.trailer.specs.declared.Trailer.{Trailer}
use Rattle.std.specs.Prelude.{Result, Ok, Err}
use Rattle.refused.specs.declared.Refusal.{Refusal}
use Rattle.refused.specs.declared.Refusal.TheVariants.{OutputTooShort}
use Rattle.refused.specs.Number.{number}
use Rattle.trailer.proofs.Laws.{one_to_five}
use Rattle.banks.specs.declared.State.{State}
use Rattle.banks.specs.State.{fresh}
use Rattle.replay.specs.Replay.{replay_from, replay_of, replayed}
use Rattle.walk.specs.Turn.{turn_of}
use Rattle.walk.proofs.Numbers.{Number, run_number}
use Rattle.replay.proofs.Notes.{same_records, same_edition}
use Rattle.replay.proofs.Proved as replays
use Rattle.transcript.specs.Judge.{negating, plain, opposite, Judged, same, negated, both}
use Rattle.judge.specs.Facts.{Shown}
use Rattle.judge.proofs.Answers as answers
use Rattle.judge.proofs.Still.{still_only, still_same}

not_six : Number OutputTooShort → ⊥
not_six (inl h) = omega arith
not_six (inr (inl e)) = omega arith
not_six (inr (inr e)) = omega arith

never_six : (log : List ℕ) → (replayed log).course ≡ stopped OutputTooShort → ⊥
unfolding replay_of replay_from
never_six log six = by (trailer_of log) refl
  where
    by : (t : Result Trailer Refusal) → trailer_of log ≡ t → ⊥
    by (Err k) e =
        let is : stopped k ≡ stopped OutputTooShort = sym (ap (λ (t : Result Trailer Refusal). (replay_from t log 16_384).course) e) ∙ six in
        let k-is : k ≡ OutputTooShort = cc in
        omega (arith, one_to_five log k e, ap number k-is)
    by (Ok t) e =
        let run = replays.replayed log t 16_384 e (omega (arith, answers.has_room log)) in
        not_six (run_number (edition_in log) fresh (records_of log) OutputTooShort (sym (ap (λ (x : Run State ℕ). x.course) run) ∙ six))

pub shown : (log ts : List ℕ) → Shown log ts
shown log ts =
    record {
      one = answers.there_is log ts;
      alone = answers.no_two log ts;
      no_six = never_six log;
      when_both = λ j. let b = answers.when_both log ts (0, 3, 0) refl j in (b.1, still_only log b.0 (sym b.1 ∙ b.2));
      both_when = λ c p s. both c p (p ∙ still_same log c s);
    }

-- ---- the readings' own bytes, their negation; the negation of that is `negated_twice`

module _ (log : List ℕ) (c : (replayed log).course ≡ going) where
  itself : Judged log (plain log) (0, 1, 0) ⊎ Judged log (plain log) (0, 3, 0)
  itself = by (answers.alike (plain log) (opposite log))
    where
      by : Dec (plain log ≡ opposite log) → Judged log (plain log) (0, 1, 0) ⊎ Judged log (plain log) (0, 3, 0)
      by (yes e) = inr (both c refl e)
      by (no d) = inl (same c refl d)

  its_negation : Judged log (opposite log) (0, 2, 0) ⊎ Judged log (opposite log) (0, 3, 0)
  its_negation = by (answers.alike (opposite log) (plain log))
    where
      by : Dec (opposite log ≡ plain log) → Judged log (opposite log) (0, 2, 0) ⊎ Judged log (opposite log) (0, 3, 0)
      by (yes e) = inr (both c e refl)
      by (no d) = inl (negated c d refl)

-- ---- other notes change no answer: the tail is the trailer with at least the D bytes before it

notes_ignored : (notes other tail ts : List ℕ) (a : ℕ × ℕ × ℕ) → length (notes ++ tail) ≤ 32768 → length (other ++ tail) ≤ 32768
    → 8 ≤ length tail → le_of 4 tail (length tail - 8) ≤ length tail - 8 → Judged (notes ++ tail) ts a → Judged (other ++ tail) ts a
notes_ignored notes other tail ts a p q short back =
    answers.carried (notes ++ tail) (other ++ tail) ts a
    (ap (λ (x : Run State ℕ). x.course) (replays.notes_ignored notes other tail 16_384 p q short back))
    (same turn_of) (same (λ (o : Edition). negating (turn_of o)))
  where
    records : records_of (notes ++ tail) ≡ records_of (other ++ tail)
    records = same_records notes tail p short back ∙ sym (same_records other tail q short back)

    edition : edition_in (notes ++ tail) ≡ edition_in (other ++ tail)
    edition = same_edition notes tail p short back ∙ sym (same_edition other tail q short back)

    transcript : (Edition → State → List ℕ → Turn State ℕ) → Edition → List (List ℕ) → List ℕ
    transcript turn o rs = bytes_of (le_bytes 8) (run_of (turn o) fresh rs).readings

    same : (turn : Edition → State → List ℕ → Turn State ℕ)
        → transcript turn (edition_in (notes ++ tail)) (records_of (notes ++ tail)) ≡ transcript turn (edition_in (other ++ tail)) (records_of (other ++ tail))
    same turn = ap (λ (o : Edition). transcript turn o (records_of (notes ++ tail))) edition ∙ ap (transcript turn (edition_in (other ++ tail))) records
