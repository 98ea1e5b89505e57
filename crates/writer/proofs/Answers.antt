-- The answer by its tests, and the buffer afterwards.
-- Assumes nothing.
use mathlib.Core.Path.{◌≡◌, refl, sym, ap, ◌∙◌}
use mathlib.Core.Bool.{Bool, true, false, not, cond}
use mathlib.Core.List.{List, ◌++◌}
use Prim.Native.Nat.{ℕ, ◌+◌, ◌-◌, ◌%◌, ◌<◌, ◌≤◌}
use native.Mathlib.Nat.{zero-add}
use native.Mathlib.Omega.{arith}
use lib.Dec.{ltb, eqb}
use lib.ListN.{length, drop, length-append}
use lib.Seq.{sets-eq}
use borrow.Author.Tests.{lt-ltb, le-ltb, ltb-false, eqb-true}
use Rattle.std.specs.Prelude.{Result, Ok, Err, IsErrAnd}
use Rattle.std.specs.Result.{result_and}
use Rattle.edition.specs.declared.Edition.{Edition}
use Rattle.edition.specs.Edition.{known, edition_of}
use Rattle.fold.specs.Output.{over}
use Rattle.decimal.specs.Put.{Put}
use Rattle.decimal.proofs.Puts.{put_then}
use Rattle.refused.specs.declared.Refusal.TheVariants.{LogTooLong, WrongEdition, WrongDistance, OutputTooShort}
use Rattle.made.specs.declared.Failure.{Failure}
use Rattle.writer.specs.Writer.{log_of, refused_by, whole, first_of, written_of, output_of}
use Rattle.writer.specs.How.{records_in, trailer}

-- a failure that is handed on
pub handed_on : {A : Type 0} (f : Failure) (r : Result A Failure) → IsErrAnd r (λ g. g ≡ f) → r ≡ Err f
handed_on f (Ok x) h = absurd h
handed_on f (Err g) h = ap Err h

-- what the two tests of a run come to
pub tests_are : (run : List ℕ) (e : Edition) (a b r : Result (Unit {0}) Failure) → a ≡ whole (length run) → b ≡ first_of e 0 (records_in run) → r ≡ result_and a b
    → r ≡ result_and (whole (length run)) (first_of e 0 (records_in run))
tests_are run e a b r p q h = cc

module _ (edition : ℕ) (notes run : List ℕ) where
  abbrev all : List ℕ
  all = log_of notes run edition

  pub size_is : length (log_of notes run edition) ≡ length notes + length run + 8
  size_is =
      let last = trailer edition (length run) in
      length-append (notes ++ run) last ∙ omega (arith, length-append notes run)

  module _ (room : ℕ) where
    abbrev answer : Result ℕ Failure
    answer = written_of edition notes run room

    -- ---- each way through the tests

    pub not_known : known edition ≡ false → (f : Failure) → f ≡ record { refusal = WrongEdition; index = 0 } → Err f ≡ answer
    unfolding written_of
    not_known h f q = rw (h, q)

    module _ (is : known edition ≡ true) where
      module _ (e : Edition) (same : e ≡ edition_of edition) where
        abbrev tests : Result (Unit {0}) Failure
        tests = result_and (whole (length run)) (first_of e 0 (records_in run))

        pub run_refused : (f : Failure) → Err f ≡ tests → Err f ≡ answer
        unfolding written_of
        run_refused f h = rw (is, ← same, ← h)

        module _ (fine : Ok tt ≡ tests) where
          module _ (f : Failure) (q : f ≡ record { refusal = LogTooLong; index = 0 }) where
            too_long : 32768 < length all → Err f ≡ answer
            unfolding written_of
            too_long h = rw (is, ← same, ← fine, lt-ltb 32768 (length all) h, q)

            pub long_notes : 32760 < length notes → Err f ≡ answer
            long_notes h = too_long (omega (arith, size_is))

            pub long_run : length notes ≤ 32760 → 32760 - length notes < length run → Err f ≡ answer
            long_run h l = too_long (omega (arith, size_is))

          module _ (n : ℕ) (sum : n ≡ length notes + length run + 8) (short : n ≤ 32768) where
            pub no_room : (f : Failure) → f ≡ record { refusal = OutputTooShort; index = 0 } → room < n → Err f ≡ answer
            unfolding written_of
            no_room f q h = rw (is, ← same, ← fine, le-ltb 32768 (length all) (omega (arith, size_is)), lt-ltb room (length all) (omega (arith, size_is)), q)

            pub all_written : n ≤ room → Ok n ≡ answer
            unfolding written_of
            all_written h =
                let long : length all ≡ n = size_is ∙ sym sum in
                rw (is, ← same, ← fine, long, le-ltb 32768 n short, le-ltb room n h)

    -- ---- what an accepted write says

    pub record Accepted (n : ℕ) : Type 0 where
      pub size : n ≡ length all
      pub edition_known : known edition ≡ true
      pub whole_run : length run % 16 ≡ 0
      pub all_fine : first_of (edition_of edition) 0 (records_in run) ≡ Ok tt
      pub short : length all ≤ 32768
      pub fits : length all ≤ room

    pub accepted : (n : ℕ) → answer ≡ Ok n → Accepted n
    unfolding written_of
    accepted n =
        by (known edition) (eqb (length run % 16) 0) (first_of (edition_of edition) 0 (records_in run)) (ltb 32768 (length all)) (ltb room (length all)) refl refl refl refl refl
      where
        by : (a b : Bool) (c : Result (Unit {0}) Failure) (d f : Bool) → known edition ≡ a → eqb (length run % 16) 0 ≡ b → first_of (edition_of edition) 0 (records_in run) ≡ c
            → ltb 32768 (length all) ≡ d → ltb room (length all) ≡ f
            → cond (not a) (refused_by WrongEdition) (result_and (result_and (cond {A = Result (Unit {0}) Failure} b (Ok tt) (refused_by WrongDistance)) c) (cond d (refused_by LogTooLong) (cond f (refused_by OutputTooShort) (Ok (length all))))) ≡ Ok n
            → Accepted n
        by false b c d f p q r s t h = absurd (cc)
        by true false c d f p q r s t h = absurd (cc)
        by true true (Err g) d f p q r s t h = absurd (cc)
        by true true (Ok u) true f p q r s t h = absurd (cc)
        by true true (Ok u) false true p q r s t h = absurd (cc)
        by true true (Ok u) false false p q r s t h = record {
          size = (cc);
          edition_known = p;
          whole_run = eqb-true (length run % 16) 0 q;
          all_fine = r;
          short = ltb-false 32768 (length all) s;
          fits = ltb-false room (length all) t;
        }

  -- ---- the buffer

  module _ (out : List ℕ) (w : Result ℕ Failure) (is : w ≡ written_of edition notes run (length out)) where
    pub placed : (n : ℕ) → w ≡ Ok n → (out' : List ℕ) (m : ℕ) → Put out 0 (log_of notes run edition) out' m → out' ≡ output_of edition notes run out
    unfolding over
    placed n h out' m x =
        let room = (accepted (length out) n (sym is ∙ h)).fits in
        rw (← is, h) (x.bytes ∙ sets-eq all out 0 (omega arith) ∙ ap (λ (k : ℕ). all ++ drop k out) (zero-add (length all)))

-- ---- the log, part by part

pub put_three : (edition : ℕ) (notes run last a b c d : List ℕ) (p q r : ℕ) → Put a 0 notes b p → Put b p run c q → last ≡ trailer edition (length run) → Put c q last d r
    → Put a 0 (log_of notes run edition) d r
put_three edition notes run last a b c d p q r x y e z =
    rw (← e) (put_then a c d (notes ++ run) last 0 q r (put_then a b c notes run 0 p q x y) z)
