-- The ways of a written log to its output. Assumes nothing.
use mathlib.Core.Path.{◌≡◌, refl, ap, ◌∙◌, subst}
use mathlib.Core.Bool.{Bool, true, false, not, cond}
use mathlib.Core.List.{List, [], ◌∷◌, ◌++◌}
use Prim.Native.Nat.{ℕ, ◌+◌, ◌/◌, ◌%◌, ◌^◌, ◌≤◌, ◌<◌}
use native.Mathlib.Omega.{arith}
use lib.Dec.{ltb, eqb}
use lib.ListN.{length, drop, length-append}
use borrow.Author.Tests.{le-ltb, ltb-false}
use Rattle.std.specs.Prelude.{Option, None, Some, Result, Ok, Err}
use Rattle.std.specs.Result.{result_and, result_err}
use Rattle.decimal.specs.Ascii.{ascii}
use Rattle.outside.specs.Counts.{IsPrefixLen}
use Rattle.decimal.specs.Digits.{digits_of}
use Rattle.decimal.specs.Put.{Put}
use Rattle.decimal.proofs.Back.{twenty_digits}
use Rattle.decimal.proofs.Puts.{put_whole}
use Rattle.text.specs.Text.{line, no_number_text}
use Rattle.edition.specs.declared.Edition.{Edition}
use Rattle.edition.specs.Edition.{known, edition_of}
use Rattle.fold.specs.Output.{over}
use Rattle.refused.specs.Number.{number}
use Rattle.refused.specs.declared.Refusal.{Refusal}
use Rattle.refused.specs.declared.Refusal.TheVariants.{LogTooLong, WrongEdition, WrongDistance, OutputTooShort}
use Rattle.wire.specs.Decode.{decode_of}
use Rattle.wire.proofs.Formed.{refused_by_lem}
use Rattle.records.specs.declared.Record.{Record}
use Rattle.records.specs.Record.{refusal_of}
use Rattle.trailer.proofs.Laws.{length_records}
use Rattle.made.specs.declared.Failure.{Failure}
use Rattle.writer.specs.How.{records_in}
use Rattle.writer.specs.Writer.{log_of, refused_by, whole, first_by, first_of, written_of, output_of}
use Rattle.writer.proofs.Answers.{accepted}
use Rattle.printed.specs.Printed.{Prints, Printing, size_of}
use Rattle.printed.proofs.Prints.{put_counts, prints_made, prints_refused}
use Rattle.write_print.specs.Printed.{WritePrinted}

-- ---- a record that is refused is one of the run's

module _ (most : ℕ) where
  Small : {A : Type 0} → Result A Failure → Type 0
  Small (Ok n) = Unit {0}
  Small (Err f) = (f.index ≤ most) × (number f.refusal < 9)

  fixed : (A : Type 0) (k : Refusal) → number k < 9 → Small {A = A} (refused_by k)
  unfolding Small
  fixed A k h = (omega arith, h)

  small_cond : {A : Type 0} (t : Bool) (x y : Result A Failure) → Small x → Small y → Small (cond t x y)
  small_cond true x y p q = p
  small_cond false x y p q = q

  small_and : {A B : Type 0} (x : Result A Failure) (y : Result B Failure) → Small x → Small y → Small (result_and x y)
  unfolding Small
  small_and (Ok n) y p q = q
  small_and (Err f) y p q = p

  first_small : (e : Edition) (i : ℕ) (rs : List (List ℕ)) → i + length rs ≤ most → Small (first_of e i rs)
  unfolding Small first_of
  first_small e i [] h = tt
  first_small e i (r ∷ rs) h = by (decode_of e r) refl (first_small e (i + 1) rs (omega arith))
    where
      by : (d : Result Record Refusal) → decode_of e r ≡ d → Small (first_of e (i + 1) rs) → Small (first_by (refusal_of d) i (first_of e (i + 1) rs))
      by (Ok q) p s = s
      by (Err k) p s = (omega arith, (refused_by_lem e r k p).1)

module _ (edition : ℕ) (notes run : List ℕ) (room : ℕ) where
  abbrev size : ℕ
  size = length (log_of notes run edition)

  abbrev few : ℕ
  few = length run / 16

  small : Small few (written_of edition notes run room)
  unfolding Small written_of
  small =
      small_cond few (not (known edition)) _ _ (fixed few ℕ WrongEdition (omega arith))
      (small_and few (result_and (whole (length run)) (first_of (edition_of edition) 0 (records_in run))) _
      (small_and few (whole (length run)) (first_of (edition_of edition) 0 (records_in run))
      (small_cond few (eqb (length run % 16) 0) (Ok tt) (refused_by WrongDistance) tt (fixed few (Unit {0}) WrongDistance (omega arith)))
      (first_small few (edition_of edition) 0 (records_in run) (omega (arith, length_records 16 few run))))
      (small_cond few (ltb 32768 size) (refused_by LogTooLong) _ (fixed few ℕ LogTooLong (omega arith))
      (small_cond few (ltb room size) (refused_by OutputTooShort) (Ok size) (fixed few ℕ OutputTooShort (omega arith)) tt)))

  -- every log has room in 32,768 bytes
  roomy : 32768 ≤ room → written_of edition notes run room ≡ written_of edition notes run 32_768
  unfolding written_of
  roomy h = by (ltb 32768 size) refl
    where
      by : (d : Bool) → ltb 32768 size ≡ d → written_of edition notes run room ≡ written_of edition notes run 32_768
      by true e = rw e
      by false e = rw (e, le-ltb room size (omega (arith, ltb-false 32768 size e)))

-- ---- the ways

module _ (edition : ℕ) (notes run out mid out' : List ℕ) (p : Result ℕ ℕ) (room : 32768 ≤ length out) (short : length run < 2 ^ 64) (w : Result ℕ Failure)
    (is : w ≡ written_of edition notes run (length out)) (left : mid ≡ output_of edition notes run out) (x : Printing w mid out' p) where
  same : w ≡ written_of edition notes run 32_768
  same = is ∙ roomy edition notes run (length out) room

  pub log_printed : WritePrinted (Some edition) notes run out' p
  unfolding over Small
  log_printed = by (written_of edition notes run (length out)) refl (subst (λ (v : Result ℕ Failure). Printing v mid out' p) is x) (small edition notes run (length out))
    where
      by : (v : Result ℕ Failure) → written_of edition notes run (length out) ≡ v → Printing v mid out' p → Small (length run / 16) v
          → Prints (result_err (written_of edition notes run 32_768)) (log_of notes run edition) out' p
      by (Ok n) e y s =
          let log = log_of notes run edition in
          let a = accepted edition notes run (length out) n e in
          rw (← roomy edition notes run (length out) room, e) (prints_made log mid out' p n (drop (length log) out) y a.size (left ∙ rw e))
      by (Err f) e y s =
          let m : mid ≡ out = left ∙ rw e in
          rw (← roomy edition notes run (length out) room, e) (prints_refused (log_of notes run edition) mid out' p f y (omega (arith, s.1)) (omega (arith, s.0)) (omega (arith, ap length m)))

-- what is no number
abbrev edition_word : List ℕ
edition_word = ascii "EDITION"

none_short : length (no_number_text edition_word) ≤ 60
none_short =
    let most = digits_of 18_446_744_073_709_551_615 in
    omega (arith, length-append edition_word (line (ascii " is no decimal number from 0 to " ++ most)), length-append (ascii " is no decimal number from 0 to " ++ most) (10 ∷ []), length-append (ascii " is no decimal number from 0 to ") most, twenty_digits 18_446_744_073_709_551_615 (omega arith))

pub no_number_printed : (edition : Option ℕ) (notes run out out' : List ℕ) (n : ℕ) → edition ≡ None → 32768 ≤ length out → Put out 0 (no_number_text edition_word) out' n
    → WritePrinted edition notes run out' (Err n)
no_number_printed edition notes run out out' n e room x = rw e
    (record { counts = put_counts out out' (no_number_text edition_word) n x; bytes = (put_whole out (no_number_text edition_word) out' n x (omega (arith, none_short))).1; where_to = refl })

pub number_printed : (edition : Option ℕ) (k : ℕ) (notes run out' : List ℕ) (p : Result ℕ ℕ) → edition ≡ Some k → WritePrinted (Some k) notes run out' p → WritePrinted edition notes run out' p
number_printed edition k notes run out' p e h = rw e h

pub some_counts : (edition : Option ℕ) (notes run out' : List ℕ) (p : Result ℕ ℕ) → WritePrinted edition notes run out' p → IsPrefixLen (size_of p) out'
some_counts None notes run out' p h = h.counts
some_counts (Some k) notes run out' p h = h.counts
