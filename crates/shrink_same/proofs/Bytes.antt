-- The smaller log's own trailer and records. Assumes nothing.
use mathlib.Core.Path.{◌≡◌, refl, ap, ◌∙◌, subst}
use mathlib.Core.Bool.{Bool, true, false, not, cond}
use mathlib.Core.List.{List, ◌++◌, append_assoc, flatten}
use Prim.Native.Nat.{ℕ, ◌/◌, ◌≤◌}
use native.Mathlib.Omega.{arith}
use lib.ListN.{length, take, drop}
use lib.Seq.{take-append_seam, drop-append_seam}
use borrow.Author.Tests.{not-false}
use Rattle.fold.specs.Device.{records}
use Rattle.edition.specs.Edition.{known}
use Rattle.trailer.specs.Trailer.{trailer_of, records_at, records_of}
use Rattle.trailer.specs.declared.Trailer.{Trailer}
use Rattle.std.specs.Prelude.{Result, Ok, Err}
use Rattle.refused.specs.declared.Refusal.{Refusal}
use Rattle.writer.specs.Writer.{log_of}
use Rattle.writer.specs.How.{trailer}
use Rattle.writer.proofs.Back.{trailer_back}
use Rattle.shrink_rule.proofs.Every.{Sixteen, concat_long, records_concat}

-- ---- a trailer that is found names an edition

OfEdition : Result Trailer Refusal → Type 0
OfEdition (Ok t) = known t.edition ≡ true
OfEdition (Err k) = Unit {0}

in_cases : (t : Bool) (x y : Result Trailer Refusal) → (t ≡ true → OfEdition x) → (t ≡ false → OfEdition y) → OfEdition (cond t x y)
in_cases true x y p q = p refl
in_cases false x y p q = q refl

of_refused : (k : Refusal) → OfEdition (Err k)
unfolding OfEdition
of_refused k = tt

of_found : (t : Trailer) → not (known t.edition) ≡ false → OfEdition (Ok t)
unfolding OfEdition
of_found t h = not-false (known t.edition) h

of_edition : (s : List ℕ) → OfEdition (trailer_of s)
unfolding trailer_of
of_edition s = search (in_cases, of_refused, of_found) depth 12

pub is_known : (s : List ℕ) (t : Trailer) → trailer_of s ≡ Ok t → known t.edition ≡ true
unfolding OfEdition
is_known s t f = subst OfEdition f (of_edition s)

-- ---- records between notes and trailer

module _ (notes : List ℕ) (rs : List (List ℕ)) (e : ℕ) (sixteen : Sixteen rs) (is : known e ≡ true) (short : length (log_of notes (flatten rs) e) ≤ 32768) where
  abbrev tail : List ℕ
  tail = trailer e (length (flatten rs))

  pub new_trailer : trailer_of (log_of notes (flatten rs) e) ≡ Ok (record { start = length notes; count = length rs; edition = e })
  new_trailer =
      let long = concat_long rs sixteen in
      let count : length (flatten rs) / 16 ≡ length rs = omega arith in
      trailer_back e notes (flatten rs) is (omega arith) short ∙ ap {B = Result Trailer Refusal} (λ (n : ℕ). Ok (record { start = length notes; count = n; edition = e })) count

  pub new_records : records_of (log_of notes (flatten rs) e) ≡ rs
  new_records =
      ap (λ (x : Result Trailer Refusal). records_at x (log_of notes (flatten rs) e)) new_trailer
      ∙ ap (λ (s : List ℕ). records 16 (length rs) (drop (length notes) s)) (append_assoc notes (flatten rs) tail)
      ∙ ap (records 16 (length rs)) (drop-append_seam notes (flatten rs ++ tail))
      ∙ records_concat rs tail sixteen

  pub new_notes : take (length notes) (log_of notes (flatten rs) e) ≡ notes
  new_notes = ap (take (length notes)) (append_assoc notes (flatten rs) tail) ∙ take-append_seam notes (flatten rs ++ tail)
