-- The answer to a text, by what the reader tells of it; and that it is the only one. Assumes nothing.
use mathlib.Core.Path.{◌≡◌, refl, sym, ap, ◌∙◌}
use mathlib.Core.Bool.{Bool, true, false}
use mathlib.Core.List.{List}
use Prim.Native.Nat.{ℕ, ◌*◌, ◌≤◌, ◌<◌}
use native.Mathlib.Omega.{arith}
use lib.Dec.{leb}
use lib.ListN.{length}
use borrow.Author.Tests.{leb-true, leb-false}
use Rattle.fold.specs.Output.{over}
use Rattle.vcd.specs.Entries.{Entry}
use Rattle.vcd.specs.Reader.{Reads}
use Rattle.vcd.specs.How.{Told, entries, refusal, read_of}
use Rattle.vcd.proofs.Readings.{reads_told, told_reads}
use Rattle.dump_read.specs.How.{bytes_of}
use Rattle.dump_read.specs.Reading.{Answer, Settled, count_of}
use Rattle.std.specs.Prelude.{Option, None, Some, Result, Ok, Err}
use Rattle.std.specs.Result.{result_err}
use Rattle.refused.specs.declared.Refusal.{Refusal}
use Rattle.refused.specs.Number.{number_of}
use Rattle.refused.proofs.Numbers.{positive, one_refusal}

module _ (text out : List ℕ) where
  module _ (e : read_of text ≡ refusal) where
    none : (xs : List Entry) → Reads text xs → ⊥
    none xs r = let f = reads_told text xs r in let z : ◌≡◌ {A = ℕ} 0 1 = cc in omega arith

    pub refusing : Answer text out 20 0 out
    refusing = record { read = λ xs r h. absurd (none xs r); cramped = λ xs r h. absurd (none xs r); other = λ n. (refl, refl, refl) }

  module _ (xs : List Entry) (e : read_of text ≡ entries xs) where
    same_as : (ys : List Entry) → Reads text ys → xs ≡ ys
    same_as ys r = let f = reads_told text ys r in cc

    pub too_small : length out < 16 * length xs → Answer text out 6 0 out
    too_small h = record {
      read = λ ys r l. absurd (omega (arith, ap length (same_as ys r)));
      cramped = λ ys r l. (refl, refl, refl);
      other = λ n. absurd (n xs (told_reads text xs e));
    }

    pub reading_all : (count : ℕ) (out' : List ℕ) → 16 * length xs ≤ length out → count ≡ length xs → out' ≡ over (bytes_of xs) out → Answer text out 0 count out'
    reading_all count out' h c o = record {
      read = λ ys r l. (refl, c ∙ ap length (same_as ys r), o ∙ ap (λ (zs : List Entry). over (bytes_of zs) out) (same_as ys r));
      cramped = λ ys r l. absurd (omega (arith, ap length (same_as ys r)));
      other = λ n. absurd (n xs (told_reads text xs e));
    }

  module _ (o p : List ℕ) (j k m n : ℕ) (a : Answer text out j m o) (b : Answer text out k n p) where
    agree : (x y : ℕ) (q : List ℕ) → (j ≡ x) × (m ≡ y) × (o ≡ q) → (k ≡ x) × (n ≡ y) × (p ≡ q) → (j ≡ k) × (m ≡ n) × (o ≡ p)
    agree x y q f g = (f.0 ∙ sym g.0, f.1 ∙ sym g.1, f.2 ∙ sym g.2)

    by_told : (t : Told) → read_of text ≡ t → (j ≡ k) × (m ≡ n) × (o ≡ p)
    by_told refusal e = agree 20 0 out (a.other (none e)) (b.other (none e))
    by_told (entries xs) e = by_room (leb (16 * length xs) (length out)) refl
      where
        r : Reads text xs
        r = told_reads text xs e

        by_room : (t : Bool) → leb (16 * length xs) (length out) ≡ t → (j ≡ k) × (m ≡ n) × (o ≡ p)
        by_room true q = let h = leb-true (16 * length xs) (length out) q in agree 0 (length xs) (over (bytes_of xs) out) (a.read xs r h) (b.read xs r h)
        by_room false q = let h = leb-false (16 * length xs) (length out) q in agree 6 0 out (a.cramped xs r h) (b.cramped xs r h)

  few : (o : List ℕ) (j m : ℕ) → Answer text out j m o → j < 21
  few o j m a = by_told (read_of text) refl
    where
      by_told : (t : Told) → read_of text ≡ t → j < 21
      by_told refusal e = omega (arith, (a.other (none e)).0)
      by_told (entries xs) e = by_room (leb (16 * length xs) (length out)) refl
        where
          by_room : (t : Bool) → leb (16 * length xs) (length out) ≡ t → j < 21
          by_room true q = omega (arith, (a.read xs (told_reads text xs e) (leb-true (16 * length xs) (length out) q)).0)
          by_room false q = omega (arith, (a.cramped xs (told_reads text xs e) (leb-false (16 * length xs) (length out) q)).0)

pub settled : Settled
settled text out o p j k m n a b = by_told text out o p j k m n a b (read_of text) refl

-- ---- and so the Result is the only one, too

refusal_in : Refusal → Option Refusal → Refusal
refusal_in k None = k
refusal_in k (Some j) = j

same_result : (r s : Result ℕ Refusal) → number_of (result_err r) ≡ number_of (result_err s) → count_of r ≡ count_of s → number_of (result_err r) < 21 → r ≡ s
unfolding refusal_in
same_result (Ok m) (Ok n) e c h = ap Ok c
same_result (Ok m) (Err k) e c h = absurd (omega (arith, e, positive k))
same_result (Err k) (Ok n) e c h = absurd (omega (arith, e, positive k))
same_result (Err k) (Err j) e c h = ap (λ (o : Option Refusal). Err (refusal_in k o)) (one_refusal (Some k) (Some j) e (λ z. omega (arith, h, z)))

pub one_read : (text out o p : List ℕ) (r s : Result ℕ Refusal) → Answer text out (number_of (result_err r)) (count_of r) o
    → Answer text out (number_of (result_err s)) (count_of s) p → (r ≡ s) × (o ≡ p)
one_read text out o p r s a b =
    let t = settled text out o p _ _ _ _ a b in
    (same_result r s t.0 t.1 (few text out o _ _ a), t.2)
