-- Laws of the parts of a flat list.
-- Assumes nothing.
use mathlib.Core.Path.{◌≡◌, sym, ap, ◌∙◌}
use mathlib.Core.List.{List, ◌++◌, append_assoc}
use Prim.Native.Nat.{ℕ, ◌+◌, ◌*◌, ◌≤◌, ◌<◌}
use native.Mathlib.Omega.{arith}
use native.Mathlib.Nat.{mul-zero, mul-one, zero-add}
use native.Mathlib.Numerals.{add-one}
use lib.ListN.{length, get_or, set, take, drop}
use lib.Seq.{get_or-take, get_or-drop, take-set-le, take-set-lt, drop-set-lt, drop-set-add, length-take-le, take_all, take_at, drop_at, paste, paste-suc, drop-paste}
use Rattle.banks.specs.How.{part}

module _ {A : Type 0} (n : ℕ) (l : List A) (i : ℕ) (h : i < n) where
  pub part_get : (k : ℕ) (d : A) → get_or l (n * k + i) d ≡ get_or (part n k l) i d
  part_get k d = sym (get_or-take n (drop (n * k) l) i d h ∙ get_or-drop (n * k) l i d)

  pub part_set : (k : ℕ) (x : A) → part n k (set l (n * k + i) x) ≡ set (part n k l) i x
  part_set k x = ap (take n) (drop-set-add (n * k) l i x) ∙ take-set-lt n (drop (n * k) l) i x h

  pub first_beside : (x : A) → part n 0 (set l (n * 1 + i) x) ≡ part n 0 l
  first_beside x = rw (mul-zero n) (take-set-le n l (n * 1 + i) x (omega arith))

  pub second_beside : (x : A) → part n 1 (set l (n * 0 + i) x) ≡ part n 1 l
  second_beside x = ap (take n) (drop-set-lt (n * 1) l (n * 0 + i) x (omega arith))

-- ---- a part copied in, and one copied out

module _ {A : Type 0} (n : ℕ) (l s : List A) (ls : length s ≡ n) where
  pub copied_in : (k : ℕ) → n * k ≤ length l → part n k (paste l (n * k) s n) ≡ s
  copied_in k h =
      ap (take n) (ap (drop (n * k)) (append_assoc (take (n * k) l) (take n s) (drop (n * k + n) l)) ∙ drop_at (take (n * k) l) (take n s ++ drop (n * k + n) l) (n * k) (length-take-le (n * k) l h))
      ∙ take_at (take n s) (drop (n * k + n) l) n (length-take-le n s (omega (arith, ls)))
      ∙ take_all n s (omega (arith, ls))

  pub first_kept : n ≤ length l → part n 0 (paste l (n * 1) s n) ≡ part n 0 l
  first_kept h =
      rw (mul-zero n, mul-one n)
      (ap (take n) (append_assoc (take n l) (take n s) (drop (n + n) l)) ∙ take_at (take n l) (take n s ++ drop (n + n) l) n (length-take-le n l h))

  pub second_kept : part n 1 (paste l (n * 0) s n) ≡ part n 1 l
  second_kept =
      let e : n * 1 ≡ n * 0 + n = omega arith in
      rw e (ap (take n) (drop-paste l (n * 0) s n (omega arith) (omega (arith, ls))))

-- one element more, copied over what d had
pub copied_one : {A : Type 0} (d l s : List A) (i : ℕ) (x : A) → l ≡ paste d 0 s i → x ≡ get_or s i x → i < length d → i < length s → set l i x ≡ paste d 0 s (i + 1)
copied_one {A} d l s i x e is h w =
    let there : 0 + i < length d = omega arith in
    let more = paste-suc d 0 s i x there w in
    rw (e, add-one i) (ap (λ (y : A). set (paste d 0 s i) i y) is ∙ ap (λ (j : ℕ). set (paste d 0 s i) j (get_or s i x)) (sym (zero-add i)) ∙ more)
