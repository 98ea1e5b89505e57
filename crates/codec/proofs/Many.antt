-- An array of values of one width: one law for any codec.
-- Assumes nothing.
use mathlib.Core.Path.{◌≡◌, refl, ap, ◌∙◌}
use mathlib.Core.Bool.{Bool, true, ◌&&◌}
use mathlib.Core.List.{List, [], ◌∷◌}
use Prim.Native.Nat.{ℕ, zero, suc, ◌+◌, ◌*◌}
use native.Mathlib.Omega.{arith}
use lib.ListN.{length, length-append}
use Rattle.laws.proofs.Truth.{both_true}
use Rattle.codec.specs.How.{Has, Bytes, Lawful, save_many, load_many, ok_many, Each, FitMany}
use Rattle.codec.proofs.Has.{has_first, has_second, has_both, bytes_both}

pub both : (a b : Bool) → a ≡ true → b ≡ true → (a && b) ≡ true
both a b p q = rw p q

none : {A : Type 0} (n : ℕ) → suc n ≡ 0 → A
none n e = absurd (omega arith)

some : {A : Type 0} (n : ℕ) → 0 ≡ suc n → A
some n e = absurd (omega arith)

less : (m n : ℕ) → suc m ≡ suc n → m ≡ n
less m n e = omega arith

module _ {X : Type 0} {w : ℕ} {save : X → List ℕ} {load : List ℕ → ℕ → X} {ok : List ℕ → ℕ → Bool} {Fits : X → Type 0} (l : Lawful w save load ok Fits) where
  long : (xs : List X) → Each Fits xs → length (save_many save xs) ≡ length xs * w
  unfolding save_many
  long [] f = omega arith
  long (x ∷ xs) f = omega (arith, length-append (save x) (save_many save xs), l.long x f.0, long xs f.1)

  all_bytes : (xs : List X) → Each Fits xs → Bytes (save_many save xs)
  unfolding save_many
  all_bytes [] f = λ i. omega arith
  all_bytes (x ∷ xs) f = bytes_both (save x) (save_many save xs) (l.bytes x f.0) (all_bytes xs f.1)

  -- the first value's bytes, and those of the rest
  module _ (x : X) (xs : List X) (fit : Fits x) (s : List ℕ) (at : ℕ) where
    here : Has s at (save_many save (x ∷ xs)) → Has s at (save x)
    unfolding save_many
    here h = has_first s (save x) (save_many save xs) at h

    rest : Has s at (save_many save (x ∷ xs)) → Has s (at + w) (save_many save xs)
    unfolding save_many
    rest h = has_second s (save x) (save_many save xs) at w (l.long x fit) h

  back : (n : ℕ) (xs : List X) → FitMany Fits n xs → (s : List ℕ) (at : ℕ) → Has s at (save_many save xs) → load_many w load n s at ≡ xs
  unfolding load_many
  back zero [] f s at h = refl
  back zero (x ∷ xs) f s at h = none (length xs) f.0
  back (suc n) [] f s at h = some n f.0
  back (suc n) (x ∷ xs) f s at h =
      rw (l.back x f.1.0 s at (here x xs f.1.0 s at h), back n xs (less _ _ f.0, f.1.1) s (at + w) (rest x xs f.1.0 s at h))

  passes : (n : ℕ) (xs : List X) → FitMany Fits n xs → (s : List ℕ) (at : ℕ) → Has s at (save_many save xs) → ok_many w ok n s at ≡ true
  unfolding ok_many
  passes zero [] f s at h = refl
  passes zero (x ∷ xs) f s at h = none (length xs) f.0
  passes (suc n) [] f s at h = some n f.0
  passes (suc n) (x ∷ xs) f s at h =
      both _ _ (l.passes x f.1.0 s at (here x xs f.1.0 s at h)) (passes n xs (less _ _ f.0, f.1.1) s (at + w) (rest x xs f.1.0 s at h))

  image : (n : ℕ) (s : List ℕ) (at : ℕ) → Bytes s → ok_many w ok n s at ≡ true → Has s at (save_many save (load_many w load n s at))
  unfolding load_many ok_many save_many
  image zero s at b h = tt
  image (suc n) s at b h =
      let p = both_true _ _ h in
      has_both s (save (load s at)) (save_many save (load_many w load n s (at + w))) at w (l.long _ (l.fits s at b p.0)) (l.image s at b p.0) (image n s (at + w) b p.1)

  fits : (n : ℕ) (s : List ℕ) (at : ℕ) → Bytes s → ok_many w ok n s at ≡ true → FitMany Fits n (load_many w load n s at)
  unfolding load_many ok_many
  fits zero s at b h = (refl, tt)
  fits (suc n) s at b h =
      let p = both_true _ _ h in
      let r = fits n s (at + w) b p.1 in
      (ap suc r.0, (l.fits s at b p.0, r.1))

  pub many_lawful : (n : ℕ) → Lawful (n * w) (save_many save) (load_many w load n) (ok_many w ok n) (FitMany Fits n)
  many_lawful n = record {
    long = λ xs f. long xs f.1 ∙ ap (λ (m : ℕ). m * w) f.0;
    bytes = λ xs f. all_bytes xs f.1;
    back = back n;
    passes = passes n;
    image = image n;
    fits = fits n;
  }
