-- Arrays by their elements: what holds of each, what a test says of each, and an array read in two parts.
-- Assumes nothing.
use mathlib.Core.Path.{◌≡◌, refl, sym, ap}
use mathlib.Core.Bool.{Bool, true}
use mathlib.Core.List.{List, [], ◌∷◌, ◌++◌}
use Prim.Native.Nat.{ℕ, zero, suc, ◌+◌, ◌*◌, ◌<◌}
use native.Mathlib.Omega.{arith}
use native.Mathlib.Nat.{add-zero, zero-add, suc-add, mul-zero, zero-mul, not-suc-le-zero, le_of_suc-le-suc}
use lib.ListN.{length, take, drop, get_or}
use Rattle.laws.proofs.Truth.{both_true}
use Rattle.numbers.specs.Bytes.{byte}
use Rattle.codec.specs.How.{load_many, ok_many, Each}
use Rattle.codec.proofs.Many.{both}

-- ---- what holds of each

module _ {X : Type 0} (Fits : X → Type 0) where
  pub each_get : (xs : List X) (d : X) → Fits d → Each Fits xs → (i : ℕ) → Fits (get_or xs i d)
  each_get [] d p f i = p
  each_get (x ∷ xs) d p f zero = f.0
  each_get (x ∷ xs) d p f (suc i) = each_get xs d p f.1 i

  pub get_each : (xs : List X) (d : X) → ((i : ℕ) → Fits (get_or xs i d)) → Each Fits xs
  get_each [] d p = tt
  get_each (x ∷ xs) d p = (p zero, get_each xs d (λ i. p (suc i)))

  pub each_append : (xs ys : List X) → Each Fits xs → Each Fits ys → Each Fits (xs ++ ys)
  each_append [] ys f g = g
  each_append (x ∷ xs) ys f g = (f.0, each_append xs ys f.1 g)

  pub each_take : (n : ℕ) (xs : List X) → Each Fits xs → Each Fits (take n xs)
  each_take zero xs f = tt
  each_take (suc n) [] f = tt
  each_take (suc n) (x ∷ xs) f = (f.0, each_take n xs f.1)

  pub each_drop : (n : ℕ) (xs : List X) → Each Fits xs → Each Fits (drop n xs)
  each_drop zero xs f = f
  each_drop (suc n) [] f = tt
  each_drop (suc n) (x ∷ xs) f = each_drop n xs f.1

-- ---- an array read in two parts

module _ {X : Type 0} (w : ℕ) (load : List ℕ → ℕ → X) (s : List ℕ) where
  pub take_many : (n m at : ℕ) → take n (load_many w load (n + m) s at) ≡ load_many w load n s at
  unfolding load_many
  take_many zero m at = refl
  take_many (suc n) m at = rw (suc-add n m) (ap (λ t. load s at ∷ t) (take_many n m (at + w)))

  pub drop_many : (n m at : ℕ) → drop n (load_many w load (n + m) s at) ≡ load_many w load m s (at + n * w)
  unfolding load_many
  drop_many zero m at = rw (zero-mul w, add-zero at, zero-add m)
  drop_many (suc n) m at =
      let e : at + suc n * w ≡ at + w + n * w = omega arith in
      rw (e, suc-add n m) (drop_many n m (at + w))

  pub length_many : (n at : ℕ) → length (load_many w load n s at) ≡ n
  unfolding load_many
  length_many zero at = refl
  length_many (suc n) at = ap suc (length_many n (at + w))

-- bytes
pub byte_many : (s : List ℕ) (n at j : ℕ) → j < n → byte (load_many 1 byte n s at) j ≡ byte s (at + j)
unfolding load_many
byte_many s zero at j h = absurd (not-suc-le-zero h)
byte_many s (suc n) at zero h = ap (byte s) (sym (add-zero at))
byte_many s (suc n) at (suc j) h =
    let e : at + suc j ≡ at + 1 + j = omega arith in
    rw e (byte_many s n (at + 1) j (le_of_suc-le-suc h))

-- ---- a test of each

module _ (w : ℕ) (ok : List ℕ → ℕ → Bool) (s : List ℕ) where
  pub many_each : (n at : ℕ) → ok_many w ok n s at ≡ true → (j : ℕ) → j < n → ok s (at + w * j) ≡ true
  unfolding ok_many
  many_each zero at h j l = absurd (not-suc-le-zero l)
  many_each (suc n) at h zero l = rw (mul-zero w, add-zero at) (both_true (ok s at) (ok_many w ok n s (at + w)) h).0
  many_each (suc n) at h (suc j) l =
      let e : at + w * suc j ≡ at + w + w * j = omega arith in
      rw e (many_each n (at + w) (both_true (ok s at) (ok_many w ok n s (at + w)) h).1 j (le_of_suc-le-suc l))

  pub each_many : (n at : ℕ) → ((j : ℕ) → j < n → ok s (at + w * j) ≡ true) → ok_many w ok n s at ≡ true
  unfolding ok_many
  each_many zero at h = refl
  each_many (suc n) at h =
      both (ok s at) (ok_many w ok n s (at + w))
      (let e : at + w * 0 ≡ at = omega arith in rw e at (h 0 (omega arith)))
      (each_many n (at + w) (λ j l. let e : at + w * suc j ≡ at + w + w * j = omega arith in rw e at (h (suc j) (omega arith))))

-- two tests that say the same of each
pub same_many : (w : ℕ) (ok ok' : List ℕ → ℕ → Bool) (s : List ℕ) → ((at : ℕ) → ok s at ≡ ok' s at) → (n at : ℕ) → ok_many w ok n s at ≡ ok_many w ok' n s at
unfolding ok_many
same_many w ok ok' s e zero at = refl
same_many w ok ok' s e (suc n) at = rw (e at, same_many w ok ok' s e n (at + w))
