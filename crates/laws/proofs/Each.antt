-- A loop that replaces each element of a list by f of it and its place, from the front: one law for any element type.
-- Assumes nothing.
use mathlib.Core.Path.{◌≡◌, refl, ap, sym, ◌∙◌}
use mathlib.Core.List.{List, [], ◌∷◌, ◌++◌, map}
use Prim.Native.Nat.{ℕ, zero, suc, ◌+◌, ◌≤◌, ◌<◌}
use native.Mathlib.Omega.{arith}
use native.Mathlib.Nat.{le_of_suc-le-suc, not-suc-le-zero, zero-add, add-zero, le_antisymm}
use native.Mathlib.Numerals.{add-one}
use lib.ListN.{length, take, drop, set, get_or, replicate, length-map, length-append, take-append-drop}
use Rattle.laws.specs.Each.{map_from}

-- an array of structs in a field: what owning it tells is of the list under a map
pub long_field : (X Y : Type 0) (f : X → Y) (l : List X) (n : ℕ) → length (map f l) ≡ n → length l ≡ n
long_field X Y f l n e = sym (length-map l f) ∙ e

-- the first i elements replaced
abbrev pub front : {X : Type 0} → (ℕ → X → X) → ℕ → ℕ → List X → List X
front f k i l = map_from f k (take i l) ++ drop i l

pub front_none : {X : Type 0} (f : ℕ → X → X) (l : List X) → front f 0 0 l ≡ l
unfolding map_from
front_none f l = refl

more_from : {X : Type 0} (f : ℕ → X → X) (d : X) (k : ℕ) (l : List X) (i : ℕ) → i < length l → set (front f k i l) i (f (i + k) (get_or (front f k i l) i d)) ≡ front f k (suc i) l
unfolding map_from
more_from f d k [] i h = absurd (not-suc-le-zero h)
more_from f d k (x ∷ l) zero h = rw (zero-add k)
more_from f d k (x ∷ l) (suc i) h =
    let e : suc i + k ≡ i + suc k = omega arith in
    rw e (ap (λ t. f k x ∷ t) (more_from f d (suc k) l i (le_of_suc-le-suc h)))

pub front_more : {X : Type 0} (f : ℕ → X → X) (d : X) (l : List X) (i : ℕ) → i < length l → set (front f 0 i l) i (f i (get_or (front f 0 i l) i d)) ≡ front f 0 (i + 1) l
front_more f d l i h = rw (add-one i) (rw (add-zero i) at (more_from f d 0 l i h))

all_from : {X : Type 0} (f : ℕ → X → X) (k : ℕ) (l : List X) → front f k (length l) l ≡ map_from f k l
unfolding map_from
all_from f k [] = refl
all_from f k (x ∷ l) = ap (λ t. f k x ∷ t) (all_from f (suc k) l)

pub front_all : {X : Type 0} (f : ℕ → X → X) (l : List X) (i n : ℕ) → length l ≡ n → i ≤ n → n ≤ i → front f 0 i l ≡ map_from f 0 l
front_all f l i n e h k = ap (λ (j : ℕ). front f 0 j l) (le_antisymm h k ∙ sym e) ∙ all_from f 0 l

pub length_each : {X : Type 0} (f : ℕ → X → X) (k : ℕ) (l : List X) → length (map_from f k l) ≡ length l
unfolding map_from
length_each f k [] = refl
length_each f k (x ∷ l) = ap suc (length_each f (suc k) l)

pub length_front : {X : Type 0} (f : ℕ → X → X) (k i : ℕ) (l : List X) → length (front f k i l) ≡ length l
length_front f k i l = length-append (map_from f k (take i l)) (drop i l) ∙ rw (length_each f k (take i l), ← length-append (take i l) (drop i l), take-append-drop i l)

-- f of each element, where it asks for no place, is a map
pub each_map : {X : Type 0} (f : X → X) (k : ℕ) (l : List X) → map_from (λ i x. f x) k l ≡ map f l
unfolding map_from
each_map f k [] = refl
each_map f k (x ∷ l) = ap (λ t. f x ∷ t) (each_map f (suc k) l)

-- what f keeps holds of every element after it, and what holds of all and of a new one holds with it in place
module _ {X : Type 0} (P : X → Type 0) (d : X) where
  pub each_keeps : (f : ℕ → X → X) → ((i : ℕ) (x : X) → P x → P (f i x)) → (k : ℕ) (l : List X) → ((i : ℕ) → P (get_or l i d)) → (i : ℕ) → P (get_or (map_from f k l) i d)
  unfolding map_from
  each_keeps f h k [] p i = p i
  each_keeps f h k (x ∷ l) p zero = h k x (p zero)
  each_keeps f h k (x ∷ l) p (suc i) = each_keeps f h (suc k) l (λ j. p (suc j)) i

  pub set_keeps : (l : List X) (j : ℕ) (x : X) → P x → ((i : ℕ) → P (get_or l i d)) → (i : ℕ) → P (get_or (set l j x) i d)
  set_keeps [] j x h p i = p i
  set_keeps (y ∷ l) zero x h p zero = h
  set_keeps (y ∷ l) zero x h p (suc i) = p (suc i)
  set_keeps (y ∷ l) (suc j) x h p zero = p zero
  set_keeps (y ∷ l) (suc j) x h p (suc i) = set_keeps l j x h (λ n. p (suc n)) i

  pub fresh_keeps : P d → (n i : ℕ) → P (get_or (replicate n d) i d)
  fresh_keeps h zero i = h
  fresh_keeps h (suc n) zero = h
  fresh_keeps h (suc n) (suc i) = fresh_keeps h n i

-- the element behind those that were replaced is as it was
pub front_behind : {X : Type 0} (f : ℕ → X → X) (d : X) (k : ℕ) (l : List X) (i : ℕ) → get_or (front f k i l) i d ≡ get_or l i d
unfolding map_from
front_behind f d k [] zero = refl
front_behind f d k [] (suc i) = refl
front_behind f d k (x ∷ l) zero = refl
front_behind f d k (x ∷ l) (suc i) = front_behind f d (suc k) l i
