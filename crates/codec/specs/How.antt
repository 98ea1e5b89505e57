-- Values in bytes at a place: what a codec promises, a value in words of 8 bytes, and an array of values of one width.
-- Assumes nothing.
use Rattle.std.specs.Prelude.{ℕ, zero, suc, ◌+◌, ◌<◌, ◌^◌, ◌≡◌, List, [], ◌∷◌, ◌++◌, Bool, true, ◌&&◌, length}
use Rattle.numbers.specs.Bytes.{byte, le_of, le_bytes}

-- s has the bytes bs from a place on
abbrev pub Has : List ℕ → ℕ → List ℕ → Type 0
Has s at [] = Unit {0}
Has s at (b ∷ bs) = (byte s at ≡ b) × Has s (suc at) bs

-- every element is a byte
abbrev pub Bytes : List ℕ → Type 0
Bytes s = (i : ℕ) → byte s i < 256

-- A codec of width w: `save` gives the bytes of a value, `load` reads the value at a place of any bytes, `ok` tells whether the bytes at a
-- place are a value's, and `Fits` is the range of the values that it is for
pub record Lawful {X : Type 0} (w : ℕ) (save : X → List ℕ) (load : List ℕ → ℕ → X) (ok : List ℕ → ℕ → Bool) (Fits : X → Type 0) : Type 0 where
  -- the image has a constant length, and is of bytes
  pub long : (x : X) → Fits x → length (save x) ≡ w
  pub bytes : (x : X) → Fits x → Bytes (save x)
  -- a value in range is loaded back from its image, and its image passes the test
  pub back : (x : X) → Fits x → (s : List ℕ) (at : ℕ) → Has s at (save x) → load s at ≡ x
  pub passes : (x : X) → Fits x → (s : List ℕ) (at : ℕ) → Has s at (save x) → ok s at ≡ true
  -- bytes that pass are the image of the value that they load to, which is in range
  pub image : (s : List ℕ) (at : ℕ) → Bytes s → ok s at ≡ true → Has s at (save (load s at))
  pub fits : (s : List ℕ) (at : ℕ) → Bytes s → ok s at ≡ true → Fits (load s at)

-- a value that is a number of 8 bytes, and a test of the number
pub record Number {X : Type 0} (good : ℕ → Bool) (number : X → ℕ) (value : ℕ → X) (Fits : X → Type 0) : Type 0 where
  pub small : (x : X) → Fits x → number x < 256 ^ 8
  pub back : (x : X) → Fits x → value (number x) ≡ x
  pub passes : (x : X) → Fits x → good (number x) ≡ true
  pub image : (v : ℕ) → v < 256 ^ 8 → good v ≡ true → number (value v) ≡ v
  pub fits : (v : ℕ) → v < 256 ^ 8 → good v ≡ true → Fits (value v)

abbrev pub save_word : {X : Type 0} → (X → ℕ) → X → List ℕ
save_word number x = le_bytes 8 (number x)

abbrev pub load_word : {X : Type 0} → (ℕ → X) → List ℕ → ℕ → X
load_word value s at = value (le_of 8 s at)

abbrev pub ok_word : (ℕ → Bool) → List ℕ → ℕ → Bool
ok_word good s at = good (le_of 8 s at)

-- an array of n values, each w bytes wide
unfoldable pub save_many : {X : Type 0} → (X → List ℕ) → List X → List ℕ
save_many save [] = []
save_many save (x ∷ xs) = save x ++ save_many save xs

unfoldable pub load_many : {X : Type 0} → ℕ → (List ℕ → ℕ → X) → ℕ → List ℕ → ℕ → List X
load_many w load zero s at = []
load_many w load (suc n) s at = load s at ∷ load_many w load n s (at + w)

unfoldable pub ok_many : ℕ → (List ℕ → ℕ → Bool) → ℕ → List ℕ → ℕ → Bool
ok_many w ok zero s at = true
ok_many w ok (suc n) s at = ok s at && ok_many w ok n s (at + w)

abbrev pub Each : {X : Type 0} → (X → Type 0) → List X → Type 0
Each Fits [] = Unit {0}
Each Fits (x ∷ xs) = Fits x × Each Fits xs

abbrev pub FitMany : {X : Type 0} → (X → Type 0) → ℕ → List X → Type 0
FitMany Fits n xs = (length xs ≡ n) × Each Fits xs
