-- Transcripts as bytes and as numbers of 8 bytes.
-- Assumes nothing.
use Rattle.std.proofs.Common.{◌≡◌, ℕ, zero, suc, ◌+◌, ◌*◌, ◌/◌, ◌^◌, ◌<◌, ◌≤◌, List, [], ◌∷◌, ◌++◌, length, get_or, take, sym, refl, ap, ◌∙◌, arith, get_or-take, take-take, take-add, w8, Fits}
use Rattle.fold.specs.Output.{bytes_of}
use Rattle.numbers.specs.Bytes.{le_of, le_bytes}
use Rattle.numbers.proofs.Numbers.{le_bytes_lem, bytes_le, le_behind}
use Rattle.transcript.specs.How.{Agree}

abbrev pub Bytes : List ℕ → Type 0
Bytes s = (i : ℕ) → get_or s i 0 < 256

-- a slice of them
pub in_slice : (s : List ℕ) → ((i : ℕ) → Fits w8 (get_or s i 0)) → Bytes s
in_slice s f i = (f i).fits

-- ---- the bytes of a number, and the number of some bytes

-- what the 8 bytes of a number say
abbrev pub said : ℕ → ℕ
said v = le_of 8 (le_bytes 8 v) 0

pub said_small : (v : ℕ) → v < 2 ^ 32 → said v ≡ v
said_small v h = le_bytes_lem 8 v [] (omega arith)

-- a transcript is bytes
bytes_append : (s t : List ℕ) → Bytes s → Bytes t → Bytes (s ++ t)
bytes_append [] t p q i = q i
bytes_append (a ∷ s) t p q zero = p zero
bytes_append (a ∷ s) t p q (suc i) = bytes_append s t (λ j. p (suc j)) q i

bytes_number : (n v : ℕ) → Bytes (le_bytes n v)
bytes_number zero v i = omega arith
bytes_number (suc n) v zero = omega arith
bytes_number (suc n) v (suc i) = bytes_number n (v / 256) i

pub in_bytes : (vs : List ℕ) → Bytes (bytes_of (le_bytes 8) vs)
unfolding bytes_of
in_bytes [] i = omega arith
in_bytes (v ∷ vs) i = bytes_append (le_bytes 8 v) (bytes_of (le_bytes 8) vs) (bytes_number 8 v) (in_bytes vs) i

-- a reading behind others
pub reading_at : (us : List ℕ) (v : ℕ) (ws : List ℕ) → le_of 8 (bytes_of (le_bytes 8) (us ++ v ∷ ws)) (8 * length us) ≡ said v
unfolding le_of bytes_of
reading_at [] v ws = refl
reading_at (u ∷ us) v ws =
    let far : 8 * suc (length us) ≡ 8 + 8 * length us = omega arith in
    let rest = bytes_of (le_bytes 8) (us ++ v ∷ ws) in
    ap (le_of 8 (le_bytes 8 u ++ rest)) far ∙ le_behind 8 (le_bytes 8 u) rest (8 * length us) ∙ reading_at us v ws

-- a number in the front of a list
pub le_take : (n m : ℕ) (s : List ℕ) (at : ℕ) → at + n ≤ m → le_of n (take m s) at ≡ le_of n s at
unfolding le_of
le_take zero m s at h = refl
le_take (suc n) m s at h = rw (get_or-take m s at 0 (omega arith), le_take n m s (suc at) (omega arith))

-- ---- the first readings of two transcripts

-- fewer of them
pub fewer : (i j : ℕ) (s t : List ℕ) → i ≤ j → Agree j s t → Agree i s t
fewer i j s t h a = sym (take-take (8 * i) (8 * j) s (omega arith)) ∙ ap (take (8 * i)) a ∙ take-take (8 * i) (8 * j) t (omega arith)

module _ (j : ℕ) (s t : List ℕ) where
  eight : 8 * (j + 1) ≡ 8 * j + 8
  eight = omega arith

  -- one more
  pub one_more : Bytes s → Bytes t → 8 * j + 8 ≤ length s → 8 * j + 8 ≤ length t → Agree j s t → le_of 8 s (8 * j) ≡ le_of 8 t (8 * j) → Agree (j + 1) s t
  one_more b c h l a e =
      rw (eight, take-add (8 * j) 8 s, take-add (8 * j) 8 t, a, ← bytes_le 8 s (8 * j) b h, ← bytes_le 8 t (8 * j) c l, e)

  -- and the next is the same where they are
  pub the_next : Agree (j + 1) s t → le_of 8 s (8 * j) ≡ le_of 8 t (8 * j)
  the_next a = sym (le_take 8 (8 * (j + 1)) s (8 * j) (omega arith)) ∙ ap (λ (l : List ℕ). le_of 8 l (8 * j)) a ∙ le_take 8 (8 * (j + 1)) t (8 * j) (omega arith)
