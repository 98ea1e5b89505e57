-- Words and lines put one after the other. Assumes nothing.
use mathlib.Core.Path.{◌≡◌, sym}
use mathlib.Core.List.{List, [], ◌∷◌, ◌++◌, append_assoc}
use Prim.Native.Nat.{ℕ, ◌+◌, ◌-◌, ◌≤◌, ◌<◌}
use native.Mathlib.Nat.{add-zero}
use native.Mathlib.Numerals.{add-one}
use native.Mathlib.Omega.{arith}
use lib.ListN.{length, get_or, set, take, drop, take-append-drop}
use lib.Seq.{take-suc, take_all, length-take-le}
use Rattle.decimal.specs.Put.{Put}
use Rattle.decimal.proofs.Puts.{put_nothing, put_then, put_long, put_full, put_one}
use Rattle.text.specs.Text.{line}

-- ---- copy: no byte, one byte more, and all of them

pub copy_none : (out word : List ℕ) (at : ℕ) → Put out at (take 0 word) out (at + 0)
copy_none out word at = rw (add-zero at) (put_nothing out at)

module _ (out mid word : List ℕ) (at i : ℕ) (x : Put out at (take i word) mid (at + i)) where
  pub copy_more : (b : ℕ) → b ≡ get_or word i 0 → i < length word → at + length word ≤ length out → Put out at (take (i + 1) word) (set mid (at + i) b) (at + (i + 1))
  copy_more b e h l =
      let end : at + i + 1 ≡ at + (i + 1) = omega arith in
      rw (← end, add-one i, take-suc word i 0 h, ← e) (put_then out mid (set mid (at + i) b) (take i word) (b ∷ []) at (at + i) (at + i + 1) x (put_one mid (at + i) b (omega (arith, put_long out mid (take i word) at (at + i) x))))

  pub copy_all : i ≡ length word → Put out at word mid (at + length word)
  copy_all h = rw (take_all i word (omega arith), h) at x

-- ---- put_word: what has room is all there is

module _ (out word : List ℕ) (at room : ℕ) (h : room < length word) where
  pub cut_count : room ≡ length (take room word)
  cut_count = sym (length-take-le room word (omega arith))

  module _ (e : room ≡ length out - at) (l : at < length out) where
    pub cut_room : at + length (take room word) ≤ length out
    cut_room = omega (arith, cut_count)

    pub word_cut : (mid : List ℕ) (end : ℕ) → Put out at (take room word) mid end → Put out at word mid end
    word_cut mid end x =
        let full : length mid ≤ end = omega (arith, put_long out mid (take room word) at end x, x.place, cut_count) in
        rw (take-append-drop room word) at (put_then out mid mid (take room word) (drop room word) at end end x (put_full mid (drop room word) end full))

-- ---- put_pair: s, and then the line of t and u

pub put_line : (t u a b c s : List ℕ) (p q r : ℕ) → Put a p s b q → Put b q (line (t ++ u)) c r → Put a p (line (s ++ t ++ u)) c r
put_line t u a b c s p q r x y = simp append_assoc (simp append_assoc at (put_then a b c s (line (t ++ u)) p q r x y))
