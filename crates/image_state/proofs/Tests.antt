-- The test, part by part and whole.
-- Assumes nothing.
use mathlib.Core.Path.{◌≡◌, refl, sym, ap, ◌∙◌}
use mathlib.Core.Bool.{Bool, true, false, ◌&&◌, and_assoc}
use mathlib.Core.List.{List}
use Prim.Native.Nat.{ℕ, zero, suc, ◌+◌, ◌*◌, ◌/◌, ◌^◌, ◌≤◌, ◌<◌, ◌%◌}
use native.Mathlib.Nat.{le_antisymm}
use lib.ListN.{length}
use Rattle.numbers.specs.Bytes.{le_of}
use Rattle.codec.specs.How.{ok_word, ok_many}
use Rattle.codec.proofs.Loops.{tested_none, tested_more}
use Rattle.image_words.specs.How.{is_encoder, is_i2c, is_select}
use Rattle.image_pwm.specs.How.{is_registers, is_wave, is_short}
use Rattle.image_pwm.proofs.Numbers.{quick_short}
use Rattle.image_state.specs.How.{load_pwm, ok_pwm, is_carried, ok_wave, ok_quick, is_head, is_state}
use borrow.Author.Tests.{le-leb, lt-leb}

-- ---- testing

module _ (w : ℕ) (ok : List ℕ → ℕ → Bool) (s : List ℕ) (at : ℕ) where
  pub test_none : true ≡ ok_many w ok 0 s at
  test_none = tested_none w ok s at

  pub test_more : (i : ℕ) (all t : Bool) → all ≡ ok_many w ok i s at → t ≡ ok s (at + w * i) → (all && t) ≡ ok_many w ok (i + 1) s at
  test_more i all t p q = rw (p, q) (tested_more w ok s at i)

  pub test_all : (i n : ℕ) (all : Bool) → all ≡ ok_many w ok i s at → i ≤ n → n ≤ i → all ≡ ok_many w ok n s at
  test_all i n all p h k = p ∙ ap (λ (m : ℕ). ok_many w ok m s at) (le_antisymm h k)

-- the three tests of each channel, one after the other
three : (a b c d : Bool) → (a ≡ true → c ≡ d) → ((a && b) && c) ≡ a && (b && d)
three false b c d h = refl
three true false c d h = refl
three true true c d h = h refl

rows : (a b c x y z : Bool) → ((a && (b && c)) && (x && (y && z))) ≡ (a && x) && ((b && y) && (c && z))
rows false b c x y z = refl
rows true false c false y z = refl
rows true false c true y z = refl
rows true true false false y z = refl
rows true true false true false z = refl
rows true true false true true z = refl
rows true true true false y z = refl
rows true true true true false z = refl
rows true true true true true z = refl

pub pwms_tested : (s : List ℕ) (n at : ℕ) → ok_many 16 ok_pwm n s at ≡ ok_many 16 (ok_word is_registers) n s at && (ok_many 16 ok_wave n s at && ok_many 16 ok_quick n s at)
unfolding ok_many
pwms_tested s zero at = refl
pwms_tested s (suc n) at =
    rw (three (is_registers (le_of 8 s at)) (is_wave (le_of 8 s (at + 8))) (is_short (load_pwm s at)) (ok_quick s at) (quick_short (le_of 8 s at) (le_of 8 s (at + 8))), pwms_tested s n (at + 16))
    (rows (is_registers (le_of 8 s at)) (ok_wave s at) (ok_quick s at) _ _ _)

-- ---- the test

pub state_not : (s : List ℕ) → length s < 864 → false ≡ is_state s
unfolding is_state
state_not s h = rw (lt-leb 864 (length s) h)

pub state_tested : (s : List ℕ) (v : ℕ) (h k a b e r w q : Bool) → 864 ≤ length s → v ≡ le_of 8 s 0 → h ≡ is_head (v % 2 ^ 8) (v / 2 ^ 8 % 2 ^ 8) (v / 2 ^ 16)
    → k ≡ ok_many 1 (is_carried (16 + v / 2 ^ 8 % 2 ^ 8)) 16 s 16 → a ≡ ok_many 8 (ok_word is_select) 2 s 32 → b ≡ ok_many 8 (ok_word is_i2c) 2 s 48
    → e ≡ ok_many 8 (ok_word is_encoder) 20 s 64 → r ≡ ok_many 16 (ok_word is_registers) 40 s 224 → w ≡ ok_many 16 ok_wave 40 s 224 → q ≡ ok_many 16 ok_quick 40 s 224
    → (((((((h && k) && a) && b) && e) && r) && w) && q) ≡ is_state s
unfolding is_state
state_tested s v h k a b e r w q long pv ph pk pa pb pe pr pw pq =
    rw (ph, pk, pa, pb, pe, pr, pw, pq, pv) (simp and_assoc (sym (rw (le-leb 864 (length s) long, pwms_tested s 40 224))))
