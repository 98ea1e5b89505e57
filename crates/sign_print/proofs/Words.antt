-- The pieces of a stretch's line, and the last line. Assumes nothing.
use Rattle.std.proofs.Common.{Bool, true, false, ltb, negsuc, ap, ◌≡◌, ℕ, suc, ◌+◌, ◌-◌, ◌*◌, ◌/◌, ◌%◌, ◌<◌, List, [], ◌∷◌, ◌++◌, nat_abs, refl, append_assoc, arith, ne_eqb}
use Rattle.decimal.specs.Ascii.{ascii}
use Rattle.decimal.specs.Digits.{digits_of}
use Rattle.text.specs.declared.Text.{Text}
use Rattle.text.specs.Puts.{Puts}
use Rattle.text.proofs.Puts.{puts_then}
use Rattle.form.specs.Form.{plural_of, form_text}
use Rattle.text.specs.Text.{line, stop_text}
use Rattle.numbers.specs.Bytes.{le_of}
use Rattle.std.specs.Int.{cast_signed}
use mir.Syntax.{w64}
use Rattle.sign_print.specs.How.{whole_of, stretch_form, numbers_of, numbered_text, spelt, spelt_at}

pub whole_is : (n : ℕ) → n < 18446744073709551616 → cast_signed w64 n ≡ whole_of n
unfolding whole_of
whole_is n h = by (ltb n 9223372036854775808) refl
  where
    by : (t : Bool) → ltb n 9223372036854775808 ≡ t → cast_signed w64 n ≡ whole_of n
    by true e = rw e
    by false e =
        let same : 18446744073709551616 - suc n ≡ 18446744073709551615 - n = omega (arith, h) in
        rw e (ap negsuc same)

-- ---- the verdict

grouped : (a b c d e f : List ℕ) → a ++ (b ++ (c ++ (d ++ (e ++ f)))) ≡ a ++ (b ++ (c ++ d)) ++ e ++ f
grouped a b c d e f = simp append_assoc

module _ (a b : Text) (v size d : ℕ) where
  pub verdict_forward : v ≡ 1 → Puts a b (ascii ": forward" ++ 10 ∷ []) → Puts a b (line (numbered_text v size d))
  unfolding numbered_text
  verdict_forward e x = rw e x

  pub verdict_backward : v ≡ 2 → Puts a b (ascii ": backward" ++ 10 ∷ []) → Puts a b (line (numbered_text v size d))
  unfolding numbered_text
  verdict_backward e x = rw e x

  pub verdict_still : v ≡ 3 → Puts a b (ascii ": still" ++ 10 ∷ []) → Puts a b (line (numbered_text v size d))
  unfolding numbered_text
  verdict_still e x = rw e x

  pub verdict_open : (v ≡ 1 → ⊥) → (v ≡ 2 → ⊥) → (v ≡ 3 → ⊥) → (n : ℕ) → n ≡ 2 * d + 1 - size
      → Puts a b (form_text (ascii ": open, " ++ 35 ∷ ascii " step" ++ 126 ∷ ascii " short of a direction" ++ 10 ∷ []) (n ∷ n ∷ []))
      → Puts a b (line (numbered_text v size d))
  unfolding form_text numbered_text
  verdict_open f g h n e x =
      rw (ne_eqb v 1 f, ne_eqb v 2 g, ne_eqb v 3 h, ← e) (rw (grouped (ascii ": open, ") (digits_of n) (ascii " step") (plural_of n) (ascii " short of a direction") (10 ∷ [])) at x)

-- ---- a stretch

pub its_numbers : (names span steps d least most y z w : ℕ) → d < 4096 → steps < 18446744073709551616 → least < 18446744073709551616
    → (least + 2 * d) % 18446744073709551616 ≡ steps → most ≡ (steps + 2 * d) % 18446744073709551616 → y ≡ nat_abs (whole_of steps) → z ≡ nat_abs (whole_of least) → w ≡ nat_abs (whole_of most)
    → names % 256 ∷ names / 256 % 256 ∷ names / 4294967296 ∷ span % 4294967296 ∷ span / 4294967296 ∷ span / 4294967296 ∷ steps ∷ y ∷ y ∷ d ∷ d ∷ least ∷ z ∷ most ∷ w ∷ [] ≡ numbers_of names span steps d
its_numbers names span steps d least most y z w few fits small el em ey ez ew =
    let l : least ≡ (steps + 18446744073709551616 - 2 * d) % 18446744073709551616 = omega arith in
    rw (ey, ez, ew, ← em, ← l)

pub all_spelt : (a b c : Text) (names span steps doubles z : ℕ) (ns : List ℕ) → ns ≡ numbers_of names span steps doubles → z ≡ nat_abs (whole_of steps)
    → Puts a b (form_text stretch_form ns) → Puts b c (line (numbered_text (names / 65536 % 4) z doubles)) → Puts a c (spelt names span steps doubles)
unfolding spelt
all_spelt a b c names span steps doubles z ns e f x y = puts_then a b c _ _ (rw e at x) (rw f at y)

pub entry_spelt : (s : List ℕ) (a b : Text) (at k l m n : ℕ) → k ≡ le_of 8 s at → l ≡ le_of 8 s (at + 8) → m ≡ le_of 8 s (at + 16) → n ≡ le_of 8 s (at + 24)
    → Puts a b (spelt k l m n) → Puts a b (spelt_at s at)
entry_spelt s a b at k l m n ik il im is x = rw (← ik, ← il, ← im, ← is) x

-- ---- the last line

in_line : (a b c d e : List ℕ) → a ++ (b ++ (c ++ (d ++ e))) ≡ a ++ b ++ c ++ d ++ e
in_line a b c d e = simp append_assoc

pub stop_line : (k r : ℕ) → form_text (ascii "applied " ++ 35 ∷ 32 ∷ ascii "refused " ++ 35 ∷ 10 ∷ []) (k ∷ r ∷ []) ≡ stop_text k r
unfolding form_text
stop_line k r = in_line (ascii "applied ") (digits_of k) (ascii " refused ") (digits_of r) (10 ∷ [])
