-- The facts of specs/Facts.antt. Assumes nothing.
use mathlib.Core.Path.{◌≡◌, refl, sym, ap, ◌∙◌}
use mathlib.Core.List.{List, [], ◌∷◌, ◌++◌, append_assoc, append_cancel_left}
use Prim.Native.Nat.{ℕ}
use native.Mathlib.Omega.{arith}
use lib.ListN.{length}
use Rattle.decimal.specs.Digits.{digits_within, digits_of}
use Rattle.decimal.proofs.Back.{are_digits_lem, some_digits, ends, digits_end}
use Rattle.decimal.specs.Ascii.{ascii}
use Rattle.text.specs.Text.{line, lines_of, text_of}
use Rattle.text.specs.Facts.{Texts}

-- ---- the last line: the words fall away, and each number ends at its space or newline

words : (k r : ℕ) → line (ascii "applied " ++ digits_of k ++ ascii " refused " ++ digits_of r) ≡ ascii "applied " ++ (digits_of k ++ 32 ∷ (ascii "refused " ++ (digits_of r ++ 10 ∷ [])))
words k r = simp append_assoc

stop_told : (k l r q : ℕ) → text_of [] k r ≡ text_of [] l q → (k ≡ l) × (r ≡ q)
unfolding lines_of
stop_told k l r q e =
    let f : ascii "applied " ++ (digits_of k ++ 32 ∷ (ascii "refused " ++ (digits_of r ++ 10 ∷ []))) ≡ ascii "applied " ++ (digits_of l ++ 32 ∷ (ascii "refused " ++ (digits_of q ++ 10 ∷ []))) = sym (words k r) ∙ e ∙ words l q in
    let g = digits_end k l 32 32 (ascii "refused " ++ (digits_of r ++ 10 ∷ [])) (ascii "refused " ++ (digits_of q ++ 10 ∷ [])) refl refl (append_cancel_left (ascii "applied ") _ _ f) in
    let h = digits_end r q 10 10 [] [] refl refl (append_cancel_left (ascii "refused ") _ _ g.1) in
    (g.0, h.0)

-- a reading begins with a digit, the last line does not
reading_first : (v : ℕ) (vs : List ℕ) (k r : ℕ) → text_of (v ∷ vs) k r ≡ digits_of v ++ 10 ∷ text_of vs k r
unfolding lines_of
reading_first v vs k r = simp append_assoc

not_last : (v : ℕ) (vs : List ℕ) (k l r q : ℕ) → text_of [] k r ≡ text_of (v ∷ vs) l q → ⊥
unfolding lines_of
not_last v vs k l r q e =
    let f = ends [] (digits_of v) 97 10 _ (text_of vs l q) refl (are_digits_lem v) refl refl (e ∙ reading_first v vs l q) in
    let h : ◌≡◌ {A = ℕ} 0 (length (digits_of v)) = ap length f in
    omega (arith, some_digits v)

told : (vs ws : List ℕ) (k l r q : ℕ) → text_of vs k r ≡ text_of ws l q → (vs ≡ ws) × (k ≡ l) × (r ≡ q)
told [] [] k l r q e = let h = stop_told k l r q e in (refl, h.0, h.1)
told [] (w ∷ ws) k l r q e = absurd (not_last w ws k l r q e)
told (v ∷ vs) [] k l r q e = absurd (not_last v vs l k q r (sym e))
told (v ∷ vs) (w ∷ ws) k l r q e =
    let h = digits_end v w 10 10 (text_of vs k r) (text_of ws l q) refl refl (sym (reading_first v vs k r) ∙ e ∙ reading_first w ws l q) in
    let i = told vs ws k l r q h.1 in
    let f : v ≡ w = h.0 in
    let g : vs ≡ ws = i.0 in
    (cc, i.1, i.2)

pub texts : Texts
unfolding digits_of digits_within lines_of
texts = record { printed = refl; told = told }
