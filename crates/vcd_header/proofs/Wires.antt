-- The header's lines put one after the other. Assumes nothing.
use mathlib.Core.Path.{◌≡◌, refl, subst, sym, ap, ◌∙◌}
use mathlib.Core.Bool.{cond}
use mathlib.Core.List.{List, [], ◌∷◌, ◌++◌, append_assoc}
use Prim.Native.Nat.{ℕ, suc, ◌+◌, ◌*◌, ◌≤◌, ◌<◌}
use native.Mathlib.Omega.{arith}
use native.Mathlib.Nat.{add-zero, zero-add}
use native.Mathlib.Numerals.{add-one}
use lib.Dec.{eqb}
use lib.ListN.{length, take, get_or}
use lib.Seq.{take-suc, take_all, length-take-le}
use borrow.Author.Tests.{eq-eqb, ne_eqb}
use Rattle.decimal.specs.Put.{Put}
use Rattle.decimal.proofs.Puts.{put_nothing, put_then}
use Rattle.vcd.specs.declared.Mark.TheVariants.{Timescale, Scope, Upscope, EndDefinitions, DumpVars, End}
use Rattle.vcd.specs.declared.Line.{Line}
use Rattle.vcd.specs.declared.Line.TheVariants.{Fixed, Var, Unknown}
use Rattle.vcd.specs.Lines.{code_of, var_of, print_of, text_of}
use Rattle.vcd.specs.Dump.{wires_from, header_of}
use Rattle.vcd_write.proofs.Lines.{lines_then}

-- ---- one line

module _ (out out' : List ℕ) (at r w : ℕ) where
  pub var_put : (line mid : List ℕ) (end : ℕ) → line ≡ var_of w → Put out at line mid end → Put mid end (10 ∷ []) out' r → Put out at (text_of (Var w ∷ [])) out' r
  unfolding text_of print_of
  var_put line mid end e x y = rw (← e) (put_then out mid out' line (10 ∷ []) at end r x y)

  pub unknown_put : Put out at (120 ∷ code_of w ∷ 10 ∷ []) out' r → Put out at (text_of (Unknown w ∷ [])) out' r
  unfolding text_of print_of
  unknown_put x = x

-- ---- the wires

module _ (line : ℕ → Line) (out : List ℕ) (at e x : ℕ) where
  pub no_wire : x ≡ 5 → Put out at (text_of (wires_from line e (x ∷ []))) out at
  unfolding wires_from text_of
  no_wire q = rw (eq-eqb x 5 q) (put_nothing out at)

  pub two_wires : (mid out' : List ℕ) (end r : ℕ) → (x ≡ 5 → ⊥) → Put out at (text_of (line (2 * e) ∷ [])) mid end
      → Put mid end (text_of (line (2 * e + 1) ∷ [])) out' r → Put out at (text_of (wires_from line e (x ∷ []))) out' r
  unfolding wires_from
  two_wires mid out' end r n y z = rw (ne_eqb x 5 n) (lines_then out mid out' (line (2 * e) ∷ []) (line (2 * e + 1) ∷ []) at end r y z)

wires_snoc : (line : ℕ → Line) (xs : List ℕ) (k y : ℕ) → wires_from line k (xs ++ y ∷ []) ≡ wires_from line k xs ++ wires_from line (k + length xs) (y ∷ [])
unfolding wires_from
wires_snoc line [] k y = rw add-zero
wires_snoc line (x ∷ xs) k y =
    let e : k + suc (length xs) ≡ k + 1 + length xs = omega arith in
    rw (e, wires_snoc line xs (k + 1) y) (sym (append_assoc (cond (eqb x 5) [] (line (2 * k) ∷ line (2 * k + 1) ∷ [])) (wires_from line (k + 1) xs) (wires_from line (k + 1 + length xs) (y ∷ []))))

pub wires_none : (line : ℕ → Line) (out : List ℕ) (at : ℕ) → Put out at (text_of (wires_from line 0 [])) out at
unfolding wires_from text_of
wires_none line out at = put_nothing out at

module _ (line : ℕ → Line) (out mid pins : List ℕ) (at end e : ℕ) where
  pub wires_next : (out' : List ℕ) (end' x : ℕ) → Put out at (text_of (wires_from line 0 (take e pins))) mid end → length pins ≡ 20 → e < 20 → x ≡ get_or pins e 0
      → Put mid end (text_of (wires_from line e (x ∷ []))) out' end' → Put out at (text_of (wires_from line 0 (take (e + 1) pins))) out' end'
  wires_next out' end' x y l i q z =
      let h : e < length pins = omega arith in
      let long : 0 + length (take e pins) ≡ e = zero-add (length (take e pins)) ∙ length-take-le e pins (omega arith) in
      let same : wires_from line 0 (take (e + 1) pins) ≡ wires_from line 0 (take e pins) ++ wires_from line e (x ∷ []) = (ap (wires_from line 0) (rw (add-one e, q) (take-suc pins e 0 h)) ∙ wires_snoc line (take e pins) 0 x ∙ ap (λ (k : ℕ). wires_from line 0 (take e pins) ++ wires_from line k (x ∷ [])) long) in
      rw same (lines_then out mid out' (wires_from line 0 (take e pins)) (wires_from line e (x ∷ [])) at end end' y z)

  pub wires_done : Put out at (text_of (wires_from line 0 (take e pins))) mid end → length pins ≡ 20 → 20 ≤ e → Put out at (text_of (wires_from line 0 pins)) mid end
  wires_done y l h = rw (take_all e pins (omega arith)) at y

-- one encoder more, with no wire or with two
module _ (line : ℕ → Line) (out mid pins : List ℕ) (at end e : ℕ) (so_far : Put out at (text_of (wires_from line 0 (take e pins))) mid end) (long : length pins ≡ 20) (h : e < 20) where
  pub encoder_none : get_or pins e 0 ≡ 5 → Put out at (text_of (wires_from line 0 (take (e + 1) pins))) mid end
  encoder_none q = wires_next line out mid pins at end e mid end (get_or pins e 0) so_far long h refl (no_wire line mid end e (get_or pins e 0) q)

  pub encoder_two : (a b : Line) (next out' : List ℕ) (k r : ℕ) → (get_or pins e 0 ≡ 5 → ⊥) → a ≡ line (2 * e) → b ≡ line (2 * e + 1)
      → Put mid end (text_of (a ∷ [])) next k → Put next k (text_of (b ∷ [])) out' r → Put out at (text_of (wires_from line 0 (take (e + 1) pins))) out' r
  encoder_two a b next out' k r n i j y z =
      wires_next line out mid pins at end e out' r (get_or pins e 0) so_far long h refl
      (two_wires line mid end e (get_or pins e 0) next out' k r n (subst (λ (l : Line). Put mid end (text_of (l ∷ [])) next k) i y) (subst (λ (l : Line). Put next k (text_of (l ∷ [])) out' r) j z))

-- ---- the header's parts

module _ (pins o a b c d e : List ℕ) (p q r s t : ℕ) (u : Put o 0 (text_of (Fixed Timescale ∷ Fixed Scope ∷ [])) a p) (v : Put a p (text_of (wires_from Var 0 pins)) b q)
    (w : Put b q (text_of (Fixed Upscope ∷ Fixed EndDefinitions ∷ Fixed DumpVars ∷ [])) c r) (x : Put c r (text_of (wires_from Unknown 0 pins)) d s) (y : Put d s (text_of (Fixed End ∷ [])) e t) where
  pub header_put : Put o 0 (text_of (header_of pins pins)) e t
  header_put =
      lines_then o a e (Fixed Timescale ∷ Fixed Scope ∷ []) (wires_from Var 0 pins ++ Fixed Upscope ∷ Fixed EndDefinitions ∷ Fixed DumpVars ∷ (wires_from Unknown 0 pins ++ Fixed End ∷ [])) 0 p t u
      (lines_then a b e (wires_from Var 0 pins) (Fixed Upscope ∷ Fixed EndDefinitions ∷ Fixed DumpVars ∷ (wires_from Unknown 0 pins ++ Fixed End ∷ [])) p q t v
      (lines_then b c e (Fixed Upscope ∷ Fixed EndDefinitions ∷ Fixed DumpVars ∷ []) (wires_from Unknown 0 pins ++ Fixed End ∷ []) q r t w
      (lines_then c d e (wires_from Unknown 0 pins) (Fixed End ∷ []) r s t x y)))
