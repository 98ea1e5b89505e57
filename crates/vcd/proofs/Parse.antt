-- A line that is read is written again as it was, and so is a text. Assumes nothing.
use mathlib.Core.Path.{◌≡◌, refl, sym, ap, ◌∙◌, subst}
use mathlib.Core.Bool.{Bool, true, false, ◌&&◌, ◌||◌, cond, false≢true}
use mathlib.Core.List.{List, [], ◌∷◌, ◌++◌, foldl, append-nil}
use mathlib.Core.Logic.{◌⊎◌, inl, inr}
use Prim.Native.Nat.{ℕ, suc, ◌+◌, ◌-◌, ◌*◌, ◌/◌, ◌%◌, ◌^◌, ◌≤◌, ◌<◌}
use native.Mathlib.Omega.{arith}
use lib.Dec.{eqb, ltb, leb}
use lib.ListN.{length, get_or}
use lib.Seq.{append_snoc}
use borrow.Author.Tests.{lt-ltb, ltb-true, leb-true, eqb-true, eqb-false, ne_eqb}
use Rattle.laws.proofs.Truth.{both_true}
use Rattle.std.specs.Prelude.{Option, Some, None, bytes_eq}
use Rattle.std.proofs.lemmas.Slice.Eq.{bytes_eq-Decides}
use Rattle.decimal.specs.Decimal.{are_digits, value_from, decimal_of}
use Rattle.decimal.specs.Digits.{digits_of}
use Rattle.decimal.proofs.Back.{digits_small, digits_more}
use Rattle.vcd.specs.declared.Mark.{Mark}
use Rattle.vcd.specs.declared.Mark.TheVariants.{Timescale, Scope, Upscope, EndDefinitions, DumpVars, End}
use Rattle.vcd.specs.declared.Line.{Line}
use Rattle.vcd.specs.declared.Line.TheVariants.{Fixed, Var, Unknown, Time, Change, Other}
use Rattle.vcd.specs.How.{Position}
use Rattle.vcd.specs.Lines.{place, code_of, var_of, print_of, text_of}
use Rattle.vcd.specs.How.{wire_of, var_with, fixed_at, head_of, number_of, time_of, value_of, change_in, line_of, lines_from, refused, follows, taken, turn_of, whole}
use Rattle.vcd.proofs.Print.{GoodLine, GoodLines}
use Rattle.vcd.proofs.Heart.{at}

-- ---- one line: it is no line of a dump, or it is one and these are its bytes

abbrev pub Fair : List ℕ → Line → Type 0
Fair s l = (l ≡ Other) ⊎ (GoodLine l × (print_of l ≡ s))

fair_if : (t : Bool) (s : List ℕ) (l m : Line) → (t ≡ true → Fair s l) → (t ≡ false → Fair s m) → Fair s (cond t l m)
fair_if true s l m h k = h refl
fair_if false s l m h k = k refl

same_true : (s t : List ℕ) → bytes_eq s t ≡ true → t ≡ s
same_true s t e = sym ((bytes_eq-Decides s t).0 e)

-- a letter that has a wire is that wire's
pub wire_forth : (c w : ℕ) → wire_of c ≡ Some w → (w < 40) × (code_of w ≡ c)
wire_forth c w = go (leb 65 c) (leb c 84) (leb 97 c) (leb c 116) refl refl refl refl
  where
    go : (x y z u : Bool) → leb 65 c ≡ x → leb c 84 ≡ y → leb 97 c ≡ z → leb c 116 ≡ u
        → cond (x && y) (Some (c - 65)) (cond (z && u) (Some (c - 77)) None) ≡ Some w → (w < 40) × (code_of w ≡ c)
    go true true z u a b d e h = let l = leb-true 65 c a in let m = leb-true c 84 b in let i : c - 65 ≡ w = cc in (omega arith, omega arith)
    go true false true true a b d e h = let l = leb-true 97 c d in let m = leb-true c 116 e in let i : c - 77 ≡ w = cc in (omega arith, omega arith)
    go false y true true a b d e h = let l = leb-true 97 c d in let m = leb-true c 116 e in let i : c - 77 ≡ w = cc in (omega arith, omega arith)
    go true false true false a b d e h = cc
    go true false false u a b d e h = cc
    go false y true false a b d e h = cc
    go false y false u a b d e h = cc

fair_var : (s : List ℕ) (o : Option ℕ) → ((w : ℕ) → o ≡ Some w → w < 40) → Fair s (var_with s o)
unfolding print_of
fair_var s None h = inl refl
fair_var s (Some w) h = fair_if (bytes_eq s (var_of w)) s (Var w) Other (λ e. inr (h w refl, same_true s (var_of w) e)) (λ e. inl refl)

fair_head : (s : List ℕ) → Fair s (head_of s)
unfolding head_of print_of
fair_head s =
    fair_if (bytes_eq s (fixed_at 0)) s (Fixed Timescale) _ (λ e. inr (tt, same_true s (fixed_at 0) e))
    (λ _. fair_if (bytes_eq s (fixed_at 1)) s (Fixed Scope) _ (λ e. inr (tt, same_true s (fixed_at 1) e))
    (λ _. fair_if (bytes_eq s (fixed_at 2)) s (Fixed Upscope) _ (λ e. inr (tt, same_true s (fixed_at 2) e))
    (λ _. fair_if (bytes_eq s (fixed_at 3)) s (Fixed EndDefinitions) _ (λ e. inr (tt, same_true s (fixed_at 3) e))
    (λ _. fair_if (bytes_eq s (fixed_at 4)) s (Fixed DumpVars) _ (λ e. inr (tt, same_true s (fixed_at 4) e))
    (λ _. fair_if (bytes_eq s (fixed_at 5)) s (Fixed End) _ (λ e. inr (tt, same_true s (fixed_at 5) e)) (λ _. fair_var s (wire_of (get_or s 12 0)) (λ w e. (wire_forth (get_or s 12 0) w e).0)))))))

-- digits that follow a number's
digits_on : (bs : List ℕ) (v : ℕ) → 0 < v → are_digits bs ≡ true → digits_of (value_from v bs) ≡ digits_of v ++ bs
digits_on [] v h e = sym (append-nil (digits_of v))
digits_on (b ∷ bs) v h e =
    let q = both_true (leb 48 b && leb b 57) (are_digits bs) e in
    let r = both_true (leb 48 b) (leb b 57) q.0 in
    let l = leb-true 48 b r.0 in
    let m = leb-true b 57 r.1 in
    let n = 10 * v + (b - 48) in
    let i : n / 10 ≡ v = omega arith in
    let j : 48 + n % 10 ≡ b = omega arith in
    let k : digits_of n ≡ digits_of v ++ b ∷ [] = rw (digits_more n (omega arith), i, j) in
    digits_on bs n (omega arith) q.1
    ∙ ap (λ (s : List ℕ). s ++ bs) k
    ∙ append_snoc (digits_of v) b bs

digits_forth : (d : List ℕ) → 0 < length d → are_digits d ≡ true → eqb (get_or d 0 0) 48 && ltb 2 (suc (length d)) ≡ false → digits_of (value_from 0 d) ≡ d
digits_forth [] h e z = absurd (omega arith)
digits_forth (b ∷ bs) h e z =
    let q = both_true (leb 48 b && leb b 57) (are_digits bs) e in
    let r = both_true (leb 48 b) (leb b 57) q.0 in
    let l = leb-true 48 b r.0 in
    let m = leb-true b 57 r.1 in
    let one : digits_of (b - 48) ≡ b ∷ [] = digits_small (b - 48) (omega arith) ∙ ap (λ (k : ℕ). k ∷ []) (omega arith) in
    let v : 10 * 0 + (b - 48) ≡ b - 48 = omega arith in
    ap (λ (k : ℕ). digits_of (value_from k bs)) v ∙ go bs q.1 z one l
  where
    go : (bs : List ℕ) → are_digits bs ≡ true → eqb b 48 && ltb 2 (suc (suc (length bs))) ≡ false → digits_of (b - 48) ≡ b ∷ [] → 48 ≤ b → digits_of (value_from (b - 48) bs) ≡ b ∷ bs
    go [] e z one l = one
    go (c ∷ bs) e z one l = by (eqb b 48) refl (rw (lt-ltb 2 (suc (suc (suc (length bs)))) (omega arith)) at z)
      where
        by : (t : Bool) → eqb b 48 ≡ t → t && true ≡ false → digits_of (value_from (b - 48) (c ∷ bs)) ≡ b ∷ c ∷ bs
        by true q z = absurd (false≢true (sym z))
        by false q z = let n = eqb-false b 48 q in digits_on (c ∷ bs) (b - 48) (omega arith) e ∙ ap (λ (s : List ℕ). s ++ c ∷ bs) one

fair_time : (d : List ℕ) → Fair (35 ∷ d) (time_of (35 ∷ d))
unfolding time_of print_of
fair_time d = fair_if (eqb (get_or d 0 0) 48 && ltb 2 (suc (length d))) (35 ∷ d) Other (number_of (decimal_of d)) (λ e. inl refl) (λ z. by (ltb 0 (length d) && are_digits d && ltb (value_from 0 d) (2 ^ 64)) refl z)
  where
    by : (t : Bool) → ltb 0 (length d) && are_digits d && ltb (value_from 0 d) (2 ^ 64) ≡ t → eqb (get_or d 0 0) 48 && ltb 2 (suc (length d)) ≡ false → Fair (35 ∷ d) (number_of (decimal_of d))
    by true q z =
        let a = both_true _ _ q in
        let b = both_true (ltb 0 (length d)) (are_digits d) a.0 in
        rw q (inr (ltb-true (value_from 0 d) (2 ^ 64) a.1, ap (λ (s : List ℕ). 35 ∷ s) (digits_forth d (ltb-true 0 (length d) b.0) b.1 z)))
    by false q z = rw q (inl refl)

fair_value : (b c : ℕ) (o : Option ℕ) → ((w : ℕ) → o ≡ Some w → (w < 40) × (code_of w ≡ c)) → Fair (b ∷ c ∷ []) (value_of b o)
unfolding print_of
fair_value b c None h = inl refl
fair_value b c (Some w) h =
    let q = h w refl in
    fair_if (eqb b 120) (b ∷ c ∷ []) (Unknown w) _ (λ e. inr (q.0, rw (eqb-true b 120 e, q.1)))
    (λ _. fair_if (eqb b 48) (b ∷ c ∷ []) (Change w 0) _ (λ e. inr ((q.0, omega arith), rw (eqb-true b 48 e, q.1)))
    (λ _. fair_if (eqb b 49) (b ∷ c ∷ []) (Change w 1) Other (λ e. inr ((q.0, omega arith), rw (eqb-true b 49 e, q.1))) (λ _. inl refl)))

fair_change : (s : List ℕ) → Fair s (change_in s)
unfolding change_in
fair_change [] = inl refl
fair_change (a ∷ []) = inl refl
fair_change (a ∷ b ∷ []) = fair_value a b (wire_of b) (wire_forth b)
fair_change (a ∷ b ∷ c ∷ s) = inl (rw (ne_eqb (suc (suc (suc (length s)))) 2 (omega arith)))

pub line_forth : (s : List ℕ) → Fair s (line_of s)
unfolding line_of change_in
line_forth [] = inl refl
line_forth (a ∷ s) = fair_if (eqb a 35) (a ∷ s) _ _ (λ e. subst (λ (b : ℕ). Fair (b ∷ s) (time_of (b ∷ s))) (sym (eqb-true a 35 e)) (fair_time s)) (λ _. fair_if (eqb a 36) (a ∷ s) _ _ (λ _. fair_head (a ∷ s)) (λ _. fair_change (a ∷ s)))

-- ---- who has refused refuses

abbrev pub Accepts : Position → List Line → Type 0
Accepts r ls = whole (foldl turn_of r ls) ≡ true

stuck : (ls : List Line) (a n : ℕ) (p c : List ℕ) → Accepts (at 9 a n p c) ls → ⊥
unfolding turn_of
stuck [] a n p c e = false≢true e
stuck (Fixed Timescale ∷ ls) a n p c e = stuck ls a n p c e
stuck (Fixed Scope ∷ ls) a n p c e = stuck ls a n p c e
stuck (Fixed Upscope ∷ ls) a n p c e = stuck ls a n p c e
stuck (Fixed EndDefinitions ∷ ls) a n p c e = stuck ls a n p c e
stuck (Fixed DumpVars ∷ ls) a n p c e = stuck ls a n p c e
stuck (Fixed End ∷ ls) a n p c e = stuck ls a n p c e
stuck (Var w ∷ ls) a n p c e = stuck ls a n p c e
stuck (Unknown w ∷ ls) a n p c e = stuck ls a n p c e
stuck (Time t ∷ ls) a n p c e = stuck ls a n p c e
stuck (Change w b ∷ ls) a n p c e = stuck ls a n p c e
stuck (Other ∷ ls) a n p c e = stuck ls a n p c e

-- so each line of what is accepted is taken
must : (t : Bool) (r q : Position) (ls : List Line) → Accepts (cond t q (refused r)) ls → t ≡ true
must true r q ls e = refl
must false r q ls e = absurd (stuck ls r.awaited r.now r.pins r.changed e)

module _ (ph awaited now : ℕ) (pins ch : List ℕ) (ls : List Line) where
  abbrev here : Position
  here = at ph awaited now pins ch

  pub fixed_taken : (m : Mark) → Accepts here (Fixed m ∷ ls) → (ph ≡ place m) × (awaited % 2 ≡ 0)
  unfolding turn_of
  fixed_taken m h =
      let q = both_true (eqb ph (place m)) (eqb (awaited % 2) 0) (must _ here _ ls h) in
      (eqb-true ph (place m) q.0, eqb-true (awaited % 2) 0 q.1)

  pub var_taken : (w : ℕ) → Accepts here (Var w ∷ ls) → (ph ≡ 2) × (follows awaited w ≡ true)
  unfolding turn_of
  var_taken w h = let q = both_true (eqb ph 2) (follows awaited w) (must _ here _ ls h) in (eqb-true ph 2 q.0, q.1)

  pub unknown_taken : (w : ℕ) → Accepts here (Unknown w ∷ ls) → (ph ≡ 5) × (follows awaited w ≡ true) × (get_or pins (w / 2) 0 ≡ 4)
  unfolding turn_of
  unknown_taken w h =
      let q = both_true (eqb ph 5) (follows awaited w && eqb (get_or pins (w / 2) 0) 4) (must _ here _ ls h) in
      let r = both_true (follows awaited w) (eqb (get_or pins (w / 2) 0) 4) q.1 in
      (eqb-true ph 5 q.0, r.0, eqb-true (get_or pins (w / 2) 0) 4 r.1)

  pub time_taken : (t : ℕ) → Accepts here (Time t ∷ ls) → (eqb ph 6 || (eqb ph 8 && ltb now t) ≡ true) × (awaited ≡ 0) × (t % 25 ≡ 0)
  unfolding turn_of
  time_taken t h =
      let q = both_true (eqb ph 6 || (eqb ph 8 && ltb now t)) (eqb awaited 0 && eqb (t % 25) 0) (must _ here _ ls h) in
      let r = both_true (eqb awaited 0) (eqb (t % 25) 0) q.1 in
      (q.0, eqb-true awaited 0 r.0, eqb-true (t % 25) 0 r.1)

  pub change_taken : (w b : ℕ) → Accepts here (Change w b ∷ ls) → (eqb ph 7 || eqb ph 8 ≡ true) × (taken awaited (get_or pins (w / 2) 0) w b ≡ true)
  unfolding turn_of
  change_taken w b h = both_true (eqb ph 7 || eqb ph 8) (taken awaited (get_or pins (w / 2) 0) w b) (must _ here _ ls h)

-- ---- a text is that of its lines

pub text_forth : (s line : List ℕ) (r : Position) → Accepts r (lines_from line s) → GoodLines (lines_from line s) × (text_of (lines_from line s) ≡ line ++ s)
unfolding lines_from text_of turn_of
text_forth [] [] r e = (tt, refl)
text_forth [] (a ∷ line) r e = absurd (stuck [] r.awaited r.now r.pins r.changed (rw (ne_eqb (suc (length line)) 0 (omega arith)) at e))
text_forth (b ∷ s) line r e = go (eqb b 10) refl e (λ q. text_forth s [] q) (text_forth s (line ++ b ∷ []) r)
  where
    cut : (l : Line) → Fair line l → b ≡ 10 → Accepts r (l ∷ lines_from [] s) → ((q : Position) → Accepts q (lines_from [] s) → GoodLines (lines_from [] s) × (text_of (lines_from [] s) ≡ s)) → GoodLines (l ∷ lines_from [] s) × (text_of (l ∷ lines_from [] s) ≡ line ++ b ∷ s)
    cut l (inl o) t e ih = absurd (stuck (lines_from [] s) r.awaited r.now r.pins r.changed (subst (λ (k : Line). Accepts r (k ∷ lines_from [] s)) o e))
    cut l (inr g) t e ih = let h = ih (turn_of r l) e in ((g.0, h.0), rw (g.1, h.1, t))

    go : (t : Bool) → eqb b 10 ≡ t → Accepts r (cond t (line_of line ∷ lines_from [] s) (lines_from (line ++ b ∷ []) s))
        → ((q : Position) → Accepts q (lines_from [] s) → GoodLines (lines_from [] s) × (text_of (lines_from [] s) ≡ s))
        → (Accepts r (lines_from (line ++ b ∷ []) s) → GoodLines (lines_from (line ++ b ∷ []) s) × (text_of (lines_from (line ++ b ∷ []) s) ≡ line ++ b ∷ [] ++ s))
        → GoodLines (cond t (line_of line ∷ lines_from [] s) (lines_from (line ++ b ∷ []) s)) × (text_of (cond t (line_of line ∷ lines_from [] s) (lines_from (line ++ b ∷ []) s)) ≡ line ++ b ∷ s)
    go true q e ih jh = cut (line_of line) (line_forth line) (eqb-true b 10 q) e ih
    go false q e ih jh = let h = jh e in (h.0, h.1 ∙ append_snoc line b s)
