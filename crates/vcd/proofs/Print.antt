-- Reading lines gives back what was written. Assumes nothing.
use mathlib.Core.Path.{◌≡◌, refl, ap, ◌∙◌}
use mathlib.Core.Bool.{Bool, true, false, ◌&&◌, not, cond, false≢true}
use mathlib.Core.List.{List, [], ◌∷◌, ◌++◌, append-nil}
use Prim.Native.Nat.{ℕ, zero, suc, ◌+◌, ◌/◌, ◌%◌, ◌^◌, ◌<◌}
use native.Mathlib.Omega.{arith}
use lib.Dec.{eqb, ltb, leb}
use lib.ListN.{get_or}
use lib.Seq.{append_snoc}
use borrow.Author.Tests.{lt-leb, le-leb, ne_eqb, leb-true, ltb-true, ltb-false}
use Rattle.std.specs.Prelude.{Some, bytes_eq}
use Rattle.std.proofs.lemmas.Slice.Eq.{bytes_eq-Decides}
use Rattle.decimal.specs.Decimal.{are_digits}
use Rattle.decimal.specs.Digits.{digits_of}
use Rattle.decimal.proofs.Back.{decimal_back, are_digits_lem, first_digit, digits_small}
use Rattle.vcd.specs.declared.Mark.{Mark}
use Rattle.vcd.specs.declared.Mark.TheVariants.{Timescale, Scope, Upscope, EndDefinitions, DumpVars, End}
use Rattle.vcd.specs.declared.Line.{Line}
use Rattle.vcd.specs.declared.Line.TheVariants.{Fixed, Var, Unknown, Time, Change, Other}
use Rattle.vcd.specs.Lines.{fixed_lines, place, code_of, var_of, print_of, text_of}
use Rattle.vcd.specs.How.{wire_of, var_with, head_of, time_of, value_of, change_in, line_of, lines_from, lines_of}

-- the fixed line of a place
abbrev pub mark : ℕ → Mark
mark zero = Timescale
mark (suc zero) = Scope
mark (suc (suc zero)) = Upscope
mark (suc (suc (suc zero))) = EndDefinitions
mark (suc (suc (suc (suc zero)))) = DumpVars
mark (suc (suc (suc (suc (suc k))))) = End

pub mark_place : (m : Mark) → mark (place m) ≡ m
mark_place Timescale = refl
mark_place Scope = refl
mark_place Upscope = refl
mark_place EndDefinitions = refl
mark_place DumpVars = refl
mark_place End = refl

pub place_small : (m : Mark) → place m < 6
place_small Timescale = omega arith
place_small Scope = omega arith
place_small Upscope = omega arith
place_small EndDefinitions = omega arith
place_small DumpVars = omega arith
place_small End = omega arith

-- the lines that a dump can have
abbrev pub GoodLine : Line → Type 0
GoodLine (Fixed m) = Unit {0}
GoodLine (Var w) = w < 40
GoodLine (Unknown w) = w < 40
GoodLine (Time t) = t < 2 ^ 64
GoodLine (Change w b) = (w < 40) × (b < 2)
GoodLine Other = ⊥

abbrev pub GoodLines : List Line → Type 0
GoodLines [] = Unit {0}
GoodLines (l ∷ ls) = GoodLine l × GoodLines ls

-- ---- one line

eq_refl : (s : List ℕ) → bytes_eq s s ≡ true
eq_refl s = (bytes_eq-Decides s s).1 refl

pub wire_back : (w : ℕ) → w < 40 → wire_of (code_of w) ≡ Some w
wire_back w h = by (ltb w 20) refl
  where
    by : (t : Bool) → ltb w 20 ≡ t → wire_of (code_of w) ≡ Some w
    by true e =
        let l = ltb-true w 20 e in
        let c : code_of w ≡ 65 + w = omega arith in
        rw (c, le-leb 65 (65 + w) (omega arith), le-leb (65 + w) 84 (omega arith)) (ap Some (omega arith))
    by false e =
        let l = ltb-false w 20 e in
        let c : code_of w ≡ 77 + w = omega arith in
        rw (c, le-leb 65 (77 + w) (omega arith), lt-leb (77 + w) 84 (omega arith), le-leb 97 (77 + w) (omega arith), le-leb (77 + w) 116 (omega arith)) (ap Some (omega arith))

var_back : (w : ℕ) → w < 40 → var_with (var_of w) (wire_of (code_of w)) ≡ Var w
var_back w h = rw (wire_back w h, eq_refl (var_of w))

head_var : (w : ℕ) → head_of (var_of w) ≡ var_with (var_of w) (wire_of (code_of w))
unfolding head_of fixed_lines var_of
head_var w = refl

change_back : (w b : ℕ) → w < 40 → b < 2 → value_of (48 + b) (wire_of (code_of w)) ≡ Change w b
change_back w zero h l = rw (wire_back w h)
change_back w (suc zero) h l = rw (wire_back w h)
change_back w (suc (suc b)) h l = absurd (omega arith)

unknown_back : (w : ℕ) → w < 40 → value_of 120 (wire_of (code_of w)) ≡ Unknown w
unknown_back w h = rw (wire_back w h)

time_back : (t : ℕ) → t < 2 ^ 64 → time_of (35 ∷ digits_of t) ≡ Time t
unfolding time_of
time_back zero h = rw (digits_small 0 (omega arith))
time_back (suc t) h =
    let f = first_digit (suc t) (omega arith) in
    rw (ne_eqb (get_or (digits_of (suc t)) 0 0) 48 (omega arith), decimal_back (suc t) h)

pub line_back : (l : Line) → GoodLine l → line_of (print_of l) ≡ l
unfolding line_of print_of head_of change_in fixed_lines var_of
line_back (Fixed Timescale) h = refl
line_back (Fixed Scope) h = refl
line_back (Fixed Upscope) h = refl
line_back (Fixed EndDefinitions) h = refl
line_back (Fixed DumpVars) h = refl
line_back (Fixed End) h = refl
line_back (Var w) h = var_back w h
line_back (Unknown w) h = unknown_back w h
line_back (Time t) h = time_back t h
line_back (Change w b) h = rw (ne_eqb (48 + b) 35 (omega arith), ne_eqb (48 + b) 36 (omega arith)) (change_back w b h.0 h.1)
line_back Other h = absurd h

-- ---- no line has a newline in it

pub unbroken : List ℕ → Bool
unbroken [] = true
unbroken (b ∷ s) = not (eqb b 10) && unbroken s

digits_unbroken : (s : List ℕ) → are_digits s ≡ true → unbroken s ≡ true
unfolding unbroken
digits_unbroken [] e = refl
digits_unbroken (b ∷ s) e = go (leb 48 b) (leb b 57) refl e (λ e'. digits_unbroken s e')
  where
    go : (x y : Bool) → leb 48 b ≡ x → (x && y) && are_digits s ≡ true → (are_digits s ≡ true → unbroken s ≡ true) → not (eqb b 10) && unbroken s ≡ true
    go true true p e ih = let l = leb-true 48 b p in rw (ne_eqb b 10 (omega arith)) (ih e)
    go true false p e ih = absurd (false≢true e)
    go false y p e ih = absurd (false≢true e)

pub line_unbroken : (l : Line) → GoodLine l → unbroken (print_of l) ≡ true
unfolding unbroken print_of fixed_lines var_of
line_unbroken (Fixed Timescale) h = refl
line_unbroken (Fixed Scope) h = refl
line_unbroken (Fixed Upscope) h = refl
line_unbroken (Fixed EndDefinitions) h = refl
line_unbroken (Fixed DumpVars) h = refl
line_unbroken (Fixed End) h = refl
line_unbroken (Var w) h = rw (ne_eqb (code_of w) 10 (omega arith), ne_eqb (48 + w / 20) 10 (omega arith), ne_eqb (48 + w / 2 % 10) 10 (omega arith), ne_eqb (65 + w % 2) 10 (omega arith))
line_unbroken (Unknown w) h = rw (ne_eqb (code_of w) 10 (omega arith))
line_unbroken (Time t) h = digits_unbroken (digits_of t) (are_digits_lem t)
line_unbroken (Change w b) h = rw (ne_eqb (48 + b) 10 (omega arith), ne_eqb (code_of w) 10 (omega arith))
line_unbroken Other h = absurd h

-- ---- a text is its lines

pub cut_line : (line s t : List ℕ) → unbroken s ≡ true → lines_from line (s ++ 10 ∷ t) ≡ line_of (line ++ s) ∷ lines_from [] t
unfolding lines_from unbroken
cut_line line [] t e = rw append-nil
cut_line line (b ∷ s) t e = go (eqb b 10) e (λ e'. cut_line (line ++ b ∷ []) s t e')
  where
    go : (x : Bool) → not x && unbroken s ≡ true → (unbroken s ≡ true → lines_from (line ++ b ∷ []) (s ++ 10 ∷ t) ≡ line_of (line ++ b ∷ [] ++ s) ∷ lines_from [] t)
        → cond x (line_of line ∷ lines_from [] (s ++ 10 ∷ t)) (lines_from (line ++ b ∷ []) (s ++ 10 ∷ t)) ≡ line_of (line ++ b ∷ s) ∷ lines_from [] t
    go true e ih = absurd (false≢true e)
    go false e ih = ih e ∙ rw append_snoc

pub lines_back : (ls : List Line) → GoodLines ls → lines_of (text_of ls) ≡ ls
unfolding text_of lines_from
lines_back [] h = refl
lines_back (l ∷ ls) h = rw (cut_line [] (print_of l) (text_of ls) (line_unbroken l h.0), line_back l h.0) (ap (λ (r : List Line). l ∷ r) (lines_back ls h.1))
