-- What the reader makes of a dump: the pins as they stand after all changes at each time at which something changed.
-- Assumes nothing.
use mathlib.Core.Path.{◌≡◌, refl, sym, ap, ◌∙◌, subst}
use mathlib.Core.Bool.{Bool, true, false, ◌&&◌, ◌||◌, cond, false≢true}
use mathlib.Core.List.{List, [], ◌∷◌, ◌++◌, foldl, append_assoc, append-nil}
use Prim.Native.Nat.{ℕ, zero, suc, ◌+◌, ◌*◌, ◌/◌, ◌%◌, ◌≤◌, ◌<◌}
use native.Mathlib.Omega.{arith}
use native.Mathlib.Nat.{add-zero}
use lib.Dec.{eqb, ltb}
use lib.ListN.{length, get_or, set, replicate, length-set, length-append}
use lib.Seq.{append_snoc, get_or_at, set_at, get_or-set_same, set-get_or}
use borrow.Author.Tests.{eqb-true, eqb-false, eq-eqb, ne_eqb, lt-ltb, le-leb, ltb-true, ltb-false}
use Rattle.vcd.specs.declared.Step.{Step}
use Rattle.vcd.specs.declared.Step.TheVariants.{Wait, Pins}
use Rattle.vcd.specs.declared.Mark.TheVariants.{Upscope, EndDefinitions, DumpVars, End}
use Rattle.vcd.specs.declared.Line.{Line}
use Rattle.vcd.specs.declared.Line.TheVariants.{Fixed, Var, Unknown, Time, Change}
use Rattle.vcd.specs.How.{Position}
use Rattle.vcd.specs.Dump.{wires_from, header_of, changes_of, timed, body_from, Good}
use Rattle.vcd.specs.Entries.{Entry, entries_at, entries_from}
use Rattle.vcd.specs.How.{turn_of, var_turn, unknown_turn, time_turn, change_turn, opening, told_before, told_from, whole, entries, told_by, unchanged}
use Rattle.vcd.proofs.Starts.{Fresh, Under, There, there_set}

-- what a run tells, and where it ends
abbrev pub Run : Type 0
Run = record { tells : List Entry; ends : Position }

abbrev pub run : Position → List Line → Run
run r ls = record { tells = told_from r ls; ends = foldl turn_of r ls }

abbrev pub at : ℕ → ℕ → ℕ → List ℕ → List ℕ → Position
at phase awaited now pins changed = record { phase = phase; awaited = awaited; now = now; pins = pins; changed = changed }

-- ---- the header: each encoder is declared in turn, and then unknown in turn

abbrev line_turn : (ℕ → Line) → Position → ℕ → Position
line_turn line r w = turn_of r (line w)

module _ (e a : ℕ) (even : a % 2 ≡ 0) (below : a ≤ 2 * e) where
  half : 2 * e / 2 ≡ e
  half = omega arith

  half_odd : (2 * e + 1) / 2 ≡ e
  half_odd = omega arith

  var_a : (pins : List ℕ) → var_turn (at 2 a 0 pins unchanged) (2 * e) ≡ at 2 (2 * e + 1) 0 (set pins e 4) unchanged
  var_a pins = rw (ne_eqb (a % 2) 1 (omega arith), eq-eqb (2 * e % 2) 0 (omega arith), le-leb a (2 * e) below, half)

  var_b : (pins : List ℕ) → var_turn (at 2 (2 * e + 1) 0 pins unchanged) (2 * e + 1) ≡ at 2 (2 * e + 1 + 1) 0 (set pins e 4) unchanged
  var_b pins = rw (eq-eqb ((2 * e + 1) % 2) 1 (omega arith), eq-eqb (2 * e + 1) (2 * e + 1) refl, half_odd)

  unknown_a : (pins : List ℕ) → get_or pins e 0 ≡ 4 → unknown_turn (at 5 a 0 pins unchanged) (2 * e) ≡ at 5 (2 * e + 1) 0 pins unchanged
  unknown_a pins h = rw (ne_eqb (a % 2) 1 (omega arith), eq-eqb (2 * e % 2) 0 (omega arith), le-leb a (2 * e) below, half, h)

  unknown_b : (pins : List ℕ) → get_or pins e 0 ≡ 4 → unknown_turn (at 5 (2 * e + 1) 0 pins unchanged) (2 * e + 1) ≡ at 5 (2 * e + 1 + 1) 0 pins unchanged
  unknown_b pins h = rw (eq-eqb ((2 * e + 1) % 2) 1 (omega arith), eq-eqb (2 * e + 1) (2 * e + 1) refl, half_odd, h)

vars_done : (a : ℕ) (pins : List ℕ) (ls : List Line) → a % 2 ≡ 0 → run (at 2 a 0 pins unchanged) (Fixed Upscope ∷ ls) ≡ run (at 3 0 0 pins unchanged) ls
unfolding told_from told_before turn_of
vars_done a pins ls even = rw even

pub vars : (xs p : List ℕ) (e a : ℕ) (ls : List Line) → length p ≡ e → a % 2 ≡ 0 → a ≤ 2 * e → Fresh xs
    → run (at 2 a 0 (p ++ replicate (length xs) 5) unchanged) (wires_from Var e xs ++ Fixed Upscope ∷ ls) ≡ run (at 3 0 0 (p ++ xs) unchanged) ls
unfolding wires_from told_from told_before turn_of
vars [] p e a ls l even below h = vars_done a (p ++ []) ls even
vars (x ∷ xs) p e a ls l even below h =
    go (eqb x 5) refl (λ b ev bel. rw (append_snoc p x (replicate (length xs) 5), append_snoc p x xs) at (vars xs (p ++ x ∷ []) (e + 1) b ls (length-append p (x ∷ []) ∙ omega arith) ev bel h.1))
  where
    rest : List ℕ
    rest = replicate (length xs) 5

    goal : List ℕ → List Line → ℕ → Type 0
    goal pins lines b = run (at 2 b 0 pins unchanged) (lines ++ wires_from Var (e + 1) xs ++ Fixed Upscope ∷ ls) ≡ run (at 3 0 0 (p ++ x ∷ xs) unchanged) ls

    declared : x ≡ 4 → (y : ℕ) → set (p ++ y ∷ rest) e 4 ≡ p ++ x ∷ rest
    declared q y = rw (set_at p y rest 4 e l, q)

    go : (t : Bool) → eqb x 5 ≡ t → ((b : ℕ) → b % 2 ≡ 0 → b ≤ 2 * (e + 1) → goal (p ++ x ∷ rest) [] b)
        → goal (p ++ 5 ∷ rest) (cond t [] (Var (2 * e) ∷ Var (2 * e + 1) ∷ [])) a
    go true q ih = subst (λ (y : ℕ). goal (p ++ y ∷ rest) [] a) (eqb-true x 5 q) (ih a even (omega arith))
    go false q ih =
        let n = eqb-false x 5 q in
        let f : x ≡ 4 = omega (arith, h.0) in
        ap (λ (r : Position). run r (Var (2 * e + 1) ∷ (wires_from Var (e + 1) xs ++ Fixed Upscope ∷ ls))) (var_a e a even below (p ++ 5 ∷ rest) ∙ ap (λ (q : List ℕ). at 2 (2 * e + 1) 0 q unchanged) (declared f 5))
        ∙ ap (λ (r : Position). run r (wires_from Var (e + 1) xs ++ Fixed Upscope ∷ ls)) (var_b e a even below (p ++ x ∷ rest) ∙ ap (λ (q : List ℕ). at 2 (2 * e + 1 + 1) 0 q unchanged) (declared f x))
        ∙ ih (2 * e + 1 + 1) (omega arith) (omega arith)

unknowns_done : (a : ℕ) (pins : List ℕ) (ls : List Line) → a % 2 ≡ 0 → run (at 5 a 0 pins unchanged) (Fixed End ∷ ls) ≡ run (at 6 0 0 pins unchanged) ls
unfolding told_from told_before turn_of
unknowns_done a pins ls even = rw even

pub unknowns : (xs ys p : List ℕ) (e a : ℕ) (ls : List Line) → length p ≡ e → a % 2 ≡ 0 → a ≤ 2 * e → length xs ≡ length ys → Under xs ys
    → run (at 5 a 0 (p ++ ys) unchanged) (wires_from Unknown e xs ++ Fixed End ∷ ls) ≡ run (at 6 0 0 (p ++ ys) unchanged) ls
unfolding wires_from told_from told_before turn_of
unknowns [] ys p e a ls l even below m h = unknowns_done a (p ++ ys) ls even
unknowns (x ∷ xs) [] p e a ls l even below m h = absurd (omega arith)
unknowns (x ∷ xs) (y ∷ ys) p e a ls l even below m h =
    go (eqb x 5) refl
    (λ b ev bel. rw (append_snoc p y ys) at (unknowns xs ys (p ++ y ∷ []) (e + 1) b ls (length-append p (y ∷ []) ∙ omega arith) ev bel (omega arith) h.1))
  where
    goal : List Line → ℕ → Type 0
    goal lines b = run (at 5 b 0 (p ++ y ∷ ys) unchanged) (lines ++ wires_from Unknown (e + 1) xs ++ Fixed End ∷ ls) ≡ run (at 6 0 0 (p ++ y ∷ ys) unchanged) ls

    go : (t : Bool) → eqb x 5 ≡ t → ((b : ℕ) → b % 2 ≡ 0 → b ≤ 2 * (e + 1) → goal [] b) → goal (cond t [] (Unknown (2 * e) ∷ Unknown (2 * e + 1) ∷ [])) a
    go true q ih = ih a even (omega arith)
    go false q ih =
        let f : get_or (p ++ y ∷ ys) e 0 ≡ 4 = get_or_at p y ys 0 e l ∙ h.0 (eqb-false x 5 q) in
        ap (λ (r : Position). run r (Unknown (2 * e + 1) ∷ (wires_from Unknown (e + 1) xs ++ Fixed End ∷ ls))) (unknown_a e a even below (p ++ y ∷ ys) f)
        ∙ ap (λ (r : Position). run r (wires_from Unknown (e + 1) xs ++ Fixed End ∷ ls)) (unknown_b e a even below (p ++ y ∷ ys) f)
        ∙ ih (2 * e + 1 + 1) (omega arith) (omega arith)

pub header : (pins unknown : List ℕ) (ls : List Line) → length pins ≡ 20 → length unknown ≡ 20 → Fresh pins → Under unknown pins
    → run opening (header_of pins unknown ++ ls) ≡ run (at 6 0 0 pins unchanged) ls
unfolding told_from told_before turn_of
header pins unknown ls e f h u =
    let rest = Fixed EndDefinitions ∷ Fixed DumpVars ∷ (wires_from Unknown 0 unknown ++ Fixed End ∷ []) in
    ap (run (at 2 0 0 (replicate 20 5) unchanged)) (append_assoc (wires_from Var 0 pins) (Fixed Upscope ∷ rest) ls)
    ∙ (rw e at (vars pins [] 0 0 (rest ++ ls) refl refl (omega arith) h))
    ∙ ap (run (at 5 0 0 pins unchanged)) (append_assoc (wires_from Unknown 0 unknown) (Fixed End ∷ []) ls)
    ∙ unknowns unknown pins [] 0 0 ls refl refl (omega arith) (f ∙ sym e) u

-- ---- one pins record's changes

module _ (ph now e a b : ℕ) (pins ch : List ℕ) (in_time : eqb ph 7 || eqb ph 8 ≡ true) (small : a < 2) (small' : b < 2) (in_row : e < length pins) where
  two_a : 2 * e / 2 ≡ e
  two_a = omega arith

  two_b : (2 * e + 1) / 2 ≡ e
  two_b = omega arith

  module _ (p : ℕ) (is : get_or pins e 0 ≡ p) where
    -- pins that are known
    known_a : p < 4 → (p % 2 ≡ a → ⊥) → change_turn (at ph 0 now pins ch) (2 * e) a ≡ at 8 0 now (set pins e (2 * (p / 2) + a)) (set ch e 1)
    known_a h n = rw (two_a, is, in_time, ne_eqb p 4 (omega arith), lt-ltb p 4 h, eq-eqb (2 * e % 2) 0 (omega arith), ne_eqb (p % 2) a n)

    known_b : p < 4 → (p / 2 ≡ b → ⊥) → change_turn (at ph 0 now pins ch) (2 * e + 1) b ≡ at 8 0 now (set pins e (p % 2 + 2 * b)) (set ch e 1)
    known_b h n = rw (two_b, is, in_time, ne_eqb p 4 (omega arith), lt-ltb p 4 h, ne_eqb ((2 * e + 1) % 2) 0 (omega arith), ne_eqb (p / 2) b n)

    pub first_a : p ≡ 4 → change_turn (at ph 0 now pins ch) (2 * e) a ≡ at 8 (2 * e + 1) now (set pins e (4 + a)) (set ch e 1)
    first_a h = rw (two_a, is, in_time, h, eq-eqb (2 * e % 2) 0 (omega arith))

    then_b : change_turn (at ph (2 * e + 1) now pins ch) (2 * e + 1) b ≡ at 8 0 now (set pins e (p % 2 + 2 * b)) (set ch e 1)
    then_b = rw (two_b, is, in_time, ne_eqb (2 * e + 1) 0 (omega arith), eq-eqb (2 * e + 1) (2 * e + 1) refl, ne_eqb ((2 * e + 1) % 2) 0 (omega arith))

set_set : (l : List ℕ) (i x y : ℕ) → set (set l i x) i y ≡ set l i y
set_set [] i x y = refl
set_set (a ∷ l) zero x y = refl
set_set (a ∷ l) (suc i) x y = ap (λ (m : List ℕ). a ∷ m) (set_set l i x y)

same_at : (ph awaited now : ℕ) (p q c d : List ℕ) → p ≡ q → c ≡ d → at ph awaited now p c ≡ at ph awaited now q d
same_at ph awaited now p q c d e f = rw (e, f)

-- the pins of encoder e were p and are v, something else: both are told, or what has changed
module _ (ph now e v : ℕ) (pins ch : List ℕ) (ls : List Line) (in_time : eqb ph 7 || eqb ph 8 ≡ true) (small : v < 4) (in_row : e < length pins)
    (p : ℕ) (is : get_or pins e 0 ≡ p) where
  abbrev after : Run
  after = run (at 8 0 now (set pins e v) (set ch e 1)) ls

  a_small : v % 2 < 2
  a_small = omega arith

  b_small : v / 2 < 2
  b_small = omega arith

  twice : (x y : ℕ) → y ≡ v → at 8 0 now (set (set pins e x) e y) (set (set ch e 1) e 1) ≡ at 8 0 now (set pins e v) (set ch e 1)
  twice x y q = same_at 8 0 now _ _ _ _ (set_set pins e x y ∙ ap (set pins e) q) (set_set ch e 1 1)

  middle : (x : ℕ) → get_or (set pins e x) e 0 ≡ x
  middle x = get_or-set_same pins e x 0 in_row

  long_middle : (x : ℕ) → e < length (set pins e x)
  long_middle x = omega (arith, length-set pins e x)

  pub first_changes : p ≡ 4 → run (at ph 0 now pins ch) (changes_of e p v ++ ls) ≡ after
  unfolding changes_of told_from told_before turn_of
  first_changes h =
      let x = 4 + v % 2 in
      ap (λ (q : ℕ). run (at ph 0 now pins ch) (changes_of e q v ++ ls)) h
      ∙ ap (λ (r : Position). run r (Change (2 * e + 1) (v / 2) ∷ ls)) (first_a ph now e (v % 2) (v / 2) pins ch in_time a_small b_small in_row p is h)
      ∙ ap (λ (r : Position). run r ls) (then_b 8 now e (v % 2) (v / 2) (set pins e x) (set ch e 1) refl a_small b_small (long_middle x) x (middle x) ∙ twice x (x % 2 + 2 * (v / 2)) (omega arith))

  pub known_changes : p < 4 → (p ≡ v → ⊥) → run (at ph 0 now pins ch) (changes_of e p v ++ ls) ≡ after
  unfolding changes_of told_from told_before turn_of
  known_changes h n = rw (lt-ltb p 4 h) (go (eqb (p % 2) (v % 2)) (eqb (p / 2) (v / 2)) refl refl)
    where
      go : (x y : Bool) → eqb (p % 2) (v % 2) ≡ x → eqb (p / 2) (v / 2) ≡ y
          → run (at ph 0 now pins ch) ((cond x [] (Change (2 * e) (v % 2) ∷ []) ++ cond y [] (Change (2 * e + 1) (v / 2) ∷ [])) ++ ls) ≡ after
      go true true q r = absurd (n (omega (arith, eqb-true (p % 2) (v % 2) q, eqb-true (p / 2) (v / 2) r)))
      go true false q r =
          let i = eqb-true (p % 2) (v % 2) q in
          let s : p % 2 + 2 * (v / 2) ≡ v = omega arith in
          ap (λ (u : Position). run u ls)
          (known_b ph now e (v % 2) (v / 2) pins ch in_time a_small b_small in_row p is h (eqb-false (p / 2) (v / 2) r)
          ∙ ap (λ (k : ℕ). at 8 0 now (set pins e k) (set ch e 1)) s)
      go false true q r =
          let i = eqb-true (p / 2) (v / 2) r in
          let s : 2 * (p / 2) + v % 2 ≡ v = omega arith in
          ap (λ (u : Position). run u ls)
          (known_a ph now e (v % 2) (v / 2) pins ch in_time a_small b_small in_row p is h (eqb-false (p % 2) (v % 2) q)
          ∙ ap (λ (k : ℕ). at 8 0 now (set pins e k) (set ch e 1)) s)
      go false false q r =
          let x = 2 * (p / 2) + v % 2 in
          let m : x / 2 ≡ v / 2 → ⊥ = λ f. eqb-false (p / 2) (v / 2) r (omega arith) in
          ap (λ (u : Position). run u (Change (2 * e + 1) (v / 2) ∷ ls))
          (known_a ph now e (v % 2) (v / 2) pins ch in_time a_small b_small in_row p is h (eqb-false (p % 2) (v % 2) q))
          ∙ ap (λ (u : Position). run u ls)
          (known_b 8 now e (v % 2) (v / 2) (set pins e x) (set ch e 1) refl a_small b_small (long_middle x) x (middle x) (omega arith) m
          ∙ twice x (x % 2 + 2 * (v / 2)) (omega arith))

  pub changes : p < 5 → (p ≡ v → ⊥) → run (at ph 0 now pins ch) (changes_of e p v ++ ls) ≡ after
  changes h n = go (ltb p 4) refl
    where
      go : (t : Bool) → ltb p 4 ≡ t → run (at ph 0 now pins ch) (changes_of e p v ++ ls) ≡ after
      go true q = known_changes (ltb-true p 4 q) n
      go false q = let l = ltb-false p 4 q in first_changes (omega arith)

-- there are changes
pub some_change : (e p v : ℕ) → p < 5 → v < 4 → (p ≡ v → ⊥) → (told : Bool) (now : ℕ) (ls : List Line)
    → timed told now (changes_of e p v) ++ ls ≡ cond told [] (Time now ∷ []) ++ (changes_of e p v ++ ls)
unfolding timed changes_of
some_change e p v h l n told now ls = go (ltb p 4) (eqb (p % 2) (v % 2)) (eqb (p / 2) (v / 2)) refl refl refl
  where
    go : (x y z : Bool) → ltb p 4 ≡ x → eqb (p % 2) (v % 2) ≡ y → eqb (p / 2) (v / 2) ≡ z
        → timed told now (cond (x && y) [] (Change (2 * e) (v % 2) ∷ []) ++ cond (x && z) [] (Change (2 * e + 1) (v / 2) ∷ [])) ++ ls
        ≡ cond told [] (Time now ∷ []) ++ ((cond (x && y) [] (Change (2 * e) (v % 2) ∷ []) ++ cond (x && z) [] (Change (2 * e + 1) (v / 2) ∷ [])) ++ ls)
    go true true true a b c = absurd (n (omega (arith, ltb-true p 4 a, eqb-true (p % 2) (v % 2) b, eqb-true (p / 2) (v / 2) c)))
    go true true false a b c = append_assoc (cond told [] (Time now ∷ [])) _ ls
    go true false z a b c = append_assoc (cond told [] (Time now ∷ [])) _ ls
    go false y z a b c = append_assoc (cond told [] (Time now ∷ [])) _ ls

pub no_change : (e p : ℕ) → p < 4 → changes_of e p p ≡ []
unfolding changes_of
no_change e p h = rw (lt-ltb p 4 h, eq-eqb (p % 2) (p % 2) refl, eq-eqb (p / 2) (p / 2) refl)

-- ---- the body

none_told : (pins : List ℕ) (now e n : ℕ) → entries_at now e pins (replicate n 0) ≡ []
unfolding entries_at
none_told [] now e n = refl
none_told (p ∷ pins) now e zero = refl
none_told (p ∷ pins) now e (suc n) = none_told pins now (e + 1) n

-- the reader is at a change at this time, or a time can come
abbrev Stands : Bool → ℕ → ℕ → ℕ → Type 0
Stands true ph u now = (ph ≡ 8) × (u ≡ now)
Stands false ph u now = eqb ph 6 || (eqb ph 8 && ltb u now) ≡ true

later : (ph u now now' : ℕ) → now ≤ now' → Stands false ph u now → Stands false ph u now'
later ph u now now' h = go (eqb ph 6) (eqb ph 8) (ltb u now) refl
  where
    go : (x y z : Bool) → ltb u now ≡ z → x || (y && z) ≡ true → x || (y && ltb u now') ≡ true
    go true y z q e = refl
    go false true true q e = lt-ltb u now' (omega (arith, ltb-true u now q))
    go false true false q e = absurd (false≢true e)
    go false false z q e = absurd (false≢true e)

ends_there : (ph u now : ℕ) → Stands false ph u now → eqb ph 6 || eqb ph 8 ≡ true
ends_there ph u now = go (eqb ph 6) (eqb ph 8) (ltb u now)
  where
    go : (x y z : Bool) → x || (y && z) ≡ true → x || y ≡ true
    go true y z e = refl
    go false true z e = refl
    go false false z e = absurd (false≢true e)

-- what a run tells, and that it may end
abbrev pub Tells : Position → List Line → List Entry → Type 0
Tells r ls xs = (told_from r ls ≡ xs) × (whole (foldl turn_of r ls) ≡ true)

by_run : (r q : Position) (ls ms : List Line) (xs : List Entry) → run r ls ≡ run q ms → Tells q ms xs → Tells r ls xs
by_run r q ls ms xs e t = (ap (λ (x : Run). x.tells) e ∙ t.0, ap (λ (x : Run). whole x.ends) e ∙ t.1)

time_taken : (ph u now : ℕ) (pins ch : List ℕ) → Stands false ph u now → now % 25 ≡ 0 → time_turn (at ph 0 u pins ch) now ≡ at 7 0 now pins unchanged
time_taken ph u now pins ch s d = rw (s, d)

time_told : (ph u now : ℕ) (pins ch : List ℕ) (ls : List Line) (xs : List Entry) → Stands false ph u now → now % 25 ≡ 0
    → Tells (at 7 0 now pins unchanged) ls xs → Tells (at ph 0 u pins ch) (Time now ∷ ls) (entries_at u 0 pins ch ++ xs)
unfolding told_from told_before turn_of
time_told ph u now pins ch ls xs s d t =
    let e = time_taken ph u now pins ch s d in (
      ap (λ (r : Position). entries_at u 0 pins ch ++ told_from r ls) e ∙ ap (λ (l : List Entry). entries_at u 0 pins ch ++ l) t.0,
      ap (λ (r : Position). whole (foldl turn_of r ls)) e ∙ t.1,
    )

-- what is still to be told
abbrev due : Bool → ℕ → ℕ → List ℕ → List ℕ → List Step → List Entry
due told now u pins ch ss = cond told (entries_from now pins ch ss) (entries_at u 0 pins ch ++ entries_from now pins unchanged ss)

abbrev Claim : List Step → Type 0
Claim ss = (told : Bool) (now u ph : ℕ) (pins ch : List ℕ) (end : ℕ) → Good end now ss → There pins ss → length pins ≡ 20 → now % 25 ≡ 0 → Stands told ph u now
    → Tells (at ph 0 u pins ch) (body_from told now pins ss) (due told now u pins ch ss)

module _ (now u ph : ℕ) (pins ch : List ℕ) where
  no_steps_told : Stands true ph u now → Tells (at ph 0 u pins ch) [] (entries_at now 0 pins ch)
  unfolding told_from
  no_steps_told s = (rw s.1, rw s.0)

  no_steps : Stands false ph u now → Tells (at ph 0 u pins ch) [] (entries_at u 0 pins ch ++ entries_at now 0 pins unchanged)
  unfolding told_from
  no_steps s = (sym (rw (none_told pins now 0 20) (append-nil (entries_at u 0 pins ch))), rw (ends_there ph u now s))

-- a pins record, and what is told from there on
module _ (now u ph e v : ℕ) (pins ch : List ℕ) (ss : List Step) (d : now % 25 ≡ 0) (there : get_or pins e 0 < 5) (in_row : e < length pins) (small : v < 4)
    (ih : (told : Bool) (u ph : ℕ) (ch : List ℕ) → Stands told ph u now
    → Tells (at ph 0 u (set pins e v) ch) (body_from told now (set pins e v) ss) (due told now u (set pins e v) ch ss)) where
  abbrev p : ℕ
  p = get_or pins e 0

  -- its pins are those that they were
  module _ (q : p ≡ v) where
    stay : set pins e v ≡ pins
    stay = ap (set pins e) (sym q) ∙ set-get_or pins e 0

    quiet : (told : Bool) → timed told now (changes_of e p v) ≡ []
    unfolding timed
    quiet told = ap (timed told now) (ap (changes_of e p) (sym q) ∙ no_change e p (omega arith))

    same_pins : (told : Bool) → Stands told ph u now → Tells (at ph 0 u pins ch) (body_from told now (set pins e v) ss) (due told now u (set pins e v) ch ss)
    same_pins told s =
        subst (λ (l : List ℕ). Tells (at ph 0 u l ch) (body_from told now (set pins e v) ss) (due told now u (set pins e v) ch ss)) stay (ih told u ph ch s)

    pub quiet_told : Stands true ph u now → Tells (at ph 0 u pins ch) (body_from true now pins (Pins e v ∷ ss)) (entries_from now pins ch (Pins e v ∷ ss))
    unfolding body_from entries_from
    quiet_told s = rw (eq-eqb p v q, quiet true) (same_pins true s)

    pub quiet_untold : Stands false ph u now
        → Tells (at ph 0 u pins ch) (body_from false now pins (Pins e v ∷ ss)) (entries_at u 0 pins ch ++ entries_from now pins unchanged (Pins e v ∷ ss))
    unfolding body_from entries_from
    quiet_untold s =
        rw (eq-eqb p v q, quiet false)
        (subst (λ (l : List ℕ). Tells (at ph 0 u pins ch) (body_from false now (set pins e v) ss) (entries_at u 0 l ch ++ entries_from now (set pins e v) unchanged ss)) stay (same_pins false s))

  -- they are others
  module _ (n : p ≡ v → ⊥) where
    abbrev rest : List Line
    rest = body_from true now (set pins e v) ss

    moved : (ph : ℕ) (c : List ℕ) → eqb ph 7 || eqb ph 8 ≡ true
        → Tells (at ph 0 now pins c) (changes_of e p v ++ rest) (entries_from now (set pins e v) (set c e 1) ss)
    moved ph c t =
        by_run _ (at 8 0 now (set pins e v) (set c e 1)) _ rest _ (changes ph now e v pins c rest t small in_row p refl there n)
        (ih true now 8 (set c e 1) (refl, refl))

    pub moved_told : Stands true ph u now → Tells (at ph 0 u pins ch) (body_from true now pins (Pins e v ∷ ss)) (entries_from now pins ch (Pins e v ∷ ss))
    unfolding body_from entries_from
    moved_told s =
        rw (ne_eqb p v n, some_change e p v there small n true now rest)
        (subst (λ (x : ℕ). Tells (at ph 0 x pins ch) (changes_of e p v ++ rest) (entries_from now (set pins e v) (set ch e 1) ss)) (sym s.1)
        (moved ph ch (rw s.0)))

    pub moved_untold : Stands false ph u now
        → Tells (at ph 0 u pins ch) (body_from false now pins (Pins e v ∷ ss)) (entries_at u 0 pins ch ++ entries_from now pins unchanged (Pins e v ∷ ss))
    unfolding body_from entries_from
    moved_untold s =
        rw (ne_eqb p v n, some_change e p v there small n false now rest)
        (time_told ph u now pins ch (changes_of e p v ++ rest) _ s d (moved 7 unchanged refl))

  pub pins_told : (told : Bool) → Stands told ph u now → Tells (at ph 0 u pins ch) (body_from told now pins (Pins e v ∷ ss)) (due told now u pins ch (Pins e v ∷ ss))
  pins_told told s = go (eqb p v) refl told s
    where
      go : (t : Bool) → eqb p v ≡ t → (told : Bool) → Stands told ph u now
          → Tells (at ph 0 u pins ch) (body_from told now pins (Pins e v ∷ ss)) (due told now u pins ch (Pins e v ∷ ss))
      go true q true s = quiet_told (eqb-true p v q) s
      go true q false s = quiet_untold (eqb-true p v q) s
      go false q true s = moved_told (eqb-false p v q) s
      go false q false s = moved_untold (eqb-false p v q) s

pub body : (ss : List Step) → Claim ss
unfolding body_from entries_from
body [] true now u ph pins ch end g th l d s = no_steps_told now u ph pins ch s
body [] false now u ph pins ch end g th l d s = no_steps now u ph pins ch s
body (Wait zero ∷ ss) true now u ph pins ch end g th l d s = rw (add-zero now) (body ss true now u ph pins ch end (rw (add-zero now) at g) th l d s)
body (Wait zero ∷ ss) false now u ph pins ch end g th l d s = rw (add-zero now) (body ss false now u ph pins ch end (rw (add-zero now) at g) th l d s)
body (Wait (suc t) ∷ ss) true now u ph pins ch end g th l d s =
    let now' = now + 25 * suc t in
    let k : Stands false ph u now' = rw (s.0, s.1, lt-ltb now now' (omega arith)) in
    rw (ne_eqb (suc t) 0 (omega arith))
    (subst (λ (x : ℕ). Tells (at ph 0 u pins ch) (body_from false now' pins ss) (entries_at x 0 pins ch ++ entries_from now' pins unchanged ss)) s.1
    (body ss false now' u ph pins ch end g th l (omega arith) k))
body (Wait (suc t) ∷ ss) false now u ph pins ch end g th l d s =
    let now' = now + 25 * suc t in
    rw (ne_eqb (suc t) 0 (omega arith), none_told pins now 0 20) (body ss false now' u ph pins ch end g th l (omega arith) (later ph u now now' (omega arith) s))
body (Pins e v ∷ ss) told now u ph pins ch end g th l d s =
    pins_told now u ph e v pins ch ss d th.0 (omega (arith, g.0)) g.1
    (λ told u ph ch s. body ss told now u ph (set pins e v) ch end g.2 (there_set ss pins e v (omega (arith, g.1)) th.1) (length-set pins e v ∙ l) d s)
    told s

-- the whole
module _ (pins unknown : List ℕ) (steps : List Step) (end : ℕ) (long : length pins ≡ 20) (long' : length unknown ≡ 20) (fresh : Fresh pins) (under : Under unknown pins)
    (good : Good end 0 steps) (there : There pins steps) where
  pub told_all : told_by (header_of pins unknown ++ body_from false 0 pins steps) ≡ entries (entries_from 0 pins unchanged steps)
  unfolding told_by
  told_all =
      let t = by_run opening (at 6 0 0 pins unchanged) (header_of pins unknown ++ body_from false 0 pins steps) (body_from false 0 pins steps) _ (header pins unknown (body_from false 0 pins steps) long long' fresh under) (body steps false 0 0 6 pins unchanged end good there long refl refl) in
      rw t.1 (ap entries (t.0 ∙ ap (λ (l : List Entry). l ++ entries_from 0 pins unchanged steps) (none_told pins 0 0 20)))
