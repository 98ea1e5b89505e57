-- Each line of a dump can be read, and how long a dump can be. Assumes nothing.
use mathlib.Core.Path.{◌≡◌, refl, sym, ap, ◌∙◌}
use mathlib.Core.Bool.{Bool, true, false, ◌&&◌, ◌||◌, not, cond}
use mathlib.Core.List.{List, [], ◌∷◌, ◌++◌, append_assoc}
use Prim.Native.Nat.{ℕ, suc, ◌+◌, ◌*◌, ◌/◌, ◌%◌, ◌^◌, ◌≤◌, ◌<◌}
use native.Mathlib.Omega.{arith}
use lib.Dec.{eqb, ltb}
use lib.ListN.{length, get_or, set, length-append}
use borrow.Author.Tests.{eqb-true}
use Rattle.decimal.specs.Digits.{digits_of}
use Rattle.decimal.proofs.Back.{few_digits}
use Rattle.vcd.specs.declared.Step.{Step}
use Rattle.vcd.specs.declared.Step.TheVariants.{Wait, Pins}
use Rattle.vcd.specs.declared.Mark.TheVariants.{Timescale, Scope, Upscope, EndDefinitions, DumpVars, End}
use Rattle.vcd.specs.declared.Line.{Line}
use Rattle.vcd.specs.declared.Line.TheVariants.{Fixed, Var, Unknown, Time, Change}
use Rattle.vcd.specs.Lines.{fixed_lines, var_of, print_of, text_of}
use Rattle.vcd.specs.Dump.{start_of, wires_from, header_of, change_of, changes_of, timed, body_from, dump_of, Good}
use Rattle.vcd.proofs.Print.{GoodLine, GoodLines}
use Rattle.vcd.proofs.Starts.{long_start}
use Rattle.vcd.proofs.Heart.{no_change}

pub text_append : (ls ms : List Line) → text_of (ls ++ ms) ≡ text_of ls ++ text_of ms
unfolding text_of
text_append [] ms = refl
text_append (l ∷ ls) ms = rw (text_append ls ms) (sym (append_assoc (print_of l) (10 ∷ text_of ls) (text_of ms)))

pub text_long : (ls ms : List Line) → length (text_of (ls ++ ms)) ≡ length (text_of ls) + length (text_of ms)
text_long ls ms = ap length (text_append ls ms) ∙ length-append (text_of ls) (text_of ms)

pub good_append : (ls ms : List Line) → GoodLines ls → GoodLines ms → GoodLines (ls ++ ms)
good_append [] ms h k = k
good_append (l ∷ ls) ms h k = (h.0, good_append ls ms h.1 k)

-- ---- the header

module _ (line : ℕ → Line) (k : ℕ) (good : (w : ℕ) → w < 40 → GoodLine (line w)) (long : (w : ℕ) → length (text_of (line w ∷ [])) ≤ k) where
  good_wires : (xs : List ℕ) (e : ℕ) → e + length xs ≤ 20 → GoodLines (wires_from line e xs)
  unfolding wires_from
  good_wires [] e h = tt
  good_wires (x ∷ xs) e h = go (eqb x 5) (good_wires xs (e + 1) (omega arith))
    where
      go : (t : Bool) → GoodLines (wires_from line (e + 1) xs) → GoodLines (cond t [] (line (2 * e) ∷ line (2 * e + 1) ∷ []) ++ wires_from line (e + 1) xs)
      go true g = g
      go false g = (good (2 * e) (omega arith), (good (2 * e + 1) (omega arith), g))

  short_wires : (xs : List ℕ) (e : ℕ) → length (text_of (wires_from line e xs)) ≤ 2 * (k * length xs)
  unfolding wires_from text_of
  short_wires [] e = omega arith
  short_wires (x ∷ xs) e = go (eqb x 5) (short_wires xs (e + 1))
    where
      rest : List Line
      rest = wires_from line (e + 1) xs

      two : length (text_of (line (2 * e) ∷ line (2 * e + 1) ∷ rest)) ≤ k + k + length (text_of rest)
      two =
          omega (
            arith,
            text_long (line (2 * e) ∷ []) (line (2 * e + 1) ∷ rest),
            text_long (line (2 * e + 1) ∷ []) rest,
            long (2 * e),
            long (2 * e + 1),
          )

      go : (t : Bool) → length (text_of rest) ≤ 2 * (k * length xs)
          → length (text_of (cond t [] (line (2 * e) ∷ line (2 * e + 1) ∷ []) ++ rest)) ≤ 2 * (k * length (x ∷ xs))
      go true h = omega arith
      go false h = omega (arith, two)

var_long : (w : ℕ) → length (text_of (Var w ∷ [])) ≤ 36
unfolding text_of print_of var_of
var_long w = omega arith

unknown_long : (w : ℕ) → length (text_of (Unknown w ∷ [])) ≤ 3
unfolding text_of print_of
unknown_long w = omega arith

module _ (pins unknown : List ℕ) (l : length pins ≡ 20) (m : length unknown ≡ 20) where
  pub good_header : GoodLines (header_of pins unknown)
  good_header = (
    omega arith,
    (
      omega arith,
      good_append (wires_from Var 0 pins) (Fixed Upscope ∷ Fixed EndDefinitions ∷ Fixed DumpVars ∷ (wires_from Unknown 0 unknown ++ Fixed End ∷ [])) (good_wires Var 36 (λ w h. h) var_long pins 0 (omega arith))
          (omega arith, (omega arith, (omega arith, good_append (wires_from Unknown 0 unknown) (Fixed End ∷ []) (good_wires Unknown 3 (λ w h. h) unknown_long unknown 0 (omega arith)) (omega arith, tt)))),
    ),
  )

  fixed_long : (ls ms : List Line) → length (text_of (Fixed Timescale ∷ Fixed Scope ∷ (ls ++ Fixed Upscope ∷ Fixed EndDefinitions ∷ Fixed DumpVars ∷ (ms ++ Fixed End ∷ [])))) ≡ 95 + length (text_of ls) + length (text_of ms)
  unfolding text_of print_of fixed_lines
  fixed_long ls ms = omega (arith, text_long ls (Fixed Upscope ∷ Fixed EndDefinitions ∷ Fixed DumpVars ∷ (ms ++ Fixed End ∷ [])), text_long ms (Fixed End ∷ []))

  short_header : length (text_of (header_of pins unknown)) ≤ 1655
  short_header = omega (arith, fixed_long (wires_from Var 0 pins) (wires_from Unknown 0 unknown), short_wires Var 36 (λ w h. h) var_long pins 0, short_wires Unknown 3 (λ w h. h) unknown_long unknown 0)

-- ---- the body: a change that no time stands before follows one that a time does, and a time follows ticks

good_change : (w b : ℕ) (t : Bool) → w < 40 → b < 2 → GoodLines (cond t [] (Change w b ∷ []))
good_change w b true h k = tt
good_change w b false h k = ((h, k), tt)

good_changes : (e p v : ℕ) → e < 20 → v < 4 → GoodLines (changes_of e p v)
unfolding changes_of
good_changes e p v h k =
    good_append (change_of (2 * e) (ltb p 4) (p % 2) (v % 2)) (change_of (2 * e + 1) (ltb p 4) (p / 2) (v / 2))
    (good_change (2 * e) (v % 2) (ltb p 4 && eqb (p % 2) (v % 2)) (omega arith) (omega arith))
    (good_change (2 * e + 1) (v / 2) (ltb p 4 && eqb (p / 2) (v / 2)) (omega arith) (omega arith))

good_timed : (told : Bool) (now : ℕ) (ls : List Line) → now < 2 ^ 64 → GoodLines ls → GoodLines (timed told now ls)
unfolding timed
good_timed told now [] h g = tt
good_timed true now (l ∷ ls) h g = g
good_timed false now (l ∷ ls) h g = (h, g)

change_short : (w b : ℕ) (t : Bool) → length (text_of (cond t [] (Change w b ∷ []))) ≤ 3
unfolding text_of print_of
change_short w b true = omega arith
change_short w b false = omega arith

changes_short : (e p v : ℕ) → length (text_of (changes_of e p v)) ≤ 6
unfolding changes_of
changes_short e p v =
    omega (
      arith,
      text_long (change_of (2 * e) (ltb p 4) (p % 2) (v % 2)) (change_of (2 * e + 1) (ltb p 4) (p / 2) (v / 2)),
      change_short (2 * e) (v % 2) (ltb p 4 && eqb (p % 2) (v % 2)),
      change_short (2 * e + 1) (v / 2) (ltb p 4 && eqb (p / 2) (v / 2)),
    )

-- 15 digits
time_short : (now : ℕ) → now < 10 ^ 15 → length (text_of (Time now ∷ [])) ≤ 17
unfolding text_of print_of
time_short now h = omega (arith, length-append (35 ∷ digits_of now) (10 ∷ []), few_digits now 14 h)

timed_short : (told : Bool) (now : ℕ) (ls : List Line) → now < 10 ^ 15 → length (text_of (timed told now ls)) ≤ cond told 0 17 + length (text_of ls)
unfolding timed text_of
timed_short true now [] h = omega arith
timed_short false now [] h = omega arith
timed_short true now (l ∷ ls) h = omega arith
timed_short false now (l ∷ ls) h = omega (arith, text_long (Time now ∷ []) (l ∷ ls), time_short now h)

-- what ends in time is in time
pub in_time : (ss : List Step) (end now : ℕ) → Good end now ss → now < end
in_time [] end now g = g
in_time (Wait t ∷ ss) end now g = omega (arith, in_time ss end (now + 25 * t) g)
in_time (Pins e v ∷ ss) end now g = in_time ss end now g.2

pub still_good : (ss : List Step) (end end' now : ℕ) → end ≤ end' → Good end now ss → Good end' now ss
still_good [] end end' now h g = omega arith
still_good (Wait t ∷ ss) end end' now h g = still_good ss end end' (now + 25 * t) h g
still_good (Pins e v ∷ ss) end end' now h g = (g.0, g.1, still_good ss end end' now h g.2)

pub good_body : (ss : List Step) (told : Bool) (now : ℕ) (pins : List ℕ) (end : ℕ) → end ≤ 2 ^ 64 → Good end now ss → GoodLines (body_from told now pins ss)
unfolding body_from
good_body [] told now pins end s g = tt
good_body (Wait t ∷ ss) told now pins end s g = good_body ss (told && eqb t 0) (now + 25 * t) pins end s g
good_body (Pins e v ∷ ss) told now pins end s g =
    good_append (timed told now (changes_of e (get_or pins e 0) v)) (body_from (told || not (eqb (get_or pins e 0) v)) now (set pins e v) ss)
    (good_timed told now (changes_of e (get_or pins e 0) v) (omega (arith, in_time ss end now g.2)) (good_changes e (get_or pins e 0) v g.0 g.1))
    (good_body ss (told || not (eqb (get_or pins e 0) v)) now (set pins e v) end s g.2)

-- 23 bytes for two steps
abbrev Short : Bool → ℕ → List ℕ → List Step → Type 0
Short told now pins ss = 2 * length (text_of (body_from told now pins ss)) ≤ 23 * length ss + cond told 0 23

short_wait : (t : ℕ) (ss : List Step) (told : Bool) (now : ℕ) (pins : List ℕ) → Short (told && eqb t 0) (now + 25 * t) pins ss → Short told now pins (Wait t ∷ ss)
unfolding body_from
short_wait t ss false now pins h = omega arith
short_wait t ss true now pins h = go (eqb t 0) h
  where
    go : (x : Bool) → Short x (now + 25 * t) pins ss → 2 * length (text_of (body_from x (now + 25 * t) pins ss)) ≤ 23 * suc (length ss) + 0
    go true h = omega arith
    go false h = omega arith

short_pins : (e v : ℕ) (ss : List Step) (told : Bool) (now : ℕ) (pins : List ℕ) → v < 4 → now < 10 ^ 15
    → ((b : Bool) → Short b now (set pins e v) ss) → Short told now pins (Pins e v ∷ ss)
unfolding body_from timed
short_pins e v ss told now pins small soon ih = go told (eqb (get_or pins e 0) v) refl
  where
    p : ℕ
    p = get_or pins e 0

    go : (told t : Bool) → eqb p v ≡ t
        → 2 * length (text_of (timed told now (changes_of e p v) ++ body_from (told || not t) now (set pins e v) ss)) ≤ 23 * suc (length ss) + cond told 0 23
    go true t q =
        omega (arith, text_long (timed true now (changes_of e p v)) (body_from true now (set pins e v) ss), timed_short true now (changes_of e p v) soon, changes_short e p v, ih true)
    go false false q =
        omega (arith, text_long (timed false now (changes_of e p v)) (body_from true now (set pins e v) ss), timed_short false now (changes_of e p v) soon, changes_short e p v, ih true)
    go false true q =
        let same = eqb-true p v q in
        let none : timed false now (changes_of e p v) ≡ [] = ap (timed false now) (ap (changes_of e p) (sym same) ∙ no_change e p (omega arith)) in
        rw none (omega (arith, ih false))

short_body : (ss : List Step) (told : Bool) (now : ℕ) (pins : List ℕ) → Good (2 ^ 48) now ss → Short told now pins ss
unfolding body_from text_of
short_body [] told now pins g = omega arith
short_body (Wait t ∷ ss) told now pins g = short_wait t ss told now pins (short_body ss (told && eqb t 0) (now + 25 * t) pins g)
short_body (Pins e v ∷ ss) told now pins g =
    short_pins e v ss told now pins g.1 (omega (arith, in_time ss (2 ^ 48) now g.2)) (λ b. short_body ss b now (set pins e v) g.2)

-- ---- the whole: RVZ_DUMP_BYTES

pub short_dump : (steps : List Step) → Good (2 ^ 48) 0 steps → length steps ≤ 2047 → length (text_of (dump_of steps)) ≤ 25207
unfolding dump_of
short_dump steps good few =
    let start = start_of steps in
    omega (
      arith,
      text_long (header_of start start) (body_from false 0 start steps),
      short_header start start (long_start steps) (long_start steps),
      short_body steps false 0 start good,
    )
