-- What the reader accepts behind the header is the changes of steps. Assumes nothing.
use mathlib.Core.Path.{◌≡◌, refl, sym, ap, ◌∙◌, subst}
use mathlib.Core.Bool.{Bool, true, false, ◌&&◌, ◌||◌, not, cond, false≢true}
use mathlib.Core.List.{List, [], ◌∷◌, ◌++◌}
use Prim.Native.Nat.{ℕ, zero, suc, ◌+◌, ◌-◌, ◌*◌, ◌/◌, ◌%◌, ◌^◌, ◌≤◌, ◌<◌}
use native.Mathlib.Omega.{arith}
use lib.Dec.{eqb, ltb}
use lib.ListN.{length, get_or, set, length-set}
use borrow.Author.Tests.{eqb-true, eqb-false, eq-eqb, ne_eqb, lt-ltb, ltb-true, not-true}
use Rattle.laws.proofs.Truth.{both_true}
use Rattle.vcd.specs.declared.Step.{Step}
use Rattle.vcd.specs.declared.Step.TheVariants.{Wait, Pins}
use Rattle.vcd.specs.declared.Line.{Line}
use Rattle.vcd.specs.declared.Line.TheVariants.{Fixed, Var, Unknown, Time, Change, Other}
use Rattle.vcd.specs.How.{Position}
use Rattle.vcd.specs.Dump.{changes_of, body_from, Good}
use Rattle.vcd.specs.How.{turn_of, time_turn, whole, unchanged}
use Rattle.vcd.proofs.Print.{place_small, GoodLines}
use Rattle.vcd.proofs.Starts.{There, there_unset}
use Rattle.vcd.proofs.Heart.{Run, run, at, first_a, changes, some_change}
use Rattle.vcd.proofs.Parse.{Accepts, fixed_taken, var_taken, unknown_taken, time_taken, change_taken}

-- ---- the lines of one step's changes

changes_a : (e p a : ℕ) → p < 4 → a < 2 → (p % 2 ≡ a → ⊥) → changes_of e p (2 * (p / 2) + a) ≡ Change (2 * e) a ∷ []
unfolding changes_of
changes_a e p a h k n =
    let i : (2 * (p / 2) + a) % 2 ≡ a = omega arith in
    let j : (2 * (p / 2) + a) / 2 ≡ p / 2 = omega arith in
    rw (i, j, lt-ltb p 4 h, ne_eqb (p % 2) a n, eq-eqb (p / 2) (p / 2) refl)

changes_b : (e p b : ℕ) → p < 4 → b < 2 → (p / 2 ≡ b → ⊥) → changes_of e p (p % 2 + 2 * b) ≡ Change (2 * e + 1) b ∷ []
unfolding changes_of
changes_b e p b h k n =
    let i : (p % 2 + 2 * b) % 2 ≡ p % 2 = omega arith in
    let j : (p % 2 + 2 * b) / 2 ≡ b = omega arith in
    rw (i, j, lt-ltb p 4 h, ne_eqb (p / 2) b n, eq-eqb (p % 2) (p % 2) refl)

changes_both : (e a b : ℕ) → a < 2 → b < 2 → changes_of e 4 (a + 2 * b) ≡ Change (2 * e) a ∷ Change (2 * e + 1) b ∷ []
unfolding changes_of
changes_both e a b h k =
    let i : (a + 2 * b) % 2 ≡ a = omega arith in
    let j : (a + 2 * b) / 2 ≡ b = omega arith in
    rw (i, j)

-- lines that begin with the changes of one step
record Took (pins : List ℕ) (ls : List Line) : Type 0 where
  e : ℕ
  v : ℕ
  rest : List Line
  lines : ls ≡ changes_of e (get_or pins e 0) v ++ rest
  row : e < 20
  small : v < 4
  low : get_or pins e 0 < 5
  other : get_or pins e 0 ≡ v → ⊥
  shorter : length rest < length ls
  good : GoodLines rest

-- after an encoder's first A just its B
record Pair (e : ℕ) (ls : List Line) : Type 0 where
  b : ℕ
  rest : List Line
  lines : ls ≡ Change (2 * e + 1) b ∷ rest
  small : b < 2
  good : GoodLines rest

then_b : (e now : ℕ) (pins ch : List ℕ) (ls : List Line) → GoodLines ls → Accepts (at 8 (2 * e + 1) now pins ch) ls → Pair e ls
unfolding turn_of
then_b e now pins ch [] g h = absurd (omega (arith, eqb-true (2 * e + 1) 0 h))
then_b e now pins ch (Fixed k ∷ ls) g h = absurd (omega (arith, place_small k, (fixed_taken 8 (2 * e + 1) now pins ch ls k h).0))
then_b e now pins ch (Var w ∷ ls) g h = absurd (omega (arith, (var_taken 8 (2 * e + 1) now pins ch ls w h).0))
then_b e now pins ch (Unknown w ∷ ls) g h = absurd (omega (arith, (unknown_taken 8 (2 * e + 1) now pins ch ls w h).0))
then_b e now pins ch (Time t ∷ ls) g h = absurd (omega (arith, (time_taken 8 (2 * e + 1) now pins ch ls t h).1))
then_b e now pins ch (Change w b ∷ ls) g h =
    let q = rw (ne_eqb (2 * e + 1) 0 (omega arith)) at (change_taken 8 (2 * e + 1) now pins ch ls w b h).1 in
    record {
      b = b;
      rest = ls;
      lines = ap (λ (k : ℕ). Change k b ∷ ls) (eqb-true w (2 * e + 1) q);
      small = g.0.1;
      good = g.1;
    }
then_b e now pins ch (Other ∷ ls) g h = absurd g.0

first_took : (e a b : ℕ) (pins : List ℕ) (ls rest : List Line) → e < 20 → a < 2 → b < 2 → get_or pins e 0 ≡ 4 → ls ≡ Change (2 * e + 1) b ∷ rest → GoodLines rest
    → Took pins (Change (2 * e) a ∷ ls)
first_took e a b pins ls rest row h k is q g = record {
  e = e;
  v = a + 2 * b;
  rest = rest;
  lines = rw (is, changes_both e a b h k, q);
  row = row;
  small = omega arith;
  low = omega arith;
  other = λ o. omega arith;
  shorter = rw q (omega arith);
  good = g;
}

module _ (ph now e : ℕ) (pins ch : List ℕ) (in_time : eqb ph 7 || eqb ph 8 ≡ true) (row : e < 20) (long : length pins ≡ 20) (ls : List Line) (good : GoodLines ls) where
  took_a : (a : ℕ) → a < 2 → Accepts (at ph 0 now pins ch) (Change (2 * e) a ∷ ls) → Took pins (Change (2 * e) a ∷ ls)
  unfolding turn_of
  took_a a h acc =
      let half : 2 * e / 2 ≡ e = omega arith in
      let even : 2 * e % 2 ≡ 0 = omega arith in
      by (get_or pins e 0) refl (eqb (get_or pins e 0) 4) refl (rw (half, even) at (change_taken ph 0 now pins ch ls (2 * e) a acc).1)
    where
      by : (p : ℕ) → get_or pins e 0 ≡ p → (t : Bool) → eqb p 4 ≡ t → cond t true (ltb p 4 && not (eqb (p % 2) a)) ≡ true → Took pins (Change (2 * e) a ∷ ls)
      by p is true q c =
          let f = eqb-true p 4 q in
          let b = then_b e now (set pins e (4 + a)) (set ch e 1) ls good (subst (λ (r : Position). Accepts r ls) (first_a ph now e a 0 pins ch in_time h (omega arith) (omega arith) p is f) acc) in
          first_took e a b.b pins ls b.rest row h b.small (is ∙ f) b.lines b.good
      by p is false q c =
          let s = both_true (ltb p 4) (not (eqb (p % 2) a)) c in
          let l = ltb-true p 4 s.0 in
          let n = eqb-false (p % 2) a (not-true (eqb (p % 2) a) s.1) in
          record {
            e = e;
            v = 2 * (p / 2) + a;
            rest = ls;
            lines = rw (is, changes_a e p a l h n);
            row = row;
            small = omega arith;
            low = omega arith;
            other = λ o. n (omega arith);
            shorter = omega arith;
            good = good;
          }

  took_b : (b : ℕ) → b < 2 → Accepts (at ph 0 now pins ch) (Change (2 * e + 1) b ∷ ls) → Took pins (Change (2 * e + 1) b ∷ ls)
  unfolding turn_of
  took_b b h acc =
      let half : (2 * e + 1) / 2 ≡ e = omega arith in
      let odd : (2 * e + 1) % 2 ≡ 1 = omega arith in
      by (get_or pins e 0) refl (eqb (get_or pins e 0) 4) refl (rw (half, odd) at (change_taken ph 0 now pins ch ls (2 * e + 1) b acc).1)
    where
      by : (p : ℕ) → get_or pins e 0 ≡ p → (t : Bool) → eqb p 4 ≡ t → cond t false (ltb p 4 && not (eqb (p / 2) b)) ≡ true → Took pins (Change (2 * e + 1) b ∷ ls)
      by p is true q c = absurd (false≢true c)
      by p is false q c =
          let s = both_true (ltb p 4) (not (eqb (p / 2) b)) c in
          let l = ltb-true p 4 s.0 in
          let n = eqb-false (p / 2) b (not-true (eqb (p / 2) b) s.1) in
          record {
            e = e;
            v = p % 2 + 2 * b;
            rest = ls;
            lines = rw (is, changes_b e p b l h n);
            row = row;
            small = omega arith;
            low = omega arith;
            other = λ o. n (omega arith);
            shorter = omega arith;
            good = good;
          }

took : (ph now w b : ℕ) (pins ch : List ℕ) (ls : List Line) → eqb ph 7 || eqb ph 8 ≡ true → length pins ≡ 20 → GoodLines (Change w b ∷ ls)
    → Accepts (at ph 0 now pins ch) (Change w b ∷ ls) → Took pins (Change w b ∷ ls)
took ph now w b pins ch ls t l g acc = by (eqb (w % 2) 0) refl
  where
    by : (x : Bool) → eqb (w % 2) 0 ≡ x → Took pins (Change w b ∷ ls)
    by true q =
        let i : w ≡ 2 * (w / 2) = omega (arith, eqb-true (w % 2) 0 q) in
        rw i (took_a ph now (w / 2) pins ch t (omega (arith, g.0.0)) l ls g.1 b g.0.1 (rw i at acc))
    by false q =
        let n = eqb-false (w % 2) 0 q in
        let i : w ≡ 2 * (w / 2) + 1 = omega arith in
        rw i (took_b ph now (w / 2) pins ch t (omega (arith, g.0.0)) l ls g.1 b g.0.1 (rw i at acc))

-- ---- the body

pub record Body (told : Bool) (now : ℕ) (pins : List ℕ) (ls : List Line) : Type 0 where
  pub steps : List Step
  pub good : Good (2 ^ 64) now steps
  pub there : There pins steps
  pub lines : ls ≡ body_from told now pins steps

pins_lines : (told : Bool) (now e v : ℕ) (pins : List ℕ) (ls rest : List Line) (steps : List Step) → get_or pins e 0 < 5 → v < 4 → (get_or pins e 0 ≡ v → ⊥)
    → ls ≡ changes_of e (get_or pins e 0) v ++ rest → rest ≡ body_from true now (set pins e v) steps → cond told [] (Time now ∷ []) ++ ls ≡ body_from told now pins (Pins e v ∷ steps)
unfolding body_from
pins_lines told now e v pins ls rest steps low small n h k =
    ap (λ (ms : List Line). cond told [] (Time now ∷ []) ++ ms) h ∙ sym (some_change e p v low small n told now rest) ∙ rw (ne_eqb p v n, k, either told)
  where
    p : ℕ
    p = get_or pins e 0

    either : (told : Bool) → told || true ≡ true
    either true = refl
    either false = refl

pub by_run : (r q : Position) (ls ms : List Line) → run r ls ≡ run q ms → Accepts r ls → Accepts q ms
by_run r q ls ms e h = ap (λ (x : Run). whole x.ends) (sym e) ∙ h

-- a step's changes, and what follows them
module _ (told : Bool) (ph now : ℕ) (pins ch : List ℕ) (ls : List Line) (in_time : eqb ph 7 || eqb ph 8 ≡ true) (long : length pins ≡ 20)
    (ih : (pins ch : List ℕ) (rest : List Line) → length pins ≡ 20 → length rest < length ls → GoodLines rest → Accepts (at 8 0 now pins ch) rest → Body true now pins rest) where
  changed : Took pins ls → Accepts (at ph 0 now pins ch) ls → Body told now pins (cond told [] (Time now ∷ []) ++ ls)
  unfolding body_from
  changed k h =
      let e = k.e in
      let v = k.v in
      let p = get_or pins e 0 in
      let next = by_run (at ph 0 now pins ch) (at 8 0 now (set pins e v) (set ch e 1)) (changes_of e p v ++ k.rest) k.rest
      (changes ph now e v pins ch k.rest in_time k.small (omega (arith, k.row)) p refl k.low k.other) (subst (Accepts (at ph 0 now pins ch)) k.lines h) in
      let b = ih (set pins e v) (set ch e 1) k.rest (length-set pins e v ∙ long) k.shorter k.good next in
      record {
        steps = Pins e v ∷ b.steps;
        good = (k.row, k.small, b.good);
        there = (k.low, there_unset b.steps pins e v k.low b.there);
        lines = pins_lines told now e v pins ls k.rest b.steps k.low k.small k.other k.lines b.lines;
      }

-- a time, and then a change
wait_lines : (told : Bool) (now t : ℕ) (pins : List ℕ) (ls : List Line) (steps : List Step) → (told ≡ true → now < t) → now ≤ t → now % 25 ≡ 0 → t % 25 ≡ 0
    → ls ≡ body_from false t pins steps → ls ≡ body_from told now pins (Wait ((t - now) / 25) ∷ steps)
unfolding body_from
wait_lines told now t pins ls steps late h d m k =
    let i : now + 25 * ((t - now) / 25) ≡ t = omega arith in
    k ∙ sym (rw (i, off told late))
  where
    off : (told : Bool) → (told ≡ true → now < t) → told && eqb ((t - now) / 25) 0 ≡ false
    off true late = let l = late refl in ne_eqb ((t - now) / 25) 0 (omega arith)
    off false late = refl

waited : (told : Bool) (now t : ℕ) (pins : List ℕ) (ls : List Line) → (told ≡ true → now < t) → now ≤ t → now % 25 ≡ 0 → t % 25 ≡ 0 → Body false t pins ls → Body told now pins ls
waited told now t pins ls late h d m b =
    let i : t ≡ now + 25 * ((t - now) / 25) = omega arith in
    record {
      steps = Wait ((t - now) / 25) ∷ b.steps;
      good = subst (λ (x : ℕ). Good (2 ^ 64) x b.steps) i b.good;
      there = b.there;
      lines = wait_lines told now t pins ls b.steps late h d m b.lines;
    }

abbrev Going : ℕ → List Line → Type 0
Going now ls = (pins ch : List ℕ) (rest : List Line) → length pins ≡ 20 → length rest < length ls → GoodLines rest → Accepts (at 8 0 now pins ch) rest → Body true now pins rest

timed_body : (t : ℕ) (pins : List ℕ) (ls : List Line) → length pins ≡ 20 → GoodLines ls → Going t ls → Accepts (at 7 0 t pins unchanged) ls → Body false t pins (Time t ∷ ls)
timed_body t pins [] l g ih h = absurd (false≢true h)
timed_body t pins (Fixed k ∷ ls) l g ih h = absurd (omega (arith, place_small k, (fixed_taken 7 0 t pins unchanged ls k h).0))
timed_body t pins (Var w ∷ ls) l g ih h = absurd (omega (arith, (var_taken 7 0 t pins unchanged ls w h).0))
timed_body t pins (Unknown w ∷ ls) l g ih h = absurd (omega (arith, (unknown_taken 7 0 t pins unchanged ls w h).0))
timed_body t pins (Time u ∷ ls) l g ih h = absurd (false≢true (time_taken 7 0 t pins unchanged ls u h).0)
timed_body t pins (Change w b ∷ ls) l g ih h = changed false 7 t pins unchanged (Change w b ∷ ls) refl l ih (took 7 t w b pins unchanged ls refl l g h) h
timed_body t pins (Other ∷ ls) l g ih h = absurd g.0

on_time : (ph now t : ℕ) (pins ch : List ℕ) (ls : List Line) → Accepts (at ph 0 now pins ch) (Time t ∷ ls) → Accepts (at 7 0 t pins unchanged) ls
unfolding turn_of
on_time ph now t pins ch ls h =
    let q = time_taken ph 0 now pins ch ls t h in
    let e : time_turn (at ph 0 now pins ch) t ≡ at 7 0 t pins unchanged = rw (q.0, q.2) in
    subst (λ (r : Position). Accepts r ls) e h

-- n is how many lines there are at most
going : (n : ℕ) (ls : List Line) (now : ℕ) (pins ch : List ℕ) → length ls ≤ n → now % 25 ≡ 0 → now < 2 ^ 64 → length pins ≡ 20 → GoodLines ls → Accepts (at 8 0 now pins ch) ls
    → Body true now pins ls
unfolding body_from
going zero [] now pins ch m d f l g h = record { steps = []; good = f; there = tt; lines = refl }
going zero (x ∷ ls) now pins ch m d f l g h = absurd (omega arith)
going (suc n) [] now pins ch m d f l g h = record { steps = []; good = f; there = tt; lines = refl }
going (suc n) (Fixed k ∷ ls) now pins ch m d f l g h = absurd (omega (arith, place_small k, (fixed_taken 8 0 now pins ch ls k h).0))
going (suc n) (Var w ∷ ls) now pins ch m d f l g h = absurd (omega (arith, (var_taken 8 0 now pins ch ls w h).0))
going (suc n) (Unknown w ∷ ls) now pins ch m d f l g h = absurd (omega (arith, (unknown_taken 8 0 now pins ch ls w h).0))
going (suc n) (Time t ∷ ls) now pins ch m d f l g h =
    let q = time_taken 8 0 now pins ch ls t h in
    let late = ltb-true now t q.0 in
    waited true now t pins (Time t ∷ ls) (λ _. late) (omega arith) d q.2
    (timed_body t pins ls l g.1 (λ p c rest i s r a. going n rest t p c (omega arith) q.2 g.0 i r a) (on_time 8 now t pins ch ls h))
going (suc n) (Change w b ∷ ls) now pins ch m d f l g h =
    changed true 8 now pins ch (Change w b ∷ ls) refl l (λ p c rest i s r a. going n rest now p c (omega arith) d f i r a) (took 8 now w b pins ch ls refl l g h) h
going (suc n) (Other ∷ ls) now pins ch m d f l g h = absurd g.0

pub first : (ls : List Line) (pins : List ℕ) → length pins ≡ 20 → GoodLines ls → Accepts (at 6 0 0 pins unchanged) ls → Body false 0 pins ls
unfolding body_from
first [] pins l g h = record { steps = []; good = omega arith; there = tt; lines = refl }
first (Fixed k ∷ ls) pins l g h = absurd (omega (arith, place_small k, (fixed_taken 6 0 0 pins unchanged ls k h).0))
first (Var w ∷ ls) pins l g h = absurd (omega (arith, (var_taken 6 0 0 pins unchanged ls w h).0))
first (Unknown w ∷ ls) pins l g h = absurd (omega (arith, (unknown_taken 6 0 0 pins unchanged ls w h).0))
first (Time t ∷ ls) pins l g h =
    let q = time_taken 6 0 0 pins unchanged ls t h in
    waited false 0 t pins (Time t ∷ ls) (λ e. absurd (false≢true e)) (omega arith) refl q.2
    (timed_body t pins ls l g.1 (λ p c rest i s r a. going (length ls) rest t p c (omega arith) q.2 g.0 i r a) (on_time 6 0 t pins unchanged ls h))
first (Change w b ∷ ls) pins l g h = absurd (false≢true (change_taken 6 0 0 pins unchanged ls w b h).0)
first (Other ∷ ls) pins l g h = absurd g.0
