-- What the reader accepts is a header, and the changes of steps behind it. Assumes nothing.
use mathlib.Core.Path.{◌≡◌, refl, sym, ap, ◌∙◌, subst}
use mathlib.Core.Bool.{true, false, cond, false≢true}
use mathlib.Core.List.{List, [], ◌∷◌, ◌++◌, append_assoc}
use mathlib.Core.Logic.{◌⊎◌, inl, inr}
use Prim.Native.Nat.{ℕ, zero, suc, ◌+◌, ◌-◌, ◌*◌, ◌/◌, ◌%◌, ◌^◌, ◌≤◌, ◌<◌}
use native.Mathlib.Omega.{arith}
use native.Mathlib.Nat.{add-zero, le_refl}
use lib.Dec.{eqb, leb}
use lib.Seq.{append_snoc, get_or_at}
use lib.ListN.{length, get_or, set, replicate, length-append, length-replicate}
use borrow.Author.Tests.{eqb-true, eq-eqb, ne_eqb, leb-true}
use Rattle.laws.proofs.Truth.{both_true}
use Rattle.vcd.specs.declared.Step.{Step}
use Rattle.vcd.specs.declared.Mark.{Mark}
use Rattle.vcd.specs.declared.Mark.TheVariants.{Timescale, Scope, Upscope, EndDefinitions, DumpVars, End}
use Rattle.vcd.specs.declared.Line.{Line}
use Rattle.vcd.specs.declared.Line.TheVariants.{Fixed, Var, Unknown, Time, Change, Other}
use Rattle.vcd.specs.How.{Position}
use Rattle.vcd.specs.Dump.{wires_from, header_of, body_from, Good}
use Rattle.vcd.specs.How.{follows, turn_of, var_turn, unknown_turn, opening, unchanged}
use Rattle.vcd.proofs.Print.{GoodLines, mark, mark_place}
use Rattle.vcd.proofs.Starts.{Fresh, Under, There}
use Rattle.vcd.proofs.Heart.{at, vars, unknowns}
use Rattle.vcd.proofs.Parse.{Accepts, fixed_taken, var_taken, unknown_taken, time_taken, change_taken}
use Rattle.vcd.proofs.Bodies.{Body, by_run, first}

-- ---- the header

-- what holds of the encoders that have a wire
abbrev Fine : (ℕ → Type 0) → ℕ → List ℕ → Type 0
Fine Ok e [] = Unit {0}
Fine Ok e (x ∷ xs) = ((x ≡ 5 → ⊥) → Ok e) × Fine Ok (e + 1) xs

-- encoders with none before others
wires_skip : (line : ℕ → Line) (n e : ℕ) (ys : List ℕ) → wires_from line e (replicate n 5 ++ ys) ≡ wires_from line (e + n) ys
unfolding wires_from
wires_skip line zero e ys = rw add-zero
wires_skip line (suc n) e ys = let i : e + suc n ≡ e + 1 + n = omega arith in rw i (wires_skip line n (e + 1) ys)

fresh_skip : (n : ℕ) (ys : List ℕ) → Fresh ys → Fresh (replicate n 5 ++ ys)
fresh_skip zero ys h = h
fresh_skip (suc n) ys h = (omega arith, fresh_skip n ys h)

fine_skip : (Ok : ℕ → Type 0) (n e : ℕ) (ys : List ℕ) → Fine Ok (e + n) ys → Fine Ok e (replicate n 5 ++ ys)
fine_skip Ok zero e ys h = rw add-zero at h
fine_skip Ok (suc n) e ys h = (λ m. absurd (m refl), fine_skip Ok n (e + 1) ys (subst (λ (i : ℕ). Fine Ok i ys) (omega arith) h))

abbrev Declared : List ℕ → ℕ → Type 0
Declared all e = get_or all e 0 ≡ 4

-- ---- a line of the header, in phase k: the fixed line, or one of a wire

abbrev line_at : ℕ → ℕ → Line
line_at k w = cond (eqb k 2) (Var w) (Unknown w)

record Closing (k a : ℕ) (ls : List Line) : Type 0 where
  rest : List Line
  lines : ls ≡ Fixed (mark k) ∷ rest
  even : a % 2 ≡ 0
  good : GoodLines rest

record Wire (k a : ℕ) (pins : List ℕ) (ls : List Line) : Type 0 where
  w : ℕ
  rest : List Line
  lines : ls ≡ line_at k w ∷ rest
  wired : (k ≡ 2) ⊎ (k ≡ 5)
  below : w < 40
  comes : follows a w ≡ true
  known : k ≡ 5 → get_or pins (w / 2) 0 ≡ 4
  after : List ℕ
  stays : k ≡ 5 → after ≡ pins
  good : GoodLines rest
  next : Accepts (at k (w + 1) 0 after unchanged) rest

module _ (a : ℕ) (pins : List ℕ) where
  var_line : (w : ℕ) (ls : List Line) → GoodLines (Var w ∷ ls) → Accepts (at 2 a 0 pins unchanged) (Var w ∷ ls) → Wire 2 a pins (Var w ∷ ls)
  unfolding turn_of
  var_line w ls g h =
      let q = var_taken 2 a 0 pins unchanged ls w h in
      let e : var_turn (at 2 a 0 pins unchanged) w ≡ at 2 (w + 1) 0 (set pins (w / 2) 4) unchanged = rw q.1 in
      record {
        w = w;
        rest = ls;
        lines = refl;
        wired = inl refl;
        below = g.0;
        comes = q.1;
        known = λ k. absurd (omega arith);
        after = set pins (w / 2) 4;
        stays = λ k. absurd (omega arith);
        good = g.1;
        next = subst (λ (r : Position). Accepts r ls) e h;
      }

  unknown_line : (w : ℕ) (ls : List Line) → GoodLines (Unknown w ∷ ls) → Accepts (at 5 a 0 pins unchanged) (Unknown w ∷ ls) → Wire 5 a pins (Unknown w ∷ ls)
  unfolding turn_of
  unknown_line w ls g h =
      let q = unknown_taken 5 a 0 pins unchanged ls w h in
      let e : unknown_turn (at 5 a 0 pins unchanged) w ≡ at 5 (w + 1) 0 pins unchanged = rw (q.1, q.2) in
      record {
        w = w;
        rest = ls;
        lines = refl;
        wired = inr refl;
        below = g.0;
        comes = q.1;
        known = λ _. q.2;
        after = pins;
        stays = λ _. refl;
        good = g.1;
        next = subst (λ (r : Position). Accepts r ls) e h;
      }

  head_line : (k : ℕ) (ls : List Line) → k < 6 → GoodLines ls → Accepts (at k a 0 pins unchanged) ls → Closing k a ls ⊎ Wire k a pins ls
  head_line k [] s g h = absurd (false≢true (rw (ne_eqb k 6 (omega arith), ne_eqb k 8 (omega arith)) at h))
  head_line k (Fixed j ∷ ls) s g h =
      let q = fixed_taken k a 0 pins unchanged ls j h in
      inl (record { rest = ls; lines = ap (λ (m : Mark). Fixed m ∷ ls) (sym (ap mark q.0 ∙ mark_place j)); even = q.1; good = g.1 })
  head_line k (Var w ∷ ls) s g h = let e = (var_taken k a 0 pins unchanged ls w h).0 in rw e (inr (var_line w ls g (rw e at h)))
  head_line k (Unknown w ∷ ls) s g h = let e = (unknown_taken k a 0 pins unchanged ls w h).0 in rw e (inr (unknown_line w ls g (rw e at h)))
  head_line k (Time t ∷ ls) s g h = absurd (false≢true (rw (ne_eqb k 6 (omega arith), ne_eqb k 8 (omega arith)) at (time_taken k a 0 pins unchanged ls t h).0))
  head_line k (Change w b ∷ ls) s g h = absurd (false≢true (rw (ne_eqb k 7 (omega arith), ne_eqb k 8 (omega arith)) at (change_taken k a 0 pins unchanged ls w b h).0))
  head_line k (Other ∷ ls) s g h = absurd g.0

-- where no wire can come
fixed_next : (k : ℕ) (pins : List ℕ) (ls : List Line) → k < 6 → (k ≡ 2 → ⊥) → (k ≡ 5 → ⊥) → GoodLines ls → Accepts (at k 0 0 pins unchanged) ls → Closing k 0 ls
fixed_next k pins ls s n m g h = by (head_line 0 pins k ls s g h)
  where
    none : (k ≡ 2) ⊎ (k ≡ 5) → ⊥
    none (inl e) = n e
    none (inr e) = m e

    by : Closing k 0 ls ⊎ Wire k 0 pins ls → Closing k 0 ls
    by (inl x) = x
    by (inr x) = absurd (none x.wired)

-- ---- the wires of an encoder

follows_even : (a w : ℕ) → a % 2 ≡ 0 → follows a w ≡ true → (w % 2 ≡ 0) × (a ≤ w)
follows_even a w e h =
    let q = both_true (eqb (w % 2) 0) (leb a w) (rw (ne_eqb (a % 2) 1 (omega arith)) at h) in
    (eqb-true (w % 2) 0 q.0, leb-true a w q.1)

follows_odd : (a w : ℕ) → a % 2 ≡ 1 → follows a w ≡ true → w ≡ a
follows_odd a w e h = eqb-true w a (rw (eq-eqb (a % 2) 1 e) at h)

record Two (k a : ℕ) (pins : List ℕ) (ls : List Line) : Type 0 where
  w : ℕ
  rest : List Line
  lines : ls ≡ line_at k w ∷ line_at k (w + 1) ∷ rest
  even : w % 2 ≡ 0
  above : a ≤ w
  below : w < 40
  known : k ≡ 5 → get_or pins (w / 2) 0 ≡ 4
  after : List ℕ
  stays : k ≡ 5 → after ≡ pins
  good : GoodLines rest
  next : Accepts (at k (w + 2) 0 after unchanged) rest

module _ (k a : ℕ) (pins : List ℕ) (ls : List Line) (small : k < 6) (even : a % 2 ≡ 0) where
  -- after its A just its B
  two : (x : Wire k a pins ls) → Closing k (x.w + 1) x.rest ⊎ Wire k (x.w + 1) x.after x.rest → Two k a pins ls
  two x (inl y) = absurd (omega (arith, y.even, follows_even a x.w even x.comes))
  two x (inr y) =
      let f = follows_even a x.w even x.comes in
      let e = follows_odd (x.w + 1) y.w (omega (arith, f.0)) y.comes in
      let i : y.w + 1 ≡ x.w + 2 = omega arith in
      record {
        w = x.w;
        rest = y.rest;
        lines = x.lines ∙ ap (λ (z : List Line). line_at k x.w ∷ z) (y.lines ∙ ap (λ (v : ℕ). line_at k v ∷ y.rest) e);
        even = f.0;
        above = f.1;
        below = x.below;
        known = x.known;
        after = y.after;
        stays = λ q. y.stays q ∙ x.stays q;
        good = y.good;
        next = subst (λ (v : ℕ). Accepts (at k v 0 y.after unchanged) y.rest) i y.next;
      }

  step : GoodLines ls → Accepts (at k a 0 pins unchanged) ls → Closing k a ls ⊎ Two k a pins ls
  step g h = by (head_line a pins k ls small g h)
    where
      by : Closing k a ls ⊎ Wire k a pins ls → Closing k a ls ⊎ Two k a pins ls
      by (inl x) = inl x
      by (inr x) = inr (two x (head_line (x.w + 1) x.after k x.rest small x.good x.next))

-- ---- the wires of all encoders from wire a on, up to the fixed line k

record Wired (k a : ℕ) (all : List ℕ) (ls : List Line) : Type 0 where
  xs : List ℕ
  rest : List Line
  long : a / 2 + length xs ≡ 20
  fresh : Fresh xs
  fine : k ≡ 5 → Fine (Declared all) (a / 2) xs
  lines : ls ≡ wires_from (line_at k) (a / 2) xs ++ Fixed (mark k) ∷ rest
  good : GoodLines rest

module _ (k a : ℕ) (all : List ℕ) (ls : List Line) where
  none_wired : Closing k a ls → a ≤ 40 → Wired k a all ls
  unfolding wires_from
  none_wired x most = let n = 20 - a / 2 in record {
    xs = replicate n 5 ++ [];
    rest = x.rest;
    long = omega (arith, length-append {A = ℕ} (replicate n 5) [], length-replicate {A = ℕ} n 5, x.even);
    fresh = fresh_skip n [] tt;
    fine = λ _. fine_skip (Declared all) n (a / 2) [] tt;
    lines = rw (wires_skip (line_at k) n (a / 2) []) x.lines;
    good = x.good;
  }

  two_lines : (w : ℕ) (rest ms : List Line) (ys : List ℕ) → a % 2 ≡ 0 → w % 2 ≡ 0 → a ≤ w → ls ≡ line_at k w ∷ line_at k (w + 1) ∷ rest
      → rest ≡ wires_from (line_at k) ((w + 2) / 2) ys ++ Fixed (mark k) ∷ ms → ls ≡ wires_from (line_at k) (a / 2) (replicate ((w - a) / 2) 5 ++ 4 ∷ ys) ++ Fixed (mark k) ∷ ms
  unfolding wires_from
  two_lines w rest ms ys even e h is q =
      let i : a / 2 + (w - a) / 2 ≡ w / 2 = omega arith in
      let j : 2 * (w / 2) ≡ w = omega arith in
      let l : w / 2 + 1 ≡ (w + 2) / 2 = omega arith in
      rw (wires_skip (line_at k) ((w - a) / 2) (a / 2) (4 ∷ ys), i, j, l) (is ∙ ap (λ (z : List Line). line_at k w ∷ line_at k (w + 1) ∷ z) q)

  two_wired : (pins : List ℕ) (t : Two k a pins ls) → a % 2 ≡ 0 → (k ≡ 5 → pins ≡ all) → Wired k (t.w + 2) all t.rest → Wired k a all ls
  two_wired pins t even q r =
      let w = t.w in
      let n = (w - a) / 2 in
      let ys : List ℕ = 4 ∷ r.xs in
      let i : w / 2 ≡ a / 2 + n = omega (arith, t.even, t.above) in
      let j : (w + 2) / 2 ≡ a / 2 + n + 1 = omega (arith, t.even, t.above) in
      record {
        xs = replicate n 5 ++ ys;
        rest = r.rest;
        long = omega (arith, length-append (replicate n 5) ys, length-replicate {A = ℕ} n 5, r.long, t.even, t.above);
        fresh = fresh_skip n ys (omega arith, r.fresh);
        fine = λ f. fine_skip (Declared all) n (a / 2) ys (λ m. subst (λ (l : List ℕ). get_or l (a / 2 + n) 0 ≡ 4) (q f) (subst (λ (x : ℕ). get_or pins x 0 ≡ 4) i (t.known f)), subst (λ (x : ℕ). Fine (Declared all) x r.xs) j (r.fine f));
        lines = two_lines w t.rest r.rest r.xs even t.even t.above t.lines r.lines;
        good = r.good;
      }

-- n is how many lines there are at most
collect : (n k a : ℕ) (all pins : List ℕ) (ls : List Line) → length ls ≤ n → k < 6 → a % 2 ≡ 0 → a ≤ 40 → (k ≡ 5 → pins ≡ all) → GoodLines ls → Accepts (at k a 0 pins unchanged) ls
    → Wired k a all ls
collect zero k a all pins [] m s even most q g h = absurd (false≢true (rw (ne_eqb k 6 (omega arith), ne_eqb k 8 (omega arith)) at h))
collect zero k a all pins (l ∷ ls) m s even most q g h = absurd (omega arith)
collect (suc n) k a all pins ls m s even most q g h = by (step k a pins ls s even g h) (λ a pins ls. collect n k a all pins ls)
  where
    by : Closing k a ls ⊎ Two k a pins ls
        → ((a : ℕ) (pins : List ℕ) (ls : List Line) → length ls ≤ n → k < 6 → a % 2 ≡ 0 → a ≤ 40 → (k ≡ 5 → pins ≡ all) → GoodLines ls → Accepts (at k a 0 pins unchanged) ls → Wired k a all ls)
        → Wired k a all ls
    by (inl x) ih = none_wired k a all ls x most
    by (inr t) ih =
        two_wired k a all ls pins t even q
        (ih (t.w + 2) t.after t.rest (omega (arith, ap length t.lines)) s (omega (arith, t.even)) (omega (arith, t.even, t.below)) (λ f. t.stays f ∙ q f) t.good t.next)

under_fine : (xs ys p : List ℕ) (e : ℕ) → length p ≡ e → Fine (Declared (p ++ ys)) e xs → Under xs ys
under_fine [] ys p e l h = tt
under_fine (x ∷ xs) [] p e l h = tt
under_fine (x ∷ xs) (y ∷ ys) p e l h = (
  λ n. sym (get_or_at p y ys 0 e l) ∙ h.0 n,
  under_fine xs ys (p ++ y ∷ []) (e + 1) (length-append p (y ∷ []) ∙ omega arith) (subst (λ (z : List ℕ). Fine (Declared z) (e + 1) xs) (sym (append_snoc p y ys)) h.1),
)

-- ---- the whole

pub regroup : (pins unknown : List ℕ) (ls : List Line)
    → header_of pins unknown ++ ls ≡ Fixed Timescale ∷ Fixed Scope ∷ (wires_from Var 0 pins ++ Fixed Upscope ∷ Fixed EndDefinitions ∷ Fixed DumpVars ∷ (wires_from Unknown 0 unknown ++ Fixed End ∷ ls))
regroup pins unknown ls =
    ap (λ (ms : List Line). Fixed Timescale ∷ Fixed Scope ∷ ms)
    (append_assoc (wires_from Var 0 pins) (Fixed Upscope ∷ Fixed EndDefinitions ∷ Fixed DumpVars ∷ (wires_from Unknown 0 unknown ++ Fixed End ∷ [])) ls
    ∙ ap (λ (ms : List Line). wires_from Var 0 pins ++ Fixed Upscope ∷ Fixed EndDefinitions ∷ Fixed DumpVars ∷ ms) (append_assoc (wires_from Unknown 0 unknown) (Fixed End ∷ []) ls))

-- some lines, and then the `x` lines and the body
pub record Tail (pins : List ℕ) (head : List Line → List Line) (ls : List Line) : Type 0 where
  pub unknown : List ℕ
  pub long : length unknown ≡ 20
  pub fresh : Fresh unknown
  pub under : Under unknown pins
  pub steps : List Step
  pub good : Good (2 ^ 64) 0 steps
  pub there : There pins steps
  pub lines : ls ≡ head (wires_from Unknown 0 unknown ++ Fixed End ∷ body_from false 0 pins steps)

before : (pins : List ℕ) (f head : List Line → List Line) (ls rest : List Line) → ls ≡ f rest → Tail pins head rest → Tail pins (λ x. f (head x)) ls
before pins f head ls rest e t = record {
  unknown = t.unknown;
  long = t.long;
  fresh = t.fresh;
  under = t.under;
  steps = t.steps;
  good = t.good;
  there = t.there;
  lines = e ∙ ap f t.lines;
}

module _ (pins : List ℕ) (long : length pins ≡ 20) where
  from_unknown : (ls : List Line) → Accepts (at 5 0 0 pins unchanged) ls → Wired 5 0 pins ls → Tail pins (λ x. x) ls
  from_unknown ls h u = by (first u.rest pins long u.good passed)
    where
      under : Under u.xs pins
      under = under_fine u.xs pins [] 0 refl (u.fine refl)

      passed : Accepts (at 6 0 0 pins unchanged) u.rest
      passed =
          by_run (at 5 0 0 pins unchanged) (at 6 0 0 pins unchanged) (wires_from Unknown 0 u.xs ++ Fixed End ∷ u.rest) u.rest
          (unknowns u.xs pins [] 0 0 u.rest refl refl (omega arith) (omega (arith, u.long)) under) (subst (Accepts (at 5 0 0 pins unchanged)) u.lines h)

      by : Body false 0 pins u.rest → Tail pins (λ x. x) ls
      by b = record {
        unknown = u.xs;
        long = omega (arith, u.long);
        fresh = u.fresh;
        under = under;
        steps = b.steps;
        good = b.good;
        there = b.there;
        lines = u.lines ∙ ap (λ (ms : List Line). wires_from Unknown 0 u.xs ++ Fixed End ∷ ms) b.lines;
      }

  from_5 : (ls : List Line) → GoodLines ls → Accepts (at 5 0 0 pins unchanged) ls → Tail pins (λ x. x) ls
  from_5 ls g h = from_unknown ls h (collect (length ls) 5 0 pins pins ls (le_refl (length ls)) (omega arith) refl (omega arith) (λ _. refl) g h)

  from_4 : (ls : List Line) → Accepts (at 4 0 0 pins unchanged) ls → Closing 4 0 ls → Tail pins (λ x. Fixed DumpVars ∷ x) ls
  unfolding turn_of
  from_4 ls h e = before pins (λ x. Fixed DumpVars ∷ x) (λ x. x) ls e.rest e.lines (from_5 e.rest e.good (subst (Accepts (at 4 0 0 pins unchanged)) e.lines h))

  from_3 : (ls : List Line) → Accepts (at 3 0 0 pins unchanged) ls → Closing 3 0 ls → Tail pins (λ x. Fixed EndDefinitions ∷ Fixed DumpVars ∷ x) ls
  unfolding turn_of
  from_3 ls h e = before pins (λ x. Fixed EndDefinitions ∷ x) (λ x. Fixed DumpVars ∷ x) ls e.rest e.lines (on (subst (Accepts (at 3 0 0 pins unchanged)) e.lines h))
    where
      on : Accepts (at 4 0 0 pins unchanged) e.rest → Tail pins (λ x. Fixed DumpVars ∷ x) e.rest
      on a = from_4 e.rest a (fixed_next 4 pins e.rest (omega arith) (λ e. omega arith) (λ e. omega arith) e.good a)

-- declared encoders, and then the rest
pub record Dump (head : List Line → List Line) (ls : List Line) : Type 0 where
  pub pins : List ℕ
  pub long : length pins ≡ 20
  pub fresh : Fresh pins
  pub tail : Tail pins (λ x. head (wires_from Var 0 pins ++ Fixed Upscope ∷ Fixed EndDefinitions ∷ Fixed DumpVars ∷ x)) ls

under_head : (f head : List Line → List Line) (ls rest : List Line) → ls ≡ f rest → Dump head rest → Dump (λ x. f (head x)) ls
under_head f head ls rest e d = record {
  pins = d.pins;
  long = d.long;
  fresh = d.fresh;
  tail = before d.pins f (λ x. head (wires_from Var 0 d.pins ++ Fixed Upscope ∷ Fixed EndDefinitions ∷ Fixed DumpVars ∷ x)) ls rest e d.tail;
}

none : List ℕ
none = replicate 20 5

from_vars : (ls : List Line) → Accepts (at 2 0 0 none unchanged) ls → Wired 2 0 none ls → Dump (λ x. x) ls
unfolding none
from_vars ls h v = record {
  pins = v.xs;
  long = long;
  fresh = v.fresh;
  tail = before v.xs (λ x. wires_from Var 0 v.xs ++ Fixed Upscope ∷ x) (λ x. Fixed EndDefinitions ∷ Fixed DumpVars ∷ x) ls v.rest v.lines (on passed);
}
  where
    long : length v.xs ≡ 20
    long = omega (arith, v.long)

    passed : Accepts (at 3 0 0 v.xs unchanged) v.rest
    passed =
        by_run (at 2 0 0 none unchanged) (at 3 0 0 v.xs unchanged) (wires_from Var 0 v.xs ++ Fixed Upscope ∷ v.rest) v.rest
        (rw long at (vars v.xs [] 0 0 v.rest refl refl (omega arith) v.fresh)) (subst (Accepts (at 2 0 0 none unchanged)) v.lines h)

    on : Accepts (at 3 0 0 v.xs unchanged) v.rest → Tail v.xs (λ x. Fixed EndDefinitions ∷ Fixed DumpVars ∷ x) v.rest
    on a = from_3 v.xs long v.rest a (fixed_next 3 v.xs v.rest (omega arith) (λ e. omega arith) (λ e. omega arith) v.good a)

from_1 : (ls : List Line) → Accepts (at 1 0 0 none unchanged) ls → Closing 1 0 ls → Dump (λ x. Fixed Scope ∷ x) ls
unfolding turn_of none
from_1 ls h e = under_head (λ x. Fixed Scope ∷ x) (λ x. x) ls e.rest e.lines (on (subst (Accepts (at 1 0 0 none unchanged)) e.lines h))
  where
    on : Accepts (at 2 0 0 none unchanged) e.rest → Dump (λ x. x) e.rest
    on a = from_vars e.rest a (collect (length e.rest) 2 0 none none e.rest (le_refl (length e.rest)) (omega arith) refl (omega arith) (λ _. refl) e.good a)

from_0 : (ls : List Line) → Accepts opening ls → Closing 0 0 ls → Dump (λ x. Fixed Timescale ∷ Fixed Scope ∷ x) ls
unfolding turn_of none
from_0 ls h e = under_head (λ x. Fixed Timescale ∷ x) (λ x. Fixed Scope ∷ x) ls e.rest e.lines (on (subst (Accepts opening) e.lines h))
  where
    on : Accepts (at 1 0 0 none unchanged) e.rest → Dump (λ x. Fixed Scope ∷ x) e.rest
    on a = from_1 e.rest a (fixed_next 1 none e.rest (omega arith) (λ e. omega arith) (λ e. omega arith) e.good a)

pub dump_of_lem : (ls : List Line) → GoodLines ls → Accepts opening ls → Dump (λ x. Fixed Timescale ∷ Fixed Scope ∷ x) ls
dump_of_lem ls g h = from_0 ls h (fixed_next 0 (replicate 20 5) ls (omega arith) (λ e. omega arith) (λ e. omega arith) g h)

-- the lines are a header's and a body's
pub dump_lines : (ls : List Line) (d : Dump (λ x. Fixed Timescale ∷ Fixed Scope ∷ x) ls) → ls ≡ header_of d.pins d.tail.unknown ++ body_from false 0 d.pins d.tail.steps
dump_lines ls d = d.tail.lines ∙ sym (regroup d.pins d.tail.unknown (body_from false 0 d.pins d.tail.steps))
