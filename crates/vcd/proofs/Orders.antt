-- A dump's times rise, and no change repeats its wire's value. Assumes nothing.
use mathlib.Core.Path.{◌≡◌, refl, sym, ap, ◌∙◌, subst}
use mathlib.Core.Bool.{Bool, true, false, ◌&&◌, ◌||◌, not, cond, true≢false}
use mathlib.Core.List.{List, [], ◌∷◌, ◌++◌, append_assoc, append-nil}
use mathlib.Core.Logic.{◌⊎◌, inl, inr}
use Prim.Native.Nat.{ℕ, zero, suc, ◌+◌, ◌*◌, ◌/◌, ◌%◌, ◌^◌, ◌≤◌, ◌<◌}
use native.Mathlib.Omega.{arith}
use lib.Dec.{eqb, ltb}
use lib.ListN.{length, get_or, set, length-set}
use lib.Seq.{append_snoc, get_or-set_same, get_or-set_other}
use borrow.Author.Tests.{eqb-true, eqb-false, eq-eqb, ne_eqb, lt-ltb, le-ltb, ltb-true, ltb-false}
use Rattle.vcd.specs.declared.Step.{Step}
use Rattle.vcd.specs.declared.Step.TheVariants.{Wait, Pins}
use Rattle.vcd.specs.declared.Mark.TheVariants.{Upscope, EndDefinitions, DumpVars, End}
use Rattle.vcd.specs.declared.Line.{Line}
use Rattle.vcd.specs.declared.Line.TheVariants.{Fixed, Var, Unknown, Time, Change, Other}
use Rattle.vcd.specs.Dump.{start_of, wires_from, header_of, change_of, changes_of, timed, body_from, dump_of, Good}
use Rattle.vcd.specs.How.{pin_of}
use Rattle.vcd.specs.Facts.{AllShown}
use Rattle.vcd.proofs.Starts.{Fresh, fresh_start, long_start}
use Rattle.vcd.proofs.Heart.{no_change}
use Rattle.vcd.proofs.Bound.{in_time}
use Rattle.vcd.proofs.Headers.{regroup}
use Rattle.vcd.proofs.Readings.{back_dump}

-- the times of a dump, and the values of one wire, in order
times_in : List Line → List ℕ
times_in [] = []
times_in (Fixed k ∷ ls) = times_in ls
times_in (Var w ∷ ls) = times_in ls
times_in (Unknown w ∷ ls) = times_in ls
times_in (Time t ∷ ls) = t ∷ times_in ls
times_in (Change w b ∷ ls) = times_in ls
times_in (Other ∷ ls) = times_in ls

values_of : ℕ → List Line → List ℕ
values_of wire [] = []
values_of wire (Fixed k ∷ ls) = values_of wire ls
values_of wire (Var w ∷ ls) = values_of wire ls
values_of wire (Unknown w ∷ ls) = values_of wire ls
values_of wire (Time t ∷ ls) = values_of wire ls
values_of wire (Change w b ∷ ls) = cond (eqb w wire) (b ∷ []) [] ++ values_of wire ls
values_of wire (Other ∷ ls) = values_of wire ls

-- each later than the one before, the first at least k, all below 2^48
abbrev Rises : ℕ → List ℕ → Type 0
Rises k [] = Unit {0}
Rises k (t ∷ ts) = (k ≤ t) × (t < 2 ^ 48) × Rises (t + 1) ts

-- each another than the one before, the first another than v
abbrev Alternates : ℕ → List ℕ → Type 0
Alternates v [] = Unit {0}
Alternates v (b ∷ bs) = (v ≡ b → ⊥) × Alternates b bs

-- ---- lists of lines in a row

times_append : (ls ms : List Line) → times_in (ls ++ ms) ≡ times_in ls ++ times_in ms
unfolding times_in
times_append [] ms = refl
times_append (Fixed k ∷ ls) ms = times_append ls ms
times_append (Var w ∷ ls) ms = times_append ls ms
times_append (Unknown w ∷ ls) ms = times_append ls ms
times_append (Time t ∷ ls) ms = ap (λ (ts : List ℕ). t ∷ ts) (times_append ls ms)
times_append (Change w b ∷ ls) ms = times_append ls ms
times_append (Other ∷ ls) ms = times_append ls ms

values_append : (wire : ℕ) (ls ms : List Line) → values_of wire (ls ++ ms) ≡ values_of wire ls ++ values_of wire ms
unfolding values_of
values_append wire [] ms = refl
values_append wire (Fixed k ∷ ls) ms = values_append wire ls ms
values_append wire (Var w ∷ ls) ms = values_append wire ls ms
values_append wire (Unknown w ∷ ls) ms = values_append wire ls ms
values_append wire (Time t ∷ ls) ms = values_append wire ls ms
values_append wire (Change w b ∷ ls) ms =
    ap (λ (vs : List ℕ). cond (eqb w wire) (b ∷ []) [] ++ vs) (values_append wire ls ms) ∙ sym (append_assoc (cond (eqb w wire) (b ∷ []) []) (values_of wire ls) (values_of wire ms))
values_append wire (Other ∷ ls) ms = values_append wire ls ms

-- ---- the header has neither

abbrev Plain : Line → Type 0
Plain l = (times_in (l ∷ []) ≡ []) × ((wire : ℕ) → values_of wire (l ∷ []) ≡ [])

module _ (line : ℕ → Line) (plain : (w : ℕ) → Plain (line w)) where
  no_times : (xs : List ℕ) (e : ℕ) (ms : List Line) → times_in (wires_from line e xs ++ ms) ≡ times_in ms
  unfolding wires_from
  no_times [] e ms = refl
  no_times (x ∷ xs) e ms = go (eqb x 5) (no_times xs (e + 1) ms)
    where
      rest : List Line
      rest = wires_from line (e + 1) xs ++ ms

      go : (t : Bool) → times_in rest ≡ times_in ms → times_in (cond t [] (line (2 * e) ∷ line (2 * e + 1) ∷ []) ++ wires_from line (e + 1) xs ++ ms) ≡ times_in ms
      go true ih = ih
      go false ih =
          times_append (line (2 * e) ∷ []) (line (2 * e + 1) ∷ rest) ∙ ap (λ (ts : List ℕ). ts ++ times_in (line (2 * e + 1) ∷ rest)) (plain (2 * e)).0
          ∙ times_append (line (2 * e + 1) ∷ []) rest ∙ ap (λ (ts : List ℕ). ts ++ times_in rest) (plain (2 * e + 1)).0 ∙ ih

  no_values : (wire : ℕ) (xs : List ℕ) (e : ℕ) (ms : List Line) → values_of wire (wires_from line e xs ++ ms) ≡ values_of wire ms
  unfolding wires_from
  no_values wire [] e ms = refl
  no_values wire (x ∷ xs) e ms = go (eqb x 5) (no_values wire xs (e + 1) ms)
    where
      rest : List Line
      rest = wires_from line (e + 1) xs ++ ms

      go : (t : Bool) → values_of wire rest ≡ values_of wire ms → values_of wire (cond t [] (line (2 * e) ∷ line (2 * e + 1) ∷ []) ++ wires_from line (e + 1) xs ++ ms) ≡ values_of wire ms
      go true ih = ih
      go false ih =
          values_append wire (line (2 * e) ∷ []) (line (2 * e + 1) ∷ rest) ∙ ap (λ (ts : List ℕ). ts ++ values_of wire (line (2 * e + 1) ∷ rest)) ((plain (2 * e)).1 wire)
          ∙ values_append wire (line (2 * e + 1) ∷ []) rest ∙ ap (λ (ts : List ℕ). ts ++ values_of wire rest) ((plain (2 * e + 1)).1 wire) ∙ ih

var_plain : (w : ℕ) → Plain (Var w)
unfolding times_in values_of
var_plain w = (refl, λ wire. refl)

unknown_plain : (w : ℕ) → Plain (Unknown w)
unfolding times_in values_of
unknown_plain w = (refl, λ wire. refl)

module _ (pins : List ℕ) (ls : List Line) where
  header_times : times_in (header_of pins pins ++ ls) ≡ times_in ls
  unfolding times_in
  header_times =
      ap times_in (regroup pins pins ls)
      ∙ no_times Var var_plain pins 0 (Fixed Upscope ∷ Fixed EndDefinitions ∷ Fixed DumpVars ∷ (wires_from Unknown 0 pins ++ Fixed End ∷ ls))
      ∙ no_times Unknown unknown_plain pins 0 (Fixed End ∷ ls)

  header_values : (wire : ℕ) → values_of wire (header_of pins pins ++ ls) ≡ values_of wire ls
  unfolding values_of
  header_values wire =
      ap (values_of wire) (regroup pins pins ls)
      ∙ no_values Var var_plain wire pins 0 (Fixed Upscope ∷ Fixed EndDefinitions ∷ Fixed DumpVars ∷ (wires_from Unknown 0 pins ++ Fixed End ∷ ls))
      ∙ no_values Unknown unknown_plain wire pins 0 (Fixed End ∷ ls)

-- ---- a pins record's lines

changes_times : (e p v : ℕ) → times_in (changes_of e p v) ≡ []
unfolding changes_of times_in
changes_times e p v = go (ltb p 4 && eqb (p % 2) (v % 2)) (ltb p 4 && eqb (p / 2) (v / 2))
  where
    go : (x y : Bool) → times_in (cond x [] (Change (2 * e) (v % 2) ∷ []) ++ cond y [] (Change (2 * e + 1) (v / 2) ∷ [])) ≡ []
    go true true = refl
    go true false = refl
    go false true = refl
    go false false = refl

timed_times : (told : Bool) (now : ℕ) (ls : List Line) → times_in ls ≡ [] → (times_in (timed told now ls) ≡ []) ⊎ ((told ≡ false) × (times_in (timed told now ls) ≡ now ∷ []))
unfolding timed times_in
timed_times told now [] e = inl refl
timed_times true now (l ∷ ls) e = inl e
timed_times false now (l ∷ ls) e = inr (refl, ap (λ (ts : List ℕ). now ∷ ts) e)

timed_values : (wire : ℕ) (told : Bool) (now : ℕ) (ls : List Line) → values_of wire (timed told now ls) ≡ values_of wire ls
unfolding timed values_of
timed_values wire told now [] = refl
timed_values wire true now (l ∷ ls) = refl
timed_values wire false now (l ∷ ls) = refl

-- ---- the times

below : (k j : ℕ) (ts : List ℕ) → k ≤ j → Rises j ts → Rises k ts
below k j [] h r = tt
below k j (t ∷ ts) h r = (omega (arith, r.0), r.1, r.2)

-- what a pins record adds to them
module _ (e v now k : ℕ) (pins : List ℕ) (ss : List Step) (small : v < 4) (early : now < 2 ^ 48)
    (ih : (j : ℕ) (b : Bool) → j ≤ now + cond b 1 0 → Rises j (times_in (body_from b now (set pins e v) ss))) where
  abbrev p : ℕ
  p = get_or pins e 0

  abbrev lines : Bool → List Line
  lines told = timed told now (changes_of e p v)

  abbrev after : Bool → List Line
  after told = body_from told now (set pins e v) ss

  -- the same pins: no line
  same_rises : (told : Bool) → p ≡ v → k ≤ now + cond told 1 0 → Rises k (times_in (lines told) ++ times_in (after told))
  unfolding timed times_in
  same_rises told q h =
      let none : lines told ≡ [] = ap (timed told now) (ap (changes_of e p) (sym q) ∙ no_change e p (omega arith)) in
      rw none (ih k told h)

  -- other pins: the time, unless it is told
  other_rises : (told : Bool) → k ≤ now + cond told 1 0 → Rises k (times_in (lines told) ++ times_in (after true))
  other_rises told h = by told h (timed_times told now (changes_of e p v) (changes_times e p v))
    where
      by : (told : Bool) → k ≤ now + cond told 1 0 → (times_in (lines told) ≡ []) ⊎ ((told ≡ false) × (times_in (lines told) ≡ now ∷ [])) → Rises k (times_in (lines told) ++ times_in (after true))
      by true h (inl q) = rw q (ih k true h)
      by false h (inl q) = rw q (ih k true (omega arith))
      by true h (inr q) = absurd (true≢false q.0)
      by false h (inr q) = rw q.1 (omega arith, early, ih (now + 1) true (omega arith))

  pins_rises : (told : Bool) → k ≤ now + cond told 1 0 → Rises k (times_in (lines told ++ after (told || not (eqb p v))))
  pins_rises told h = rw (times_append (lines told) (after (told || not (eqb p v)))) (by (eqb p v) refl told h)
    where
      by : (t : Bool) → eqb p v ≡ t → (told : Bool) → k ≤ now + cond told 1 0 → Rises k (times_in (lines told) ++ times_in (after (told || not t)))
      by true q true h = same_rises true (eqb-true p v q) h
      by true q false h = same_rises false (eqb-true p v q) h
      by false q true h = other_rises true h
      by false q false h = other_rises false h

body_rises : (ss : List Step) (told : Bool) (now k : ℕ) (pins : List ℕ) → Good (2 ^ 48) now ss → k ≤ now + cond told 1 0 → Rises k (times_in (body_from told now pins ss))
unfolding body_from times_in
body_rises [] told now k pins g h = tt
body_rises (Wait t ∷ ss) told now k pins g h = body_rises ss (told && eqb t 0) (now + 25 * t) k pins g (go told (eqb t 0) refl h)
  where
    go : (told x : Bool) → eqb t 0 ≡ x → k ≤ now + cond told 1 0 → k ≤ now + 25 * t + cond (told && x) 1 0
    go true true q h = omega arith
    go true false q h = let n = eqb-false t 0 q in omega arith
    go false x q h = omega arith
body_rises (Pins e v ∷ ss) told now k pins g h =
    pins_rises e v now k pins ss g.1 (in_time ss (2 ^ 48) now g.2) (λ j b. body_rises ss b now j (set pins e v) g.2) told h

-- ---- the values of a wire

-- what it has: 2 while it is unknown
abbrev value_in : List ℕ → ℕ → ℕ
value_in pins w = cond (ltb (get_or pins (w / 2) 0) 4) (pin_of (get_or pins (w / 2) 0) w) 2

module _ (wire e p v : ℕ) where
  one_value : (w b : ℕ) (t : Bool) → values_of wire (cond t [] (Change w b ∷ [])) ≡ cond t [] (cond (eqb w wire) (b ∷ []) [])
  unfolding values_of
  one_value w b true = refl
  one_value w b false = append-nil (cond (eqb w wire) (b ∷ []) [])

  abbrev same_a : Bool
  same_a = ltb p 4 && eqb (p % 2) (v % 2)

  abbrev same_b : Bool
  same_b = ltb p 4 && eqb (p / 2) (v / 2)

  values_change : values_of wire (changes_of e p v) ≡ cond same_a [] (cond (eqb (2 * e) wire) (v % 2 ∷ []) []) ++ cond same_b [] (cond (eqb (2 * e + 1) wire) (v / 2 ∷ []) [])
  unfolding changes_of
  values_change =
      values_append wire (change_of (2 * e) (ltb p 4) (p % 2) (v % 2)) (change_of (2 * e + 1) (ltb p 4) (p / 2) (v / 2))
      ∙ rw (one_value (2 * e) (v % 2) same_a, one_value (2 * e + 1) (v / 2) same_b)

none_if : (t : Bool) → cond {A = List ℕ} t [] [] ≡ []
none_if true = refl
none_if false = refl

-- a wire's value was x and is y, and it is told unless it stays
alternates_if : (x y : ℕ) (known same : Bool) (old : ℕ) (vs : List ℕ) → x ≡ cond known old 2 → eqb old y ≡ same → y < 2 → Alternates y vs
    → Alternates x (cond (known && same) [] (y ∷ []) ++ vs)
alternates_if x y true true old vs e q h r = rw (e, eqb-true old y q) r
alternates_if x y true false old vs e q h r = (λ f. eqb-false old y q (sym e ∙ f), r)
alternates_if x y false same old vs e q h r = (λ f. omega arith, r)

module _ (wire e v : ℕ) (pins : List ℕ) (vs : List ℕ) (small : v < 4) (in_row : e < length pins) (rest : Alternates (value_in (set pins e v) wire) vs) where
  abbrev q : ℕ
  q = get_or pins e 0

  now_v : (w : ℕ) → w / 2 ≡ e → value_in (set pins e v) w ≡ pin_of v w
  now_v w h = rw (h, get_or-set_same pins e v 0 in_row, lt-ltb v 4 small)

  on_a : wire ≡ 2 * e → Alternates (value_in pins wire) (values_of wire (changes_of e q v) ++ vs)
  on_a h =
      let half : wire / 2 ≡ e = omega arith in
      let even : wire % 2 ≡ 0 = omega arith in
      let old : value_in pins wire ≡ cond (ltb q 4) (q % 2) 2 = rw (half, even) in
      let new : value_in (set pins e v) wire ≡ v % 2 = now_v wire half ∙ rw even in
      rw (values_change wire e q v, eq-eqb (2 * e) wire (sym h), ne_eqb (2 * e + 1) wire (omega arith), none_if (same_b wire e q v), append-nil (cond (same_a wire e q v) [] (v % 2 ∷ [])))
      (alternates_if (value_in pins wire) (v % 2) (ltb q 4) (eqb (q % 2) (v % 2)) (q % 2) vs old refl (omega arith) (subst (λ (x : ℕ). Alternates x vs) new rest))

  on_b : wire ≡ 2 * e + 1 → Alternates (value_in pins wire) (values_of wire (changes_of e q v) ++ vs)
  on_b h =
      let half : wire / 2 ≡ e = omega arith in
      let odd : eqb (wire % 2) 0 ≡ false = ne_eqb (wire % 2) 0 (omega arith) in
      let old : value_in pins wire ≡ cond (ltb q 4) (q / 2) 2 = rw (half, odd) in
      let new : value_in (set pins e v) wire ≡ v / 2 = now_v wire half ∙ rw odd in
      rw (values_change wire e q v, ne_eqb (2 * e) wire (omega arith), eq-eqb (2 * e + 1) wire (sym h), none_if (same_a wire e q v))
      (alternates_if (value_in pins wire) (v / 2) (ltb q 4) (eqb (q / 2) (v / 2)) (q / 2) vs old refl (omega arith) (subst (λ (x : ℕ). Alternates x vs) new rest))

  on_other : (wire / 2 ≡ e → ⊥) → Alternates (value_in pins wire) (values_of wire (changes_of e q v) ++ vs)
  on_other n =
      let a : 2 * e ≡ wire → ⊥ = λ h. n (omega arith) in
      let b : 2 * e + 1 ≡ wire → ⊥ = λ h. n (omega arith) in
      let stays : get_or (set pins e v) (wire / 2) 0 ≡ get_or pins (wire / 2) 0 = get_or-set_other pins e (wire / 2) v 0 n in
      rw (values_change wire e q v, ne_eqb (2 * e) wire a, ne_eqb (2 * e + 1) wire b, none_if (same_a wire e q v), none_if (same_b wire e q v))
      (subst (λ (p : ℕ). Alternates (cond (ltb p 4) (pin_of p wire) 2) vs) stays rest)

  pins_alternates : Alternates (value_in pins wire) (values_of wire (changes_of e q v) ++ vs)
  pins_alternates = by (eqb (wire / 2) e) (eqb (wire % 2) 0) refl refl
    where
      by : (x y : Bool) → eqb (wire / 2) e ≡ x → eqb (wire % 2) 0 ≡ y → Alternates (value_in pins wire) (values_of wire (changes_of e q v) ++ vs)
      by true true h k = on_a (omega (arith, eqb-true (wire / 2) e h, eqb-true (wire % 2) 0 k))
      by true false h k = let n = eqb-false (wire % 2) 0 k in on_b (omega (arith, eqb-true (wire / 2) e h))
      by false y h k = on_other (eqb-false (wire / 2) e h)

body_alternates : (wire : ℕ) (ss : List Step) (told : Bool) (now : ℕ) (pins : List ℕ) (end : ℕ) → Good end now ss → length pins ≡ 20 → Alternates (value_in pins wire) (values_of wire (body_from told now pins ss))
unfolding body_from values_of
body_alternates wire [] told now pins end g l = tt
body_alternates wire (Wait t ∷ ss) told now pins end g l = body_alternates wire ss (told && eqb t 0) (now + 25 * t) pins end g l
body_alternates wire (Pins e v ∷ ss) told now pins end g l =
    let p = get_or pins e 0 in
    let rest = body_from (told || not (eqb p v)) now (set pins e v) ss in
    rw (values_append wire (timed told now (changes_of e p v)) rest, timed_values wire told now (changes_of e p v))
    (pins_alternates wire e v pins (values_of wire rest) g.1 (omega (arith, g.0)) (body_alternates wire ss (told || not (eqb p v)) now (set pins e v) end g.2 (length-set pins e v ∙ l)))

-- ---- the whole

-- at the start every wire is unknown
fresh_value : (pins : List ℕ) (i w : ℕ) → Fresh pins → i < length pins → cond (ltb (get_or pins i 0) 4) (pin_of (get_or pins i 0) w) 2 ≡ 2
fresh_value [] i w f h = absurd (omega arith)
fresh_value (x ∷ pins) zero w f h = rw (le-ltb x 4 f.0.0)
fresh_value (x ∷ pins) (suc i) w f h = fresh_value pins i w f.1 (omega arith)

no_pins : (wire : ℕ) (ss : List Step) (told : Bool) (now : ℕ) (pins : List ℕ) (end : ℕ) → Good end now ss → 40 ≤ wire → values_of wire (body_from told now pins ss) ≡ []
unfolding body_from values_of
no_pins wire [] told now pins end g h = refl
no_pins wire (Wait t ∷ ss) told now pins end g h = no_pins wire ss (told && eqb t 0) (now + 25 * t) pins end g h
no_pins wire (Pins e v ∷ ss) told now pins end g h =
    let p = get_or pins e 0 in
    let rest = body_from (told || not (eqb p v)) now (set pins e v) ss in
    rw (values_append wire (timed told now (changes_of e p v)) rest, timed_values wire told now (changes_of e p v), values_change wire e p v, ne_eqb (2 * e) wire (omega (arith, g.0)), ne_eqb (2 * e + 1) wire (omega (arith, g.0)), none_if (same_a wire e p v), none_if (same_b wire e p v))
    (no_pins wire ss (told || not (eqb p v)) now (set pins e v) end g.2 h)

module _ (steps : List Step) (good : Good (2 ^ 48) 0 steps) (few : length steps ≤ 2047) where
  all_rise : Rises 0 (times_in (dump_of steps))
  unfolding dump_of
  all_rise = rw (header_times (start_of steps) (body_from false 0 (start_of steps) steps)) (body_rises steps false 0 0 (start_of steps) good (omega arith))

  all_alternate : (wire : ℕ) → Alternates 2 (values_of wire (dump_of steps))
  unfolding dump_of
  all_alternate wire = rw (header_values (start_of steps) (body_from false 0 (start_of steps) steps) wire) (by (ltb wire 40) refl)
    where
      by : (t : Bool) → ltb wire 40 ≡ t → Alternates 2 (values_of wire (body_from false 0 (start_of steps) steps))
      by true q =
          let h = ltb-true wire 40 q in
          subst (λ (x : ℕ). Alternates x (values_of wire (body_from false 0 (start_of steps) steps)))
          (fresh_value (start_of steps) (wire / 2) wire (fresh_start steps) (omega (arith, long_start steps)))
          (body_alternates wire steps false 0 (start_of steps) (2 ^ 48) good (long_start steps))
      by false q = rw (no_pins wire steps false 0 (start_of steps) (2 ^ 48) good (ltb-false wire 40 q)) tt

-- ---- said of lines

rising : (xs ys zs : List ℕ) (k s t : ℕ) → Rises k (xs ++ s ∷ ys ++ t ∷ zs) → s < t
rising [] [] zs k s t r = omega (arith, r.2.0)
rising [] (b ∷ ys) zs k s t r = omega (arith, r.2.0, rising [] ys zs (s + 1) b t r.2)
rising (a ∷ xs) ys zs k s t r = rising xs ys zs (a + 1) s t r.2

early_in : (xs ys : List ℕ) (k t : ℕ) → Rises k (xs ++ t ∷ ys) → t < 2 ^ 48
early_in [] ys k t r = r.1
early_in (a ∷ xs) ys k t r = early_in xs ys (a + 1) t r.2

alternating : (xs zs : List ℕ) (k u v : ℕ) → Alternates k (xs ++ u ∷ v ∷ zs) → u ≡ v → ⊥
alternating [] zs k u v r = r.1.0
alternating (a ∷ xs) zs k u v r = alternating xs zs a u v r.1

-- no change of a wire: no values
module _ (w : ℕ) where
  abbrev None : List Line → Type 0
  None b = (d e : List Line) (x : ℕ) → b ≡ d ++ Change w x ∷ e → ⊥

  none_tail : (l : Line) (b : List Line) → None (l ∷ b) → None b
  none_tail l b n d e x q = n (l ∷ d) e x (ap (λ (z : List Line). l ∷ z) q)

  no_value : (b : List Line) → None b → values_of w b ≡ []
  unfolding values_of
  no_value [] n = refl
  no_value (Fixed k ∷ b) n = no_value b (none_tail (Fixed k) b n)
  no_value (Var v ∷ b) n = no_value b (none_tail (Var v) b n)
  no_value (Unknown v ∷ b) n = no_value b (none_tail (Unknown v) b n)
  no_value (Time t ∷ b) n = no_value b (none_tail (Time t) b n)
  no_value (Change v x ∷ b) n =
      rw (ne_eqb v w (λ q. n [] b x (ap (λ (i : ℕ). Change i x ∷ b) q))) (no_value b (none_tail (Change v x) b n))
  no_value (Other ∷ b) n = no_value b (none_tail Other b n)

module _ (steps : List Step) (good : Good (2 ^ 48) 0 steps) (few : length steps ≤ 2047) where
  early : (a b : List Line) (t : ℕ) → dump_of steps ≡ a ++ Time t ∷ b → t < 2 ^ 48
  unfolding times_in
  early a b t e = early_in (times_in a) (times_in b) 0 t (rw (e, times_append a (Time t ∷ b)) at (all_rise steps good few))

  rises : (a b c : List Line) (s t : ℕ) → dump_of steps ≡ a ++ Time s ∷ b ++ Time t ∷ c → s < t
  unfolding times_in
  rises a b c s t e =
      rising (times_in a) (times_in b) (times_in c) 0 s t (rw (e, times_append (a ++ Time s ∷ b) (Time t ∷ c), times_append a (Time s ∷ b)) at (all_rise steps good few))

  alternates : (a b c : List Line) (w u v : ℕ) → dump_of steps ≡ a ++ Change w u ∷ b ++ Change w v ∷ c → None w b → u ≡ v → ⊥
  unfolding values_of
  alternates a b c w u v e n =
      alternating (values_of w a) (values_of w c) 2 u v
      (rw (e, values_append w (a ++ Change w u ∷ b) (Change w v ∷ c), values_append w a (Change w u ∷ b), eq-eqb w w refl, no_value w b n, append_snoc (values_of w a) u (v ∷ values_of w c)) at (all_alternate steps good few w))

pub all_shown : AllShown
all_shown steps good few = record {
  back = back_dump steps good few;
  early = early steps good few;
  rises = rises steps good few;
  alternates = alternates steps good few;
}
