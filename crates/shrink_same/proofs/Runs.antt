-- The run of the records that stay, and the pins among them. Assumes nothing.
use mathlib.Core.Path.{◌≡◌, refl, sym, ap, ◌∙◌, subst}
use mathlib.Core.Bool.{Bool, true, false, not, cond, ◌&&◌}
use mathlib.Core.List.{List, [], ◌∷◌, ◌++◌, reverse_aux}
use Prim.Native.Nat.{ℕ, ◌+◌, ◌-◌, ◌%◌, ◌≤◌}
use native.Mathlib.Omega.{arith}
use lib.ListN.{length}
use lib.Dec.{eqb}
use lib.IntN.{ℤ, ◌+ℤ◌, +ℤ_idl}
use borrow.Author.Tests.{eqb-true}
use Rattle.laws.proofs.Truth.{both_true}
use Rattle.bits.specs.Bits.{bit, num, changes}
use Rattle.fold.specs.Run.{going, under}
use Rattle.fold.specs.Shrink as fold
use Rattle.fold.proofs.Shrinks as shrinks
use Rattle.edition.specs.declared.Edition.{Edition}
use Rattle.numbers.specs.Bytes.{byte, le_of}
use Rattle.wire.specs.Decode.{asks, reads_in}
use Rattle.wire.specs.Decode.{bank_of}
use Rattle.encoder.specs.Encoder.{place, places}
use Rattle.shaft.specs.Shaft.{step_of, steps, doubles}
use Rattle.banks.specs.State.{fresh}
use Rattle.replay.specs.Replay.{played}
use Rattle.walk.specs.Turn.{turn_of}
use Rattle.travel.specs.Stretch.{names, pins_in, keeps, undisturbed}
use Rattle.shrink_rule.specs.Drops.{shows, drops, kept}
use Rattle.shrink_rule.specs.How.{writes, none, rule}
use Rattle.shrink_rule.proofs.Every.{kept_every}
use Rattle.shrink.proofs.Applied.{rows}
use Rattle.shrink_rule.proofs.Same.{agrees_first, same_kept}
use Rattle.shrink_same.proofs.Idle.{Fits, fits_first, safe}

-- ---- the same run

module _ (o : Edition) (rs : List (List ℕ)) (goes : (played o rs).course ≡ going) where
  pub by_rule : kept [] rs ≡ fold.kept rule none rs
  by_rule = same_kept rs (rows o rs goes) none [] agrees_first

  pub same_run : played o (kept [] rs) ≡ under (played o rs).state (length (kept [] rs)) (played o rs).readings
  same_run =
      subst (λ (ks : List (List ℕ)). played o ks ≡ under (played o rs).state (length ks) (played o rs).readings) (sym by_rule)
      (shrinks.skips (turn_of o) rule Fits (safe o) none fresh rs fits_first goes)

  pub kept_twice : kept [] (kept [] rs) ≡ kept [] rs
  kept_twice =
      ap (kept []) by_rule
      ∙ same_kept (fold.kept rule none rs) (kept_every rule _ none rs (rows o rs goes)) none [] agrees_first
      ∙ shrinks.kept_again rule none rs
      ∙ sym by_rule

  pub fewer_reads : reads_in (kept [] rs) ≤ reads_in rs
  fewer_reads = rw by_rule (shrinks.kept_fewer rule asks none rs)

-- ---- records that are cut

pub kept_cut : (before rs ts : List (List ℕ)) → kept before (rs ++ ts) ≡ kept before rs ++ kept (reverse_aux rs before) ts
unfolding kept
kept_cut before [] ts = refl
kept_cut before (r ∷ rs) ts = by (drops before r) (kept_cut (r ∷ before) rs ts)
  where
    by : (d : Bool) → kept (r ∷ before) (rs ++ ts) ≡ kept (r ∷ before) rs ++ kept (reverse_aux rs (r ∷ before)) ts
        → cond d (kept (r ∷ before) (rs ++ ts)) (r ∷ kept (r ∷ before) (rs ++ ts)) ≡ cond d (kept (r ∷ before) rs) (r ∷ kept (r ∷ before) rs) ++ kept (reverse_aux rs (r ∷ before)) ts
    by true ih = ih
    by false ih = ap (λ (l : List (List ℕ)). r ∷ l) ih

pub kept_first : (before : List (List ℕ)) (r : List ℕ) (rs : List (List ℕ)) → drops before r ≡ false → kept before (r ∷ rs) ≡ r ∷ kept (r ∷ before) rs
unfolding kept
kept_first before r rs e = rw e

-- ---- what stays of a stretch

pub calm_kept : (port : Bool) (k i : ℕ) (before rs : List (List ℕ)) → undisturbed port k i rs ≡ true → undisturbed port k i (kept before rs) ≡ true
unfolding kept
calm_kept port k i before [] h = refl
calm_kept port k i before (r ∷ rs) h =
    let t = both_true (keeps port k i r) _ h in
    by (drops before r) t.0 (calm_kept port k i (r ∷ before) rs t.1)
  where
    by : (d : Bool) → keeps port k i r ≡ true → undisturbed port k i (kept (r ∷ before) rs) ≡ true → undisturbed port k i (cond d (kept (r ∷ before) rs) (r ∷ kept (r ∷ before) rs)) ≡ true
    by true p ih = ih
    by false p ih = rw p ih

no_place : (v : ℕ) → places v v ≡ 0
no_place v = by (place v)
  where
    by : (p : ℕ) → (4 + p - p) % 4 ≡ 0
    by p = let h : 4 + p - p ≡ 4 = omega arith in ap (λ (n : ℕ). n % 4) h

-- pins that repeat count nothing and are no double
pub steps_again : (v : ℕ) (vs : List ℕ) → steps (v ∷ v ∷ vs) ≡ steps (v ∷ vs)
steps_again v vs = ap (λ (n : ℕ). step_of n +ℤ steps (v ∷ vs)) (no_place v) ∙ +ℤ_idl (steps (v ∷ vs))

pub doubles_again : (v : ℕ) (vs : List ℕ) → doubles (v ∷ v ∷ vs) ≡ doubles (v ∷ vs)
doubles_again v vs = by (bit 0 v) (bit 1 v)
  where
    by : (a b : Bool) → num (changes a a && changes b b) + doubles (v ∷ vs) ≡ doubles (v ∷ vs)
    by true true = omega arith
    by true false = omega arith
    by false true = omega arith
    by false false = omega arith

-- pins of an encoder are dropped where looking back shows them
pub dropped_shows : (k i : ℕ) (r : List ℕ) (before : List (List ℕ)) → names k 3 1 i r ≡ true → drops before r ≡ true → shows k i (le_of 8 r 8) before ≡ true
dropped_shows k i r before n d =
    let bank = both_true (eqb (bank_of r) k) _ n in
    let kind = both_true (eqb (byte r 0) 3) _ bank.1 in
    let channel = (both_true (eqb (byte r 1) 1) (eqb (byte r 2) i) kind.1).1 in
    let is_kind = eqb-true (byte r 0) 3 kind.0 in
    ap (λ (b : ℕ). shows b i (le_of 8 r 8) before) (sym (eqb-true (bank_of r) k bank.0))
    ∙ ap (λ (c : ℕ). shows (bank_of r) c (le_of 8 r 8) before) (sym (eqb-true (byte r 2) i channel))
    ∙ (rw is_kind at d)

-- w is all that looking back may show of the encoder
Shown : ℕ → ℕ → ℕ → List (List ℕ) → Type 0
Shown k i w before = (v : ℕ) → shows k i v before ≡ true → v ≡ w

module _ (k i : ℕ) where
  shown_pins : (r : List ℕ) (before : List (List ℕ)) → names k 3 1 i r ≡ true → Shown k i (le_of 8 r 8) (r ∷ before)
  unfolding Shown shows
  shown_pins r before n v e = sym (eqb-true (le_of 8 r 8) v (rw n at e))

  shown_other : (r : List ℕ) (before : List (List ℕ)) (w : ℕ) → names k 3 1 i r ≡ false → Shown k i w before → Shown k i w (r ∷ before)
  unfolding Shown shows
  shown_other r before w n s v e = s v (both_true (not (writes k i r)) (shows k i v before) (rw n at e)).1

  -- a dropped record of this encoder's pins repeats w
  repeats : (r : List ℕ) (before : List (List ℕ)) (w : ℕ) → names k 3 1 i r ≡ true → Shown k i w before → drops before r ≡ true → le_of 8 r 8 ≡ w
  unfolding Shown
  repeats r before w n s d = s (le_of 8 r 8) (dropped_shows k i r before n d)

  -- a number told of pins in a row, which repeated pins leave as it is
  module _ {N : Type 0} (told : List ℕ → N) (again : (v : ℕ) (vs : List ℕ) → told (v ∷ v ∷ vs) ≡ told (v ∷ vs))
      (on : (v w : ℕ) (us vs : List ℕ) → told (w ∷ us) ≡ told (w ∷ vs) → told (v ∷ w ∷ us) ≡ told (v ∷ w ∷ vs)) where
    same_told : (w : ℕ) (before rs : List (List ℕ)) → Shown k i w before → told (w ∷ pins_in k i (kept before rs)) ≡ told (w ∷ pins_in k i rs)
    unfolding kept
    same_told w before [] s = refl
    same_told w before (r ∷ rs) s = by (names k 3 1 i r) refl (drops before r) refl (λ u. same_told u (r ∷ before) rs)
      where
        by : (n : Bool) → names k 3 1 i r ≡ n → (d : Bool) → drops before r ≡ d
            → ((u : ℕ) → Shown k i u (r ∷ before) → told (u ∷ pins_in k i (kept (r ∷ before) rs)) ≡ told (u ∷ pins_in k i rs))
            → told (w ∷ pins_in k i (cond d (kept (r ∷ before) rs) (r ∷ kept (r ∷ before) rs))) ≡ told (w ∷ cond n (le_of 8 r 8 ∷ pins_in k i rs) (pins_in k i rs))
        by true n true d ih =
            let e = repeats r before w n s d in
            ih w (subst (λ (u : ℕ). Shown k i u (r ∷ before)) e (shown_pins r before n))
            ∙ sym (again w (pins_in k i rs))
            ∙ ap (λ (u : ℕ). told (w ∷ u ∷ pins_in k i rs)) (sym e)
        by true n false d ih = rw n (on w (le_of 8 r 8) (pins_in k i (kept (r ∷ before) rs)) (pins_in k i rs) (ih (le_of 8 r 8) (shown_pins r before n)))
        by false n true d ih = ih w (shown_other r before w n s)
        by false n false d ih = rw n (ih w (shown_other r before w n s))

  module _ (r : List ℕ) (before rs : List (List ℕ)) (n : names k 3 1 i r ≡ true) where
    pub steps_kept : steps (pins_in k i (r ∷ kept (r ∷ before) rs)) ≡ steps (pins_in k i (r ∷ rs))
    steps_kept = rw n (same_told steps steps_again (λ v w us vs e. ap (λ (z : ℤ). step_of (places v w) +ℤ z) e) (le_of 8 r 8) (r ∷ before) rs (shown_pins r before n))

    pub doubles_kept : doubles (pins_in k i (r ∷ kept (r ∷ before) rs)) ≡ doubles (pins_in k i (r ∷ rs))
    doubles_kept =
        rw n (same_told doubles doubles_again (λ v w us vs e. ap (λ (z : ℕ). num (changes (bit 0 v) (bit 0 w) && changes (bit 1 v) (bit 1 w)) + z) e) (le_of 8 r 8) (r ∷ before) rs (shown_pins r before n))
