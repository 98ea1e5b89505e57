-- A record that the rule drops goes to the very same state, and one that stays keeps the memory fitting. Assumes nothing.
use mathlib.Core.Path.{◌≡◌, refl, sym, ap, ◌∙◌, subst}
use mathlib.Core.Bool.{Bool, true, false, not, cond, ◌&&◌, ◌||◌, false≢true}
use mathlib.Core.List.{List, [], ◌∷◌}
use Prim.Native.Nat.{ℕ, ◌<◌}
use native.Mathlib.Omega.{arith}
use lib.Seq.{set-get_or}
use lib.Dec.{eqb}
use borrow.Author.Tests.{eqb-true, ne_eqb}
use Rattle.laws.proofs.Truth.{both_true}
use Rattle.fold.specs.Turn.{Turn, goes, refused, lift, applies, leaves}
use Rattle.fold.proofs.Shrinks.{Safe}
use Rattle.edition.specs.declared.Edition.{Edition}
use Rattle.numbers.specs.Bytes.{byte, le_of}
use Rattle.wire.specs.Decode.{bank_of, decode_of}
use Rattle.records.specs.declared.Record.{Record}
use Rattle.records.specs.declared.Record.TheVariants.{WriteSelect, WriteEncoder, WritePwm, WriteI2c, Answer, ReadSelect, ReadEncoder, ReadPwm, ReadI2c, Pins, Ticks}
use Rattle.std.specs.Prelude.{Option, Ok}
use Rattle.refused.specs.declared.Refusal.{Refusal}
use Rattle.refused.specs.declared.Refusal.TheVariants.{NotRouted}
use Rattle.wire.proofs.Formed.{Formed}
use Rattle.wire.proofs.Known.{ticks_named}
use Rattle.encoder.specs.declared.Encoder.{Encoder}
use Rattle.encoder.specs.Encoder as encoder
use Rattle.select.specs.Select.{encoder_routed}
use Rattle.bank.specs.declared.Bank.{Bank}
use Rattle.bank.specs.Bank.{encoder_at, with_encoder}
use Rattle.bank.specs.Bank as bank
use Rattle.banks.specs.declared.State.{State}
use Rattle.banks.specs.State.{fresh, bank_at, with_bank}
use Rattle.banks.proofs.Whole.{Both}
use Rattle.banks.proofs.Sweeps.{bank_itself}
use Rattle.walk.specs.Turn.{turn_of}
use Rattle.fold.proofs.Turns.{lift_applies}
use Rattle.walk.proofs.Replaying.{by_turn, ticking, banking}
use Rattle.travel.proofs.Events.{Event, pins, config, route, nothing, event_at}
use Rattle.travel.proofs.Counting.{Channel, on_event}
use Rattle.travel.proofs.Banks.{Sound, view_at, turn_view, sound_turn, sound_fresh}
use Rattle.shrink_rule.specs.Drops.{shows, drops}
use Rattle.event.specs.Event.{event_of}
use Rattle.shrink_rule.specs.How.{none, drops_by, learns_by, rule}
use Rattle.shrink_rule.proofs.Sorts.{Row, row}
use Rattle.shrink.proofs.Applied.{applied_row}
use Rattle.shrink_rule.proofs.Same.{Agrees, agrees_first, learns_next, same_drops}
use Rattle.shrink_same.proofs.Again.{pins_twice, not_ticked, map_itself}

-- what is shown of an encoder would change nothing
pub record Fits (m : List (Option ℕ)) (s : State) : Type 0 where
  pub sound : Both Sound s
  pub before : List (List ℕ)
  pub agrees : Agrees m before
  pub recalls : (k i v : ℕ) → k < 2 → i < 10 → shows k i v before ≡ true → encoder.on_pins v (encoder_at i (bank_at k s)) ≡ encoder_at i (bank_at k s)

pub fits_first : Fits none fresh
unfolding shows
fits_first = record { sound = sound_fresh; before = []; agrees = agrees_first; recalls = λ k i v h l e. absurd (false≢true e) }

-- ---- what is dropped

-- of kind 3 there are pins alone
pins_only : (r : List ℕ) (x : Record) → Formed r x → byte r 0 ≡ 3 → x ≡ Pins (byte r 2) (le_of 8 r 8)
pins_only r (Pins i v) f k = ap (λ (n : ℕ). Pins n v) (sym f.0.is_channel) ∙ ap (λ (n : ℕ). Pins (byte r 2) n) (sym f.0.value)
pins_only r (WriteSelect v) f k = absurd (omega (arith, k, f.0.is_kind))
pins_only r (WriteEncoder i v) f k = absurd (omega (arith, k, f.0.is_kind))
pins_only r (WritePwm i g v) f k = absurd (omega (arith, k, f.0.is_kind))
pins_only r (WriteI2c g v) f k = absurd (omega (arith, k, f.0.is_kind))
pins_only r (Answer v) f k = absurd (omega (arith, k, f.0.is_kind))
pins_only r ReadSelect f k = absurd (omega (arith, k, f.is_kind))
pins_only r (ReadEncoder i g) f k = absurd (omega (arith, k, f.0.is_kind))
pins_only r (ReadPwm i g) f k = absurd (omega (arith, k, f.0.is_kind))
pins_only r (ReadI2c g) f k = absurd (omega (arith, k, f.0.is_kind))
pins_only r (Ticks t) f k = absurd (omega (arith, k, f.0.is_kind))

passed : {S A : Type 0} (t : Bool) (x : Turn S A) (k : Refusal) → applies (cond t x (refused k)) ≡ true → cond t x (refused k) ≡ x
passed true x k h = refl
passed false x k h = absurd (false≢true h)

module _ (o : Edition) (s : State) (r : List ℕ) (before : List (List ℕ)) (dropped : drops before r ≡ true) where
  -- ticks are of 0
  of_zero : byte r 0 ≡ 4 → le_of 8 r 8 ≡ 0
  of_zero e = eqb-true (le_of 8 r 8) 0 (by (eqb (le_of 8 r 8) 0) (rw e at dropped))
    where
      by : (b : Bool) → (b || false) ≡ true → b ≡ true
      by true h = refl
      by false h = h

  -- any other is pins
  of_pins : (byte r 0 ≡ 4 → ⊥) → (byte r 0 ≡ 3) × (shows (bank_of r) (byte r 2) (le_of 8 r 8) before ≡ true)
  of_pins d =
      let h = both_true (eqb (byte r 0) 3) (shows (bank_of r) (byte r 2) (le_of 8 r 8) before) (rw (ne_eqb (byte r 0) 4 d) at dropped) in
      (eqb-true (byte r 0) 3 h.0, h.1)

  idle_ticks : (x : Record) → decode_of o r ≡ Ok x → byte r 0 ≡ 4 → ticking o s r x ≡ goes s
  unfolding bank.turn_of
  idle_ticks x e k =
      ap (λ (y : Record). ticking o s r y) (ticks_named o r x e k ∙ ap Ticks (of_zero k))
      ∙ ap goes (ap {B = State} (λ (l : List Bank). record { banks = l }) (map_itself (λ b. leaves b (bank.turn_of o b (Ticks 0))) (λ b. not_ticked o b) s.banks))

  idle_pins : (x : Record) → decode_of o r ≡ Ok x → (byte r 0 ≡ 4 → ⊥) → Row r x
      → encoder.on_pins (le_of 8 r 8) (encoder_at (byte r 2) (bank_at (bank_of r) s)) ≡ encoder_at (byte r 2) (bank_at (bank_of r) s)
      → applies (banking o s r x) ≡ true → banking o s r x ≡ goes s
  unfolding bank.turn_of
  idle_pins x e d w still a =
      let is = pins_only r x w.says (of_pins d).0 in
      let b = bank_at (bank_of r) s in
      let done : Turn Bank ℕ = goes (with_encoder (byte r 2) b (encoder.on_pins (le_of 8 r 8) (encoder_at (byte r 2) b))) in
      ap (λ (y : Record). banking o s r y) is
      ∙ ap (lift (with_bank (bank_of r) s))
      (passed (encoder_routed o.port b.select (byte r 2)) done NotRouted (sym (lift_applies (with_bank (bank_of r) s) (bank.turn_of o b (Pins (byte r 2) (le_of 8 r 8)))) ∙ ap (λ (y : Record). applies (banking o s r y)) (sym is) ∙ a))
      ∙ ap (λ (y : Encoder). goes (with_bank (bank_of r) s (with_encoder (byte r 2) b y))) still
      ∙ ap (λ (es : List Encoder). goes (with_bank (bank_of r) s (record { select = b.select; encoders = es; pwms = b.pwms; i2c = b.i2c }))) (set-get_or b.encoders (byte r 2) encoder.fresh)
      ∙ ap goes (sym (bank_itself (bank_of r) s))

-- the channel of pins is one of ten
pins_ten : (r : List ℕ) (x : Record) → Row r x → byte r 0 ≡ 3 → byte r 2 < 10
pins_ten r x w k = (subst (λ (y : Record). Formed r y) (pins_only r x w.says k) w.says).1

idle : (o : Edition) (m : List (Option ℕ)) (s : State) (r : List ℕ) → Fits m s → drops_by m (event_of r) ≡ true → applies (turn_of o s r) ≡ true → turn_of o s r ≡ goes s
idle o m s r f d =
    by_turn o s r (λ t. applies t ≡ true → t ≡ goes s) (λ n e a. absurd (false≢true a)) (λ x e k a. idle_ticks o s r f.before (dropped x e) x e k)
    (λ x e k a.
    let w = row o r x e in
    let p = of_pins o s r f.before (dropped x e) k in
    idle_pins o s r f.before (dropped x e) x e k w (f.recalls (bank_of r) (byte r 2) (le_of 8 r 8) w.bank (pins_ten r x w p.0) p.1) a)
  where
    dropped : (x : Record) → decode_of o r ≡ Ok x → drops f.before r ≡ true
    dropped x e = same_drops m f.before r f.agrees x (row o r x e) ∙ d

-- ---- what stays

-- looking back, by what the last record is to the encoder
shows_by : Event → ℕ → Bool → Bool
shows_by (pins w) v s = eqb w v
shows_by (config w) v s = false
shows_by (route b) v s = false
shows_by nothing v s = s

shows_event : (port : Bool) (k i v : ℕ) (r : List ℕ) (before : List (List ℕ)) → shows k i v (r ∷ before) ≡ shows_by (event_at port k i r) v (shows k i v before)
unfolding shows shows_by
shows_event port k i v r before =
    by (eqb (bank_of r) k) (eqb (byte r 0) 3 && (eqb (byte r 1) 1 && eqb (byte r 2) i)) (eqb (byte r 0) 1 && (eqb (byte r 1) 1 && eqb (byte r 2) i)) (eqb (byte r 0) 1 && (eqb (byte r 1) 0 && eqb (byte r 2) 0)) _
  where
    w : ℕ
    w = le_of 8 r 8

    by : (t a b c z : Bool) → cond (t && a) (eqb w v) (not ((t && b) || (t && c)) && shows k i v before)
        ≡ shows_by (cond t (cond a (pins w) (cond b (config w) (cond c (route z) nothing))) nothing) v (shows k i v before)
    by true true b c z = refl
    by true false true c z = refl
    by true false false true z = refl
    by true false false false z = refl
    by false a b c z = refl

learns : (o : Edition) (m : List (Option ℕ)) (s : State) (r : List ℕ) → Fits m s → drops_by m (event_of r) ≡ false → applies (turn_of o s r) ≡ true
    → Fits (learns_by m (event_of r)) (leaves s (turn_of o s r))
unfolding shows_by
learns o m s r f d a =
    let x = applied_row o s r a in
    record {
      sound = sound_turn o s r f.sound;
      before = r ∷ f.before;
      agrees = learns_next m f.before r f.agrees x.0 x.1;
      recalls = λ k i v h l e. by k i v h l (event_at o.port k i r) (ap (λ (c : Channel). c.encoder) (turn_view o k i h l s r f.sound a)) (sym (shows_event o.port k i v r f.before) ∙ e);
    }
  where
    t : State
    t = leaves s (turn_of o s r)

    by : (k i v : ℕ) → k < 2 → i < 10 → (e : Event) → encoder_at i (bank_at k t) ≡ (on_event (view_at o.port k i s) e).encoder → shows_by e v (shows k i v f.before) ≡ true
        → encoder.on_pins v (encoder_at i (bank_at k t)) ≡ encoder_at i (bank_at k t)
    by k i v h l (pins w) is e =
        let same : w ≡ v = eqb-true w v e in
        subst (λ (y : Encoder). encoder.on_pins v y ≡ y) (sym is) (subst (λ (n : ℕ). encoder.on_pins n (encoder.on_pins w (encoder_at i (bank_at k s))) ≡ encoder.on_pins w (encoder_at i (bank_at k s))) same (pins_twice w (encoder_at i (bank_at k s))))
    by k i v h l (config w) is e = absurd (false≢true e)
    by k i v h l (route b) is e = absurd (false≢true e)
    by k i v h l nothing is e = subst (λ (y : Encoder). encoder.on_pins v y ≡ y) (sym is) (f.recalls k i v h l e)

pub safe : (o : Edition) → Safe (turn_of o) rule Fits
safe o = record { idle = idle o; learns = learns o }
