-- A record as the dump sees it: what wire's decoding names. This file alone looks into wire's records.
-- Assumes nothing.
use mathlib.Core.Path.{◌≡◌, refl, ap}
use mathlib.Core.List.{List, ◌∷◌, map}
use mathlib.Core.Bool.{true, false, false≢true}
use Prim.Native.Nat.{ℕ, ◌+◌, ◌*◌, ◌^◌, ◌<◌}
use native.Mathlib.Omega.{arith}
use lib.ListN.{length}
use lib.Dec.{eqb}
use Rattle.fold.specs.Turn.{applies}
use Rattle.fold.specs.Run.{going}
use Rattle.fold.proofs.Runs.{every_going}
use Rattle.numbers.specs.Bytes.{byte}
use Rattle.edition.specs.declared.Edition.{Edition}
use Rattle.wire.specs.Decode.{bank_of, decode_of}
use Rattle.records.specs.declared.Record.{Record}
use Rattle.records.specs.declared.Record.TheVariants.{WriteSelect, WriteEncoder, WritePwm, WriteI2c, Answer, ReadSelect, ReadEncoder, ReadPwm, ReadI2c, Pins, Ticks}
use Rattle.std.specs.Prelude.{Ok}
use Rattle.wire.proofs.Formed.{Formed, formed, bank_formed}
use Rattle.banks.specs.declared.State.{State}
use Rattle.banks.specs.State.{fresh}
use Rattle.replay.specs.Replay.{played}
use Rattle.walk.specs.Turn.{turn_of}
use Rattle.walk.proofs.Replaying.{by_turn}
use Rattle.vcd.specs.declared.Step.{Step}
use Rattle.vcd.specs.declared.Step.TheVariants.{Wait, Pins as Seen}
use Rattle.vcd.specs.Dump.{Good}
use Rattle.dump.specs.Dump.{seen_of}

-- ---- what is decoded

abbrev GoodStep : Step → Type 0
GoodStep (Wait t) = t < 2 ^ 32
GoodStep (Seen e v) = (e < 20) × (v < 4)

module _ (o : Edition) (s : List ℕ) where
  pub seen_pins : (i v : ℕ) → decode_of o s ≡ Ok (Pins i v) → seen_of s ≡ Seen (10 * bank_of s + i) v
  unfolding seen_of
  seen_pins i v e = let f = (formed o s (Pins i v) e).0 in rw (f.is_kind, f.is_channel) (ap (Seen (10 * bank_of s + i)) f.value)

  pub seen_ticks : (t : ℕ) → decode_of o s ≡ Ok (Ticks t) → seen_of s ≡ Wait t
  unfolding seen_of
  seen_ticks t e = let f = (formed o s (Ticks t) e).0 in rw f.is_kind (ap Wait f.value)

  other : (k : ℕ) → byte s 0 ≡ k → eqb k 3 ≡ false → eqb k 4 ≡ false → GoodStep (seen_of s)
  unfolding seen_of
  other k e n m = rw (e, n, m) (omega arith)

  good : (r : Record) → decode_of o s ≡ Ok r → Formed s r → GoodStep (seen_of s)
  good (WriteSelect v) e f = other 1 f.0.is_kind refl refl
  good (WriteEncoder i v) e f = other 1 f.0.is_kind refl refl
  good (WritePwm i g v) e f = other 1 f.0.is_kind refl refl
  good (WriteI2c g v) e f = other 1 f.0.is_kind refl refl
  good (Answer v) e f = other 5 f.0.is_kind refl refl
  good ReadSelect e f = other 2 f.is_kind refl refl
  good (ReadEncoder i r) e f = other 2 f.0.is_kind refl refl
  good (ReadPwm i r) e f = other 2 f.0.is_kind refl refl
  good (ReadI2c r) e f = other 2 f.0.is_kind refl refl
  good (Pins i v) e f = rw (seen_pins i v e) (omega (arith, f.1, bank_formed o s (Pins i v) e), f.2)
  good (Ticks t) e f = rw (seen_ticks t e) f.1

  pub good_record : (b : State) → applies (turn_of o b s) ≡ true → GoodStep (seen_of s)
  good_record b =
      by_turn o b s (λ t. applies t ≡ true → GoodStep (seen_of s)) (λ n e h. absurd (false≢true h)) (λ r e k h. good r e (formed o s r e)) (λ r e k h. good r e (formed o s r e))

-- the records of a run that goes to its end; 25 * 2^32 ns for each
abbrev Soon : List Step → Type 0
Soon ss = (now : ℕ) → now + 107374182400 * length ss < 2 ^ 48 → Good (2 ^ 48) now ss

good_step : (s : Step) (ss : List Step) → GoodStep s → Soon ss → Soon (s ∷ ss)
good_step (Wait t) ss g ih now h = ih (now + 25 * t) (omega arith)
good_step (Seen e v) ss g ih now h = (g.0, g.1, ih now (omega arith))

pub good_run : (o : Edition) (rs : List (List ℕ)) → (played o rs).course ≡ going → Soon (map seen_of rs)
good_run o rs h = every_going (turn_of o) (λ b rs x. Soon (map seen_of rs)) (λ b now l. omega arith) (λ b r rs a ih. good_step (seen_of r) (map seen_of rs) (good_record o r b a) ih) fresh rs h
