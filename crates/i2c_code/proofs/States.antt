-- The states by number: a byte can follow the last one in 1 to send, in 2 to receive. Where a code is allowed, by that.
-- Assumes nothing.
use mathlib.Core.Path.{◌≡◌, refl, ap, ◌∙◌}
use mathlib.Core.Bool.{Bool, true, false, not, cond, ◌&&◌, ◌||◌}
use lib.Dec.{ltb, eqb}
use denote.Enum.Bare.{sameb}
use Rattle.laws.proofs.Cases.{taken, left}
use Rattle.i2c_code.specs.declared.Phase.{Phase}
use Rattle.i2c_code.specs.declared.Phase.TheVariants.{Idle, TxIdle, RxIdle}
use Rattle.i2c_code.specs.contracts.Phase.{the_type}
use Rattle.i2c_code.specs.declared.Code.{Code}
use Rattle.i2c_code.specs.Code.{state_of, idle_in, stop_alone, allowed, forbidden}

-- ---- the code's tests

follows_in : (p : Phase) (receive : Bool) → sameb the_type p (idle_in receive) ≡ eqb (state_of p) (cond receive 2 1)
follows_in Idle true = refl
follows_in TxIdle true = refl
follows_in RxIdle true = refl
follows_in Idle false = refl
follows_in TxIdle false = refl
follows_in RxIdle false = refl

not_idle : (p : Phase) → not (sameb the_type p Idle) ≡ ltb 0 (state_of p)
not_idle Idle = refl
not_idle TxIdle = refl
not_idle RxIdle = refl

module _ (p : Phase) (k : Code) where
  pub with_byte : (q : Phase) (follows : Bool) → k.byte ≡ true → q ≡ idle_in k.receive → follows ≡ sameb the_type p q
      → (not (k.receive && (k.ack && k.stop)) && (k.start || follows)) ≡ allowed p k
  unfolding allowed
  with_byte q follows b i e =
      taken k.byte _ _ _ b
      (ap (λ (x : Bool). not (k.receive && (k.ack && k.stop)) && (k.start || x)) (e ∙ ap (sameb the_type p) i ∙ follows_in p k.receive))

  pub without_byte : (busy : Bool) → k.byte ≡ false → busy ≡ not (sameb the_type p Idle) → (not k.start && (k.stop && busy)) ≡ allowed p k
  unfolding allowed
  without_byte busy b e = left k.byte _ _ _ b (ap (λ (x : Bool). not k.start && (k.stop && x)) (e ∙ not_idle p))

  pub stopped : (acknowledged received : Bool) → received ≡ sameb the_type p RxIdle → (acknowledged && (received && stop_alone k)) ≡ forbidden p acknowledged k
  unfolding forbidden
  stopped acknowledged received e = ap (λ (x : Bool). acknowledged && (x && stop_alone k)) (e ∙ follows_in p true)
