-- A stream as the code has it. Assumes nothing.
use Rattle.image_state.specs.How.{FitsState}
use Rattle.live_state.specs.How.{live_of, Good}
use Rattle.live_state.specs.declared.Stream.{Stream}

-- what holds of every stream that is started or reached: every register is in its range, too
pub record Ready (s : Stream) : Type 0 where
  pub good : Good s
  pub fits : FitsState (live_of s).state
