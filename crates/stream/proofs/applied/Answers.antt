use mathlib.Core.Path.{refl}
use mathlib.Core.Logic.{inr}
use Rattle.stream.proofs.Ways.{long, applied_told, nothing}
use Rattle.stream.proofs.applied.Goals as goal

pub le64-requires : goal.le64-requires
le64-requires c = search (long, c.is_state.ensures, c.if-is_state.true)

pub returns-then-is_state : goal.returns-then-is_state
returns-then-is_state c = applied_told c.args.state.now _ c.is_state.ensures c.if-is_state.true c.type_inv.state _ c.le64.ensures

pub returns : goal.returns
returns c = inr (search nothing, refl)
