-- `stream::end` meets its contract. Assumes nothing.
use mathlib.Core.Path.{refl}
use mathlib.Core.Logic.{inr}
use Rattle.stream.proofs.Ways.{is_state_lem, ends, nothing}
use Rattle.stream.proofs.end.Goals as goal

pub load_end-requires : goal.load_end-requires
load_end-requires c = search is_state_lem

pub returns-then-is_state : goal.returns-then-is_state
returns-then-is_state c = ends _ _ c.is_state.ensures c.if-is_state.true c.shared_slice_known-1.given _ c.load_end.ensures

pub returns : goal.returns
returns c = inr (search nothing, refl)
