-- `stream::chunk` meets its contract. Assumes nothing.
use mathlib.Core.Path.{refl}
use mathlib.Core.Logic.{inr}
use Rattle.stream.proofs.Ways.{is_state_lem, has_size, saves, tells, keeps, output, nothing}
use Rattle.stream.proofs.chunk.Goals as goal

pub load-requires : goal.load-requires
load-requires c = search is_state_lem

pub save-requires-clause-size_in_bounds : goal.save-requires-clause-size_in_bounds
save-requires-clause-size_in_bounds c = search has_size

pub save-requires-clause-saves : goal.save-requires-clause-saves
save-requires-clause-saves c = search (saves, c.slice_known-1.given, c.shared_slice_known-1.given)

pub returns-clause-on : goal.returns-clause-on
returns-clause-on c = inr (search nothing, refl)

pub returns-clause-on_2 : goal.returns-clause-on_2
returns-clause-on_2 c = inr (search nothing, refl)

pub returns-clause-on_3 : goal.returns-clause-on_3
returns-clause-on_3 c = inr (search nothing, refl)

pub returns-then-is_state-clause-on : goal.returns-then-is_state-clause-on
returns-then-is_state-clause-on c =
    tells _ _ c.is_state.ensures c.if-is_state.true c.slice_known-1.given _ c.load.ensures _ c.shared_slice_known-1.given _ _ c.chunk-c.ensures.comes

pub returns-then-is_state-clause-on_2 : goal.returns-then-is_state-clause-on_2
returns-then-is_state-clause-on_2 c =
    keeps _ _ c.is_state.ensures c.if-is_state.true c.slice_known-1.given _ c.load.ensures _ c.shared_slice_known-1.given _ _ c.chunk-c.ensures.comes _ c.save.ensures

pub returns-then-is_state-clause-on_3 : goal.returns-then-is_state-clause-on_3
returns-then-is_state-clause-on_3 c =
    output _ _ c.is_state.ensures c.if-is_state.true c.slice_known-1.given _ c.load.ensures _ _ _ c.chunk-c.ensures.out_after
