use Rattle.std.proofs.Common.{arith, ◌∙◌, sym}
use Rattle.image_state.proofs.Passing.{bytes_taken}
use Rattle.image.proofs.load.Goals as goal
use Rattle.image.proofs.Whole.{first_room, all_room, load_done}

pub le64-head-requires : goal.le64-head-requires
le64-head-requires c = search first_room

pub slice_bounds-copy_from_slice-end-2 : goal.slice_bounds-copy_from_slice-end-2
slice_bounds-copy_from_slice-end-2 c = omega (arith, all_room c.args.s.now c.requires)

pub load_flat-requires : goal.load_flat-requires
load_flat-requires c = search all_room

pub returns : goal.returns
returns c =
    let s = c.args.s.now in
    let carried = c.copy_from_slice.ensures.after ∙ sym (bytes_taken s 16 16 (omega (arith, all_room s c.requires))) in
    load_done s _ _ _ _ _ (λ i. omega (arith, c.type_inv.s i)) c.requires c.le64-head.ensures c.load_flat.ensures carried c.le64.ensures c.refusal_of.ensures
