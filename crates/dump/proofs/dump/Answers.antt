-- A log that is refused, and one that replays. Assumes nothing.
use Rattle.std.proofs.Common.{arith}
use Rattle.std.proofs.lemmas.Result.{err_from_is_err_and}
use Rattle.made.proofs.Makes.{refused_answer, refused_output}
use Rattle.dump.proofs.Whole.{within, small, is_ready, found_answer, found_output}
use Rattle.dump.proofs.dump.Goals as goal

pub returns-in_err-trailer-clause-value : goal.returns-in_err-trailer-clause-value
returns-in_err-trailer-clause-value c =
    let p = err_from_is_err_and c.from_residual.result c.from_residual.ensures.1 in
    rw (p.1, p.2) (refused_answer _ _ c.source_of.ensures _ c.in_err-trailer.was _ _)

pub returns-in_err-trailer-clause-out_after : goal.returns-in_err-trailer-clause-out_after
returns-in_err-trailer-clause-out_after c = refused_output _ _ c.source_of.ensures _ c.in_err-trailer.was _ _

pub returns-clause-value : goal.returns-clause-value
returns-clause-value c = found_answer _ _ c.source_of.ensures _ c.in_ok-trailer.was _ _ c.write_all.ensures.value

pub returns-clause-out_after : goal.returns-clause-out_after
returns-clause-out_after c = found_output _ _ c.source_of.ensures _ c.in_ok-trailer.was _ _ c.write_all.ensures.out_after

pub write_all-requires : goal.write_all-requires
write_all-requires c = is_ready _ _ c.source_of.ensures _ c.in_ok-trailer.was

pub overflow_mul-end : goal.overflow_mul-end
overflow_mul-end c = record { fits = omega (arith, small _ _ c.source_of.ensures _ c.in_ok-trailer.was) }

pub overflow_add-end : goal.overflow_add-end
overflow_add-end c = record { fits = omega (arith, small _ _ c.source_of.ensures _ c.in_ok-trailer.was) }

pub slice_bounds-write_all-end : goal.slice_bounds-write_all-end
slice_bounds-write_all-end c = omega (arith, within _ _ c.source_of.ensures _ c.in_ok-trailer.was)
