use Rattle.image.proofs.load_end.Goals as goal
use Rattle.image.proofs.Whole.{first_room, ends_refused, ends_empty, ends_over}

pub le64-head-requires : goal.le64-head-requires
le64-head-requires c = search first_room

pub returns-in-Some : goal.returns-in-Some
returns-in-Some c = ends_refused c.args.s.now _ _ c.requires c.le64-head.ensures c.refusal_of.ensures _ c.in-Some.is

pub returns-in-None : goal.returns-in-None
returns-in-None c = ends_empty c.args.s.now _ _ c.requires c.le64-head.ensures c.refusal_of.ensures c.in-None.is c.if-head-eq0.true

pub returns-in-None-2 : goal.returns-in-None-2
returns-in-None-2 c = ends_over c.args.s.now _ _ c.requires c.le64-head.ensures c.refusal_of.ensures c.in-None.is c.if-head-eq0.false
