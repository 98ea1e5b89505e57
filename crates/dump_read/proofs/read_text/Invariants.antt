-- The lines before the byte i are told. Assumes nothing.
use Rattle.dump_read.proofs.Texts.{Reading}
use Rattle.dump_read.proofs.read_text.Given as goal

abbrev pub invariant-loop-i : goal.invariant-loop-i
invariant-loop-i l = Reading l.text l.fn.out l.out l.s l.start l.i
