-- A text that is no dump, a dump with no room for its entries, and one that is read. Assumes nothing.
use Rattle.dump_read.proofs.Texts.{bad_answer, small_answer, whole_answer}
use Rattle.dump_read.proofs.dump_read.Goals as goal

pub returns-then-not-whole-clause-answer : goal.returns-then-not-whole-clause-answer
returns-then-not-whole-clause-answer c = search bad_answer

pub returns-then-out-s-clause-answer : goal.returns-then-out-s-clause-answer
returns-then-out-s-clause-answer c = search small_answer

pub returns-clause-answer : goal.returns-clause-answer
returns-clause-answer c = search whole_answer
