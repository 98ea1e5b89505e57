use Rattle.dump_print.proofs.Prints.{dump_printed}
use Rattle.dump_print.proofs.dump_log.Goals as goal

pub returns : goal.returns
returns c = search dump_printed
