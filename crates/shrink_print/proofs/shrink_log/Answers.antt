use Rattle.shrink_print.proofs.Prints.{shrink_printed}
use Rattle.shrink_print.proofs.shrink_log.Goals as goal

pub returns : goal.returns
returns c = search shrink_printed
