use Rattle.write_print.proofs.Prints.{log_printed}
use Rattle.write_print.proofs.write_edition.Goals as goal

pub returns : goal.returns
returns c = search log_printed
