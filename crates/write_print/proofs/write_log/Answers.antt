-- `write_print::write_log` meets its contract. Assumes nothing.
use Rattle.write_print.proofs.Prints.{no_number_printed, number_printed}
use Rattle.write_print.proofs.write_log.Goals as goal

pub returns-in_default : goal.returns-in_default
returns-in_default c = search no_number_printed

pub returns : goal.returns
returns c = search number_printed
