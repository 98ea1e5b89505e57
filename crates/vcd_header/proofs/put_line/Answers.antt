-- A wire's line. Assumes nothing.
use Rattle.vcd_header.proofs.Wires.{var_put, unknown_put}
use Rattle.vcd_header.proofs.put_line.Goals as goal

pub returns-in-Var : goal.returns-in-Var
returns-in-Var c = rw c.in-Var.is (search var_put)

pub returns-in-Unknown : goal.returns-in-Unknown
returns-in-Unknown c = rw c.in-Unknown.is (search unknown_put)
