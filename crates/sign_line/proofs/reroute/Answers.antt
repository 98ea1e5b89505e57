-- `sign_line::reroute` meets its contract. Assumes nothing.
use Rattle.std.proofs.Common.{◌∙◌, arith}
use Rattle.sign_line.proofs.Laws.{rerouted_none, rerouted_ended, rerouted_still, rerouted_apart}
use Rattle.sign_line.proofs.reroute.Goals as goal
use Rattle.sign_line.proofs.reroute.Goals.{then-e-bank+then-not-encoder_routed, else-e-bank, else-e-bank-via-then-e-bank+else-not-encoder_routed, else-e-bank-via-else-e-bank}

pub loop-e-init : goal.loop-e-init
loop-e-init c = (omega arith, search rerouted_none)

pub loop-e-preserved : goal.loop-e-preserved
loop-e-preserved c =
    elim c.if-e-bank.branch [
      | then-e-bank+then-not-encoder_routed w ↦ (omega arith, w.lines-is ∙ search rerouted_ended)
      | else-e-bank w ↦ (
        omega arith,
        w.lines-is ∙ elim w.else-e-bank.branch [
          | else-e-bank-via-then-e-bank+else-not-encoder_routed v ↦ search rerouted_still
          | else-e-bank-via-else-e-bank v ↦ search rerouted_apart
        ],
      )
    ]
