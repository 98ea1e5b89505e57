-- `shrink_rule::forget` meets its contract. Assumes nothing.
use Rattle.std.proofs.Common.{arith, sym, ◌∙◌}
use Rattle.laws.proofs.Each.{front_none}
use Rattle.shrink_rule.proofs.Rules.{forgets, forget_more, forget_passed, forget_all}
use Rattle.shrink_rule.proofs.forget.Goals as goal
use Rattle.shrink_rule.proofs.forget.Goals.{then-e-bank, else-e-bank}

pub loop-e-init : goal.loop-e-init
loop-e-init c = (omega arith, sym (front_none (forgets c.args.bank) c.args.last.now))

pub loop-e-preserved : goal.loop-e-preserved
loop-e-preserved c =
    elim c.if-e-bank.branch [
      | then-e-bank w ↦ (omega arith, w.last-is ∙ search forget_more)
      | else-e-bank w ↦ (omega arith, w.last-is ∙ search forget_passed)
    ]

pub returns : goal.returns
returns c = search forget_all
