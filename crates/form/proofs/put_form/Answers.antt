use Rattle.std.proofs.Common.{◌≡◌, ◌∙◌, arith, get_or}
use Rattle.form.proofs.Forms.{begins, next, all_formed}
use Rattle.form.proofs.put_form.Goals as goal

pub loop-b-init : goal.loop-b-init
loop-b-init c = begins _ _ _

pub loop-b-preserved : goal.loop-b-preserved
loop-b-preserved c =
    let n : c.unwrap_or-n.result ≡ get_or c.args.numbers.now c.loop-b.k 0 = c.unwrap_or-n.ensures ∙ rw c.copied.ensures (c.get.ensures.lookup.4 (omega arith) 0) in
    search next

pub returns : goal.returns
returns c = search all_formed
