-- `form::put_form`: what the bytes passed make stands in the text.
use Rattle.form.proofs.Forms.{Forming}
use Rattle.form.proofs.put_form.Given as goal

abbrev pub invariant-loop-b : goal.invariant-loop-b
invariant-loop-b l = Forming l.fn.text l.form l.numbers l.text l.k l.b-index
