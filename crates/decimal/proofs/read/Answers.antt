use Rattle.std.proofs.Common.{arith, refl, ◌∙◌, ◌+◌, ◌*◌, ◌<◌, ◌≤◌, ◌^◌, length, false-eqb}
use Rattle.decimal.proofs.Digits.{start, ends_here, over, next, done}
use Rattle.decimal.proofs.read.Goals as goal

pub loop-b-init : goal.loop-b-init
loop-b-init c = let h : 0 < length c.args.text.now = omega (arith, false-eqb) in (omega arith, start _ h)

pub returns-in_err-digit : goal.returns-in_err-digit
returns-in_err-digit c = c.from_residual.ensures ∙ ends_here _ _ _ _ c.loop-b.invariant.1 c.loop-b-test.true refl (c.in_err-digit.ensures)

pub returns-in_err-checked_mul : goal.returns-in_err-checked_mul
returns-in_err-checked_mul c =
    let d = c.in_ok-digit.ensures in
    let h : 2 ^ 64 ≤ 10 * c.loop-b.value + c.in_ok-digit.digit = omega (arith, c.in_err-checked_mul.ensures) in
    c.from_residual-in_err-checked_mul.ensures ∙ over _ _ _ _ c.loop-b.invariant.1 c.loop-b-test.true refl _ d.1 h

pub returns-in_err-value : goal.returns-in_err-value
returns-in_err-value c =
    let d = c.in_ok-digit.ensures in
    let h : 2 ^ 64 ≤ 10 * c.loop-b.value + c.in_ok-digit.digit = omega (arith, c.in_err-value.ensures, c.in_ok-checked_mul.ensures) in
    c.from_residual-in_err-value.ensures ∙ over _ _ _ _ c.loop-b.invariant.1 c.loop-b-test.true refl _ d.1 h

pub loop-b-preserved : goal.loop-b-preserved
loop-b-preserved c =
    let d = c.in_ok-digit.ensures in
    (omega (arith, c.in_ok-value.ensures), next _ _ _ _ c.loop-b.invariant.1 c.loop-b-test.true refl _ _ d.0 d.1 (omega (arith, c.in_ok-value.ensures, c.in_ok-checked_mul.ensures)))

pub returns : goal.returns
returns c = done _ _ _ c.loop-b.invariant.1 c.loop-b-test.false c.loop-b.invariant.0
