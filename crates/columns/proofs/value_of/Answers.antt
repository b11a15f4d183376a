use Rattle.std.proofs.Common.{arith}
use Rattle.std.proofs.lemmas.Str.Parse.{digit_at}
use Rattle.columns.proofs.Folding.{folded_more, folded_within, folded_all}
use Rattle.columns.proofs.value_of.Goals as goal

pub returns-then-not-is_ascii_digit : goal.returns-then-not-is_ascii_digit
returns-then-not-is_ascii_digit c p =
    omega (arith, c.if-not-is_ascii_digit.ensures.cases, digit_at c.args.digits.now c.loop-digit.digit-index p.0 c.loop-digit-test.true)

pub returns-in_err-shifted : goal.returns-in_err-shifted
returns-in_err-shifted c =
    let within = folded_within c.args.digits.now c.loop-digit.digit-index c.loop-digit.total c.loop-digit-test.true c.if-not-is_ascii_digit.ensures.cases c.loop-digit.invariant in
    rw c.from_residual.ensures (λ p. c.in_err-shifted.ensures (omega (arith, p.1)))

pub returns-in_err-total : goal.returns-in_err-total
returns-in_err-total c =
    let within = folded_within c.args.digits.now c.loop-digit.digit-index c.loop-digit.total c.loop-digit-test.true c.if-not-is_ascii_digit.ensures.cases c.loop-digit.invariant in
    rw c.from_residual-in_err-total.ensures (λ p. c.in_err-total.ensures (omega (arith, p.1, c.in_ok-shifted.ensures.1, c.from.ensures)))

pub loop-digit-preserved : goal.loop-digit-preserved
loop-digit-preserved c =
    folded_more c.args.digits.now c.loop-digit.digit-index c.loop-digit.total c.loop-digit-test.true c.if-not-is_ascii_digit.ensures.cases c.loop-digit.invariant c.in_ok-total.total
    (omega (arith, c.in_ok-total.ensures.1, c.in_ok-shifted.ensures.1, c.from.ensures))
    (omega (arith, c.in_ok-total.ensures))

pub returns : goal.returns
returns c = folded_all c.args.digits.now c.loop-digit.digit-index c.loop-digit.total c.loop-digit-test.false c.loop-digit.invariant
