use Rattle.std.proofs.Common.{arith}
use Rattle.deck.specs.Tests.{number_tests}
use Rattle.deck.proofs.Exits.{carried}
use Rattle.deck.proofs.Failing.{failed_right, number_pass}
use Rattle.stimulus.proofs.record.place.Goals as goal

pub returns-in_err-tick : goal.returns-in_err-tick
returns-in_err-tick c =
    let line = c.in_ok-line.ensures in
    carried c.from_residual-in_err-tick.result _ _ _ c.from_residual-in_err-tick.ensures.1
    (failed_right _ _ (number_tests 2 4 1 c.args.lines) _ _ (number_pass _ 2 4 1 c.args.lines _ line.0 (omega arith, omega arith)) c.in_err-tick.ensures)
