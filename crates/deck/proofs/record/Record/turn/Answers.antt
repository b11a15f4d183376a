use Rattle.std.proofs.Common.{ap, lit≤}
use Rattle.deck.specs.Faults.{told}
use Rattle.deck.specs.Records.{whole}
use Rattle.deck.specs.Tests.{figure, turn}
use Rattle.deck.proofs.Exits.{carried}
use Rattle.deck.proofs.Failing.{failed_one, failed_after}
use Rattle.deck.proofs.Numbers.{shows_one}
use Rattle.deck.proofs.record.Record.turn.Goals as goal

pub returns-in_err-number : goal.returns-in_err-number
returns-in_err-number c =
    carried c.from_residual.result _ _ _ c.from_residual.ensures.1 (failed_one _ _ (figure 2 4) _ _ c.in_err-number.ensures)

pub returns-then-number-line : goal.returns-then-number-line
returns-then-number-line c =
    let n = c.in_ok-number.number in
    let shown = c.in_ok-number.ensures in
    failed_after _ _ (figure 2 4) _ _ (n, shown)
    (failed_one _ _ (turn 2 4 c.args.line) _ _ (record {
      fails = λ p. c.if-number-line.true (shows_one (whole c.args.self.now) 2 4 n c.args.line (lit≤ tt) shown p);
      is = ap told c.fault.ensures;
    }))
