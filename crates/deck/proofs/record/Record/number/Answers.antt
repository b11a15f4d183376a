use Rattle.std.proofs.Common.{◌≤◌, ap, arith}
use Rattle.std.proofs.lemmas.Grind.{common_steps}
use Rattle.deck.specs.Faults.{told}
use Rattle.deck.specs.Records.{whole}
use Rattle.deck.specs.Tests.{figure, range}
use Rattle.deck.proofs.Exits.{carried}
use Rattle.deck.proofs.Failing.{failed_one, failed_after}
use Rattle.deck.proofs.Numbers.{shows_one}
use Rattle.deck.proofs.record.Record.number.Goals as goal

pub returns-in_err-number : goal.returns-in_err-number
returns-in_err-number c =
    carried c.from_residual.result _ _ _ c.from_residual.ensures.1
    (failed_one _ _ (figure c.args.span.first c.args.span.width) _ _ c.in_err-number.ensures)

pub returns-else-contains : goal.returns-else-contains
returns-else-contains c =
    let span = c.args.span in
    let n = c.in_ok-number.number in
    let shown = c.in_ok-number.ensures in
    let out : c.args.least ≤ n → n ≤ c.args.most → ⊥ = λ low high. grind (arith, common_steps) in
    failed_after _ _ (figure span.first span.width) _ _ (n, shown)
    (failed_one _ _ (range span.first span.width c.args.least c.args.most) _ _ (record {
      fails = λ p. let same = shows_one (whole c.args.self.now) span.first span.width n p.0 span.narrow shown p.1 in out (omega arith) (omega arith);
      is = ap told c.fault.ensures;
    }))
