use Rattle.std.proofs.Common.{arith}
use Rattle.deck.specs.Tests.{long, number_tests}
use Rattle.deck.proofs.Exits.{carried}
use Rattle.deck.proofs.Failing.{failed_one, failed_after, failed_left, failed_right, number_pass}
use Rattle.deck.proofs.record.Record.header.Goals as goal

pub returns-in_err-length : goal.returns-in_err-length
returns-in_err-length c = carried c.from_residual.result _ _ _ c.from_residual.ensures.1 (failed_one _ _ (long _) _ _ c.in_err-length.ensures)

pub returns-in_err-inputs : goal.returns-in_err-inputs
returns-in_err-inputs c =
    carried c.from_residual-in_err-inputs.result _ _ _ c.from_residual-in_err-inputs.ensures.1
    (failed_after _ _ (long _) _ _ c.in_ok-length.ensures (failed_left _ _ (number_tests 2 4 1 256) _ _ c.in_err-inputs.ensures))

pub returns-in_err-gates : goal.returns-in_err-gates
returns-in_err-gates c =
    let inputs = c.in_ok-inputs.ensures in
    carried c.from_residual-in_err-gates.result _ _ _ c.from_residual-in_err-gates.ensures.1
    (failed_after _ _ (long _) _ _ c.in_ok-length.ensures (failed_right _ _ (number_tests 2 4 1 256) _ _ (number_pass _ 2 4 1 256 _ inputs.0 (omega arith, omega arith)) (failed_left _ _ (number_tests 6 4 1 768) _ _ c.in_err-gates.ensures)))

pub returns-in_err-outputs : goal.returns-in_err-outputs
returns-in_err-outputs c =
    let inputs = c.in_ok-inputs.ensures in
    let gates = c.in_ok-gates.ensures in
    carried c.from_residual-in_err-outputs.result _ _ _ c.from_residual-in_err-outputs.ensures.1
    (failed_after _ _ (long _) _ _ c.in_ok-length.ensures (failed_right _ _ (number_tests 2 4 1 256) _ _ (number_pass _ 2 4 1 256 _ inputs.0 (omega arith, omega arith)) (failed_right _ _ (number_tests 6 4 1 768) _ _ (number_pass _ 6 4 1 768 _ gates.0 (omega arith, omega arith)) c.in_err-outputs.ensures)))
