use Rattle.deck.specs.Tests.{long}
use Rattle.deck.proofs.Exits.{carried}
use Rattle.deck.proofs.Failing.{failed_one, failed_after}
use Rattle.deck.proofs.record.Record.output.Goals as goal

pub returns-in_err-length : goal.returns-in_err-length
returns-in_err-length c = carried c.from_residual.result _ _ _ c.from_residual.ensures.1 (failed_one _ _ (long _) _ _ c.in_err-length.ensures)

pub returns-in_err-line : goal.returns-in_err-line
returns-in_err-line c = carried c.from_residual-in_err-line.result _ _ _ c.from_residual-in_err-line.ensures.1 (failed_after _ _ (long _) _ _ c.in_ok-length.ensures c.in_err-line.ensures)
