use Rattle.semantics.proofs.Proved.{logs_are_in_order}
use Rattle.semantics.proofs.laws.logs_are_in_order.Goals as goal

pub returns : goal.returns
returns g c = record { in_every_log = logs_are_in_order g.V.ValueSystem.system }
