use Rattle.semantics.proofs.Proved.{takes_are_bounded}
use Rattle.semantics.proofs.laws.takes_are_bounded.Goals as goal

pub returns : goal.returns
returns g c = record { in_every_log = takes_are_bounded g.V.ValueSystem.system }
