use Rattle.semantics.proofs.Proved.{settled_times_are_bounded}
use Rattle.semantics.proofs.laws.settled_times_are_bounded.Goals as goal

pub returns : goal.returns
returns g c = record { in_every_log = settled_times_are_bounded g.V.ValueSystem.system }
