use Rattle.semantics.proofs.Proved.{settled_values_stay}
use Rattle.semantics.proofs.laws.settled_values_stay.Goals as goal

pub returns : goal.returns
returns g c = record { whatever_is_called = settled_values_stay g.V.ValueSystem.system }
