use Rattle.semantics.proofs.Proved.{settled_is_the_distance}
use Rattle.semantics.proofs.laws.settled_is_the_distance.Goals as goal

pub returns : goal.returns
returns g c = record { at_every_rest = settled_is_the_distance g.V.ValueSystem.system }
