use Rattle.semantics.proofs.Proved.{calls_are_determined}
use Rattle.semantics.proofs.laws.calls_are_determined.Goals as goal

pub returns : goal.returns
returns g c = record { from_every_account = calls_are_determined g.V.ValueSystem.system }
