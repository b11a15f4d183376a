use Rattle.semantics.proofs.Proved.{gates_rest_or_can_be_taken}
use Rattle.semantics.proofs.laws.gates_rest_or_can_be_taken.Goals as goal

pub returns : goal.returns
returns g c = record { in_every_log = gates_rest_or_can_be_taken g.V.ValueSystem.system }
