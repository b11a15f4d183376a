use Rattle.semantics.proofs.Proved.{runs_come_to_rest}
use Rattle.semantics.proofs.laws.runs_come_to_rest.Goals as goal

pub returns : goal.returns
returns g c = record { where_meanings_can_be_compared = λ compared circuit room wired. runs_come_to_rest g.V.ValueSystem.system circuit room wired compared }
