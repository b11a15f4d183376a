use Rattle.semantics.proofs.Proved.{runs_have_outcomes}
use Rattle.semantics.proofs.laws.runs_have_outcomes.Goals as goal

pub returns : goal.returns
returns g c = record { where_meanings_can_be_compared = λ compared circuit room wired. runs_have_outcomes g.V.ValueSystem.system circuit room wired compared }
