use Rattle.semantics.proofs.Proved.{rest_is_where_no_gate_can_be_taken}
use Rattle.semantics.proofs.laws.rest_is_where_no_gate_can_be_taken.Goals as goal

pub returns : goal.returns
returns g c = record { where_meanings_can_be_compared = λ told circuit room wired. rest_is_where_no_gate_can_be_taken g.V.ValueSystem.system circuit room wired told }
