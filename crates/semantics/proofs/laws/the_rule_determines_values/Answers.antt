use Rattle.semantics.proofs.Proved.{rule_determines_values}
use Rattle.semantics.proofs.laws.the_rule_determines_values.Goals as goal

pub returns : goal.returns
returns g c = record { in_every_circuit = rule_determines_values g.V.ValueSystem.system }
