use Rattle.semantics.proofs.Comparing.{equal_bits, equal_values, compared, lanes_compared}
use Rattle.semantics.proofs.laws.meanings_can_be_compared.Goals as goal

pub returns : goal.returns
returns c = record { in_two_values = compared equal_bits; in_three_values = compared equal_values; in_lanes = lanes_compared }
