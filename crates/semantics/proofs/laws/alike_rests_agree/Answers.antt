use Rattle.semantics.proofs.Proved.{alike_rests_agree}
use Rattle.semantics.proofs.laws.alike_rests_agree.Goals as goal

pub returns : goal.returns
returns g c = record { whatever_the_order = alike_rests_agree g.V.ValueSystem.system }
