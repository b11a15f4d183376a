use Rattle.columns.proofs.Folding.{Folded}
use Rattle.columns.proofs.value_of.Given as goal

abbrev pub invariant-loop-digit : goal.invariant-loop-digit
invariant-loop-digit l = Folded l.digits l.digit-index l.total
