use Rattle.values.specs.Relations.{Tied}
use Rattle.semantics.proofs.Proved.{ties_lines}
use Rattle.semantics.proofs.ties.kept_relations_tie_lines.Goals as goal

pub returns-clause-ties_lines : goal.returns-clause-ties_lines
returns-clause-ties_lines g c circuit room other wired =
    ties_lines g.V.ValueSystem.system g.W.ValueSystem.system circuit room other wired (Tied g.V.ValueSystem.meaning g.W.ValueSystem.meaning (g.R.Relation.Ties c.args.relation.now)) c.ties.ensures.is_kept
