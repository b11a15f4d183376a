use Rattle.semantics.proofs.Proved.{kept_changes_fit}
use Rattle.semantics.proofs.laws.kept_changes_fit.Goals as goal

pub returns : goal.returns
returns g c = record { in_every_log = kept_changes_fit g.V.ValueSystem.system }
