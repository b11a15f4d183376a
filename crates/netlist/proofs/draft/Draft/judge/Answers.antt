use Rattle.std.proofs.Common.{sym, refl}
use Rattle.netlist.specs.Judging.Judged.{free}
use Rattle.netlist.proofs.draft.Draft.judge.Goals as goal

pub returns-in-Some : goal.returns-in-Some
returns-in-Some c = free refl (sym c.if-not-is_complete.ensures) _ c.in-Some.ensures
