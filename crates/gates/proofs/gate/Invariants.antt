use Rattle.std.proofs.Common.{◌≡◌, map}
use Rattle.std.specs.Prelude.{fold, take}
use Rattle.gates.specs.Functions.{combined}
use Rattle.gates.proofs.gate.Given as goal

abbrev pub invariant-loop-next : goal.invariant-loop-next
invariant-loop-next g l = g.V.ValueSystem.meaning l.fold ≡ fold (combined g.V.ValueSystem.system l.kind) (g.V.ValueSystem.meaning l.initial.fold) (map g.V.ValueSystem.meaning (take l.next-index l.rest))
