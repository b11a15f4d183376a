use Rattle.std.proofs.Common.{◌≡◌, map}
use Rattle.std.specs.Prelude.{fold, take}
use Rattle.gates.specs.Functions.{combined}
use Rattle.engine.specs.Makings.{base}
use Rattle.engine.proofs.making.begin_value.Given as goal

abbrev pub invariant-loop-line : goal.invariant-loop-line
invariant-loop-line g l = g.V.ValueSystem.meaning l.fold ≡ fold (combined g.V.ValueSystem.system l.row.gate.kind) (g.V.ValueSystem.meaning l.initial.fold) (map (λ m. g.V.ValueSystem.meaning (base g.V.ValueSystem.START l.lines.stride l.store m)) (take l.line-index l.others))
