use Rattle.std.proofs.Common.{◌≡◌, map, min, take}
use Rattle.std.specs.Prelude.{fold}
use Rattle.engine.specs.Lines.{panel}
use Rattle.engine.specs.Panels.{settled_in, last_tick}
use Rattle.engine.proofs.lines.Lines.goal.Given as goal

abbrev pub invariant-loop-line : goal.invariant-loop-line
invariant-loop-line l = l.goal ≡ fold min last_tick (map (settled_in (panel l.self)) (take l.line-index l.line-items))
