use Rattle.semantics.specs.Circuits.{lines}
use Rattle.engine.specs.Lines.{panel}
use Rattle.engine.proofs.Parts.{ends_within}
use Rattle.engine.proofs.lines.Lines.place.Goals as goal

pub returns-clause-ends : goal.returns-clause-ends
returns-clause-ends c = let l = c.args.self.now in ends_within l.stride (lines (panel l).circuit) c.args.line c.requires.a_line.0 c.requires.a_line.1
