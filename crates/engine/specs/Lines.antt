-- The lines of a session, as their reader sees them.
use Rattle.std.specs.Prelude.{ℕ, ◌-◌, ◌*◌, ◌≤◌, List, length}
use Rattle.netlist.specs.declared.progress.Progress.{Progress}
use Rattle.netlist.specs.Closed.{circuit}
use Rattle.netlist.specs.Gates.{Circuit}
use Rattle.semantics.specs.Circuits.{lines}
use Rattle.engine.specs.declared.lines.Lines.{Lines}
use Rattle.engine.specs.Progresses.{progress_in}

-- the circuit, how many records each line has, the tick from which on changes are kept, and how far each line has come
pub record Panel : Type 0 where
  pub circuit : Circuit
  pub stride : ℕ
  pub trim : ℕ
  pub progress : ℕ → Progress

-- what is seen of lines as they are kept
abbrev pub panel : Lines → Panel
panel l = record { circuit = circuit l.netlist; stride = l.stride; trim = l.trim; progress = progress_in l.netlist l.inputs }

-- how many changes of each line are kept at most; one record more holds the base
abbrev pub room : Panel → ℕ
room p = p.stride - 1

-- how many records the lines have together
abbrev pub extent : Panel → ℕ
extent p = lines p.circuit * p.stride

-- a store has records for all lines
abbrev pub Holds : {X : Type 0} → Panel → List X → Type 0
Holds p store = extent p ≤ length store
