-- What is said of a panel of lines at work; it serves the contracts of the engine's own functions.
use Rattle.std.specs.Prelude.{ℕ, ◌+◌, ◌<◌, ◌≤◌, cond, nat_lt}
use Rattle.netlist.specs.declared.progress.Progress.{Progress}
use Rattle.semantics.specs.Circuits.{lines, gate_of_line}
use Rattle.semantics.specs.Moves.{put}
use Rattle.engine.specs.Lines.{Panel}

-- there is such a line
abbrev pub IsLineOf : Panel → ℕ → Type 0
IsLineOf p n = (0 < n) × (n ≤ lines p.circuit)

-- one line has come further
abbrev pub moved : Panel → ℕ → Progress → Panel
moved p n x = record p { progress = put p.progress n x }

-- how far a line is settled: an input up to its end, a gate line up to its front plus its delay
abbrev pub settled_in : Panel → ℕ → ℕ
settled_in p n = (p.progress n).tick + cond (nat_lt p.circuit.inputs n) (gate_of_line p.circuit n).delay 0

-- the greatest tick that can be told
abbrev pub last_tick : ℕ
last_tick = 4294967295
