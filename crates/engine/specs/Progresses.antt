-- How far the lines of a netlist have come.
use Rattle.std.specs.Prelude.{ℕ, zero, suc, ◌<◌, ◌≤◌, cond, nat_lt, List, slice_index_or}
use Rattle.netlist.specs.declared.closed.Netlist.{Netlist}
use Rattle.netlist.specs.declared.progress.Progress.{Progress}
use Rattle.netlist.specs.Closed.{circuit, progress_of}
use Rattle.netlist.specs.GateRow.{at_start}
use Rattle.semantics.specs.Circuits.{lines}

-- a netlist's rows tell it of the gates, and a list of the inputs
abbrev pub progress_in : Netlist → List Progress → ℕ → Progress
progress_in netlist inputs zero = at_start
progress_in netlist inputs (suc k) = cond (nat_lt k (circuit netlist).inputs) (slice_index_or inputs k at_start) (progress_of netlist (suc k))

-- of every line fewer changes are kept than it has records
abbrev pub KeptFit : Netlist → List Progress → ℕ → Type 0
KeptFit netlist inputs stride = (n : ℕ) → 0 < n → n ≤ lines (circuit netlist) → (progress_in netlist inputs n).kept < stride
