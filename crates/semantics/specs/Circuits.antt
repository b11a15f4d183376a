-- Circuits: which lines they have, what drives them, and when they are wired.
use Rattle.std.specs.Prelude.{◌≡◌, ℕ, zero, suc, ◌+◌, ◌-◌, true, cond, length, nat_lt, slice_index_or}
use Rattle.std.specs.List.{list_all}
use Rattle.netlist.specs.Gates.{Gate, Circuit, legal}
use Rattle.netlist.specs.Walks.{no_gate, reads}
use Rattle.semantics.specs.Machines.{Driver, Topology}
use Rattle.semantics.specs.Machines.Driver.{undriven, input, gate}

abbrev pub lines : Circuit → ℕ
lines c = c.inputs + length c.gates

abbrev pub gate_of_line : Circuit → ℕ → Gate
gate_of_line c n = slice_index_or c.gates (n - suc c.inputs) no_gate

-- lines are numbered from 1: first the inputs, then the gates
abbrev pub driver : Circuit → ℕ → Driver
driver c zero = undriven
driver c (suc k) = cond (nat_lt k c.inputs) input (cond (nat_lt k (lines c)) gate undriven)

-- a gate's lag is its delay
abbrev pub topology : Circuit → Topology
topology c = record { driver = driver c; lag = λ n. (gate_of_line c n).delay; reads = reads c }

-- every gate has a delay of 1 to 65,535, as many lines to read as its kind takes, and reads lines of the circuit
abbrev pub Wired : Circuit → Type 0
Wired c = list_all (legal (lines c)) c.gates ≡ true
