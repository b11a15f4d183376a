-- Which gates and circuits stand in tables.
use Rattle.std.specs.Prelude.{ℕ, ◌≤◌, List, map, take}
use Rattle.netlist.specs.declared.size.Size.{Size}
use Rattle.netlist.specs.GateRow.{MarkedGate}
use Rattle.netlist.specs.Gates.{Gate, Circuit}

abbrev pub gate_of : MarkedGate → Gate
gate_of row = row.gate

-- the gates of the first rows
abbrev pub gates_of : ℕ → List MarkedGate → List Gate
gates_of n rows = map gate_of (take n rows)

-- the circuit of so many inputs, gates and outputs that stand in tables
abbrev pub circuit_of : Size → List MarkedGate → List ℕ → Circuit
circuit_of size rows ends = record { inputs = size.inputs; gates = gates_of size.gates rows; outputs = take size.outputs ends }

-- the tables have a place for so many
pub record HasPlaces (size : Size) : Type 0 where
  pub few_inputs : size.inputs ≤ 256
  pub few_gates : size.gates ≤ 768
  pub few_outputs : size.outputs ≤ 256
