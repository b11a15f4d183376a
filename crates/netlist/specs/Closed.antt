-- A closed netlist as its reader sees it.
use Rattle.std.specs.Prelude.{◌≡◌, ℕ, suc, ◌+◌, ◌-◌, ◌<◌, ◌≤◌, take, cond, nat_lt, Bool, true, false, ◌⊎◌, List, length, count_by, Some, None, Option, slice_index, slice_index_or}
use Rattle.netlist.specs.declared.closed.Netlist.{Netlist}
use Rattle.netlist.specs.declared.progress.Progress.{Progress}
use Rattle.netlist.specs.GateRow.{MarkedGate, at_start, empty}
use Rattle.netlist.specs.Gates.{Circuit}
use Rattle.netlist.specs.Rows.{circuit_of}
use Rattle.netlist.specs.Walks.{no_gate, Looped}

abbrev pub circuit : Netlist → Circuit
circuit n = circuit_of n.size n.rows n.ends

-- how far a gate's line has come; other lines count as not moved
abbrev pub progress_of : Netlist → ℕ → Progress
progress_of n line = cond (nat_lt n.size.inputs line) (slice_index_or (take n.size.gates n.rows) (line - suc n.size.inputs) empty).progress at_start

-- the row of the gate that drives a line, with its looped mark
pub record Drives (c : Circuit) (n : ℕ) (row : MarkedGate) : Type 0 where
  pub place : ℕ
  pub within : place < length c.gates
  pub line : n ≡ c.inputs + 1 + place
  pub its_gate : slice_index_or c.gates place no_gate ≡ row.gate
  pub marked_looped : row.looped ≡ true → ∥ Looped c n ∥₁
  pub looped_marked : Looped c n → row.looped ≡ true

-- there is no row for an input, or past the last line
abbrev pub Row : Circuit → ℕ → Option MarkedGate → Type 0
Row c n None = (n ≤ c.inputs) ⊎ (c.inputs + length c.gates < n)
Row c n (Some row) = Drives c n row

abbrev pub Output : Circuit → ℕ → Option ℕ → Type 0
Output c k None = length c.outputs ≤ k
Output c k (Some n) = (k < length c.outputs) × (slice_index c.outputs k ≡ n)

-- so many of the circuit's gates drive looped lines
pub record LoopCount (c : Circuit) (count : ℕ) : Type 0 where
  pub marks : List Bool
  pub one_each : length marks ≡ length c.gates
  pub marked_looped : (k : ℕ) → k < length c.gates → slice_index_or marks k false ≡ true → ∥ Looped c (c.inputs + 1 + k) ∥₁
  pub looped_marked : (k : ℕ) → k < length c.gates → Looped c (c.inputs + 1 + k) → slice_index_or marks k false ≡ true
  pub count_is : count ≡ count_by (λ mark. mark) marks
