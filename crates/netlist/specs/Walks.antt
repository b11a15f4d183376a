-- Walks through gates: which lines lead to which.
use Rattle.std.specs.Prelude.{◌≡◌, ℕ, suc, ◌-◌, ◌<◌, ◌≤◌, cond, List, [], length, nat_lt, slice_index_or}
use Rattle.netlist.specs.declared.kind.Kind.{Kind}
use Rattle.netlist.specs.Gates.{Gate, Circuit}

-- a gate that reads nothing
abbrev pub no_gate : Gate
no_gate = record { kind = Kind.Buf; delay = 0; reads = [] }

-- the lines that drive line n through its gate; none where n is an input or no line
abbrev pub reads : Circuit → ℕ → List ℕ
reads c n = cond (nat_lt c.inputs n) (slice_index_or c.gates (n - suc c.inputs) no_gate).reads []

-- the gate of line n reads line m
pub record Reads (c : Circuit) (n m : ℕ) : Type 0 where
  pub place : ℕ
  pub within : place < length (reads c n)
  pub is : slice_index_or (reads c n) place 0 ≡ m

-- a walk through one or more gates leads from the first line to the second
pub data Walk (c : Circuit) : ℕ → ℕ → Type 0 where
  step : {m n : ℕ} → Reads c n m → Walk c m n
  on : {m j n : ℕ} → Reads c j m → Walk c j n → Walk c m n

-- a line from the first to the last of a range leads to line n
pub record Leads (c : Circuit) (first last n : ℕ) : Type 0 where
  pub from : ℕ
  pub not_before : first ≤ from
  pub not_after : from ≤ last
  pub walk : Walk c from n

-- an input leads to line n
abbrev pub Reached : Circuit → ℕ → Type 0
Reached c n = Leads c 1 c.inputs n

-- a walk through gates leads from line n back to itself
abbrev pub Looped : Circuit → ℕ → Type 0
Looped c n = Walk c n n
