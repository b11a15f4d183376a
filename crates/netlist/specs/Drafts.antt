-- A draft as its reader sees it, and what opening and additions answer.
use Rattle.std.specs.Prelude.{◌≡◌, ℕ, ◌+◌, Bool, cond, ◌&&◌, List, [], ◌∷◌, ◌++◌, length, replicate, ◌==◌, nat_lt}
use Rattle.std.specs.Int.{is_in_range}
use Rattle.netlist.specs.declared.draft.Draft.{Draft}
use Rattle.netlist.specs.GateRow.{empty}
use Rattle.netlist.specs.Gates.{Gate, Circuit, nothing, fits, delay_fits, on_lines}
use Rattle.netlist.specs.Rows.{circuit_of}

-- how many gates and outputs a draft was opened for, and what stands in it so far
pub record Sheet : Type 0 where
  pub gates : ℕ
  pub outputs : ℕ
  pub circuit : Circuit

abbrev pub sheet : Draft → Sheet
sheet d = record {
  gates = d.size.gates;
  outputs = d.size.outputs;
  circuit = circuit_of (record { inputs = d.size.inputs; gates = d.drawn; outputs = d.named }) d.rows d.ends;
}

-- 1 to 256 inputs, 1 to 768 gates, 1 to 256 outputs
abbrev pub within_limits : ℕ → ℕ → ℕ → Bool
within_limits i g o = is_in_range 1 256 i && is_in_range 1 768 g && is_in_range 1 256 o

abbrev pub limits_answer : ℕ → ℕ → ℕ → ℕ
limits_answer i g o = cond (within_limits i g o) 0 5

-- a draft opened outside the limits, which takes no addition
abbrev pub dead : Sheet
dead = record { gates = 0; outputs = 0; circuit = nothing }

abbrev pub opened : ℕ → ℕ → ℕ → Sheet
opened i g o =
    cond (within_limits i g o) (record { gates = g; outputs = o; circuit = record { inputs = i; gates = []; outputs = [] } })
    dead

-- the lines that its gates and outputs may name, those of gates still to come too
abbrev pub lines : Sheet → ℕ
lines s = s.circuit.inputs + s.gates

-- no gate has filled any of its 768 rows
abbrev pub NoRowFilled : Draft → Type 0
NoRowFilled d = d.rows ≡ replicate 768 empty

-- a test, and the number of the refusal where it fails
pub record Test : Type 0 where
  pub number : ℕ
  pub passes : Bool

-- the number of the first test that fails, 0 where none does
abbrev pub first_failed : List Test → ℕ
first_failed [] = 0
first_failed (t ∷ ts) = cond t.passes (first_failed ts) t.number

-- gates come in line order, as many as the draft was opened for
abbrev pub takes_gate : Sheet → Bool
takes_gate s = nat_lt (length s.circuit.gates) s.gates

-- outputs come after all gates
abbrev pub takes_output : Sheet → Bool
takes_output s = length s.circuit.gates == s.gates && nat_lt (length s.circuit.outputs) s.outputs

abbrev pub gate_answer : Sheet → Gate → ℕ
gate_answer s g =
    first_failed (record { number = 2; passes = takes_gate s } ∷ record { number = 5; passes = delay_fits g.delay } ∷ record { number = 5; passes = on_lines (lines s) g.reads } ∷ record { number = 7; passes = fits g.kind (length g.reads) } ∷ [])

abbrev pub output_answer : Sheet → ℕ → ℕ
output_answer s n =
    first_failed (record { number = 2; passes = takes_output s } ∷ record { number = 5; passes = is_in_range 1 (lines s) n } ∷ [])

-- the sheet with one gate, or one output, more
abbrev pub with_gate : Sheet → Gate → Sheet
with_gate s g = record {
  gates = s.gates;
  outputs = s.outputs;
  circuit = record { inputs = s.circuit.inputs; gates = s.circuit.gates ++ (g ∷ []); outputs = s.circuit.outputs };
}

abbrev pub with_output : Sheet → ℕ → Sheet
with_output s n = record {
  gates = s.gates;
  outputs = s.outputs;
  circuit = record { inputs = s.circuit.inputs; gates = s.circuit.gates; outputs = s.circuit.outputs ++ (n ∷ []) };
}

-- all the gates and outputs that it was opened for stand in it; a dead draft is never complete
abbrev pub complete : Sheet → Bool
complete s = nat_lt 0 s.gates && length s.circuit.gates == s.gates && length s.circuit.outputs == s.outputs
