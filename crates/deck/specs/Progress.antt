-- How far a deck is read: the rows that it has so far, and which row is expected next.
use Rattle.std.specs.Prelude.{◌≡◌, ℕ, suc, ◌+◌, ◌<◌, ◌≤◌, true, cond, List, [], ◌∷◌, ◌++◌, length, nat_lt}
use Rattle.netlist.specs.Drafts.{Sheet, within_limits, lines, takes_gate, takes_output, complete}
use Rattle.std.specs.List.{list_all}
use Rattle.netlist.specs.Gates.{legal, on_lines}
use Rattle.deck.specs.Rows.{Row, header, end, input_rows, gate_rows, output_rows, spell}

-- nothing read yet; a draft with so many of its inputs told; a draft after its end row
pub data Progress : Type 0 where
  blank : Progress
  going : Sheet → ℕ → Progress
  over : Sheet → Progress

abbrev pub rows_begun : Sheet → ℕ → List Row
rows_begun s told =
    header s.circuit.inputs s.gates s.outputs ∷ (input_rows told ++ (gate_rows (suc s.circuit.inputs) s.circuit.gates ++ output_rows s.circuit.outputs))

abbrev pub rows : Progress → List Row
rows blank = []
rows (going s told) = rows_begun s told
rows (over s) = rows_begun s s.circuit.inputs ++ (end ∷ [])

-- the text of a deck is the spelling of its draft
abbrev pub deck_text : Sheet → List ℕ
deck_text s = spell (rows (over s))

-- a draft that a deck may have come to: inputs are told first, then gates, then outputs
pub record Begun (s : Sheet) (told : ℕ) : Type 0 where
  pub limits : within_limits s.circuit.inputs s.gates s.outputs ≡ true
  pub inputs_few : told ≤ s.circuit.inputs
  pub gates_few : length s.circuit.gates ≤ s.gates
  pub outputs_few : length s.circuit.outputs ≤ s.outputs
  pub gates_legal : list_all (legal (lines s)) s.circuit.gates ≡ true
  pub outputs_on_lines : on_lines (lines s) s.circuit.outputs ≡ true
  pub inputs_first : 0 < length s.circuit.gates → told ≡ s.circuit.inputs
  pub gates_first : 0 < length s.circuit.outputs → length s.circuit.gates ≡ s.gates

-- a draft within the limits, with all its gates and outputs
pub record Whole (s : Sheet) : Type 0 where
  pub begun : Begun s s.circuit.inputs
  pub all_there : complete s ≡ true

abbrev pub Legal : Progress → Type 0
Legal blank = Unit {0}
Legal (going s told) = Begun s told
Legal (over s) = Whole s

-- the one row that may come next: the row of an input or a gate with its line, or of a gate or an output
-- with the number of lines that it may name
pub data Expected : Type 0 where
  header_next : Expected
  input_next : (line : ℕ) → Expected
  gate_next : (line lines : ℕ) → Expected
  output_next : (lines : ℕ) → Expected
  end_next : Expected
  nothing_next : Expected

abbrev pub expected : Progress → Expected
expected blank = header_next
expected (going s told) =
    cond (nat_lt told s.circuit.inputs) (input_next (suc told))
    (cond (takes_gate s) (gate_next (suc (s.circuit.inputs + length s.circuit.gates)) (lines s)) (cond (takes_output s) (output_next (lines s)) end_next))
expected (over s) = nothing_next
