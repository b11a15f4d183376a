-- The rows of a deck and how they are spelled in columns.
use Rattle.std.specs.Prelude.{ℕ, zero, suc, List, [], ◌∷◌, ◌++◌, map, codes, decimal}
use Rattle.columns.specs.Spelling.{spelled}
use Rattle.std.specs.List.{flat_map}
use Rattle.netlist.specs.declared.kind.Kind.{Kind}
use Rattle.netlist.specs.declared.kind.Kind.TheVariants.{Buf, Not, And, Or, Xor, Nand, Nor, Xnor}
use Rattle.netlist.specs.GateRow.{gate_text}
use Rattle.netlist.specs.Gates.{Gate}
use Rattle.netlist.specs.Rows.{gate_of}
use Rattle.deck.specs.declared.entry.Entry.{Entry}
use Rattle.deck.specs.declared.entry.Entry.TheVariants as entry

-- a record by what it says
pub data Row : Type 0 where
  header : (inputs gates outputs : ℕ) → Row
  input : (line : ℕ) → Row
  gate : (line : ℕ) → Gate → Row
  output : (line : ℕ) → Row
  end : Row

abbrev pub row_of : Entry → Row
row_of (entry.Header h) = header h.inputs h.gates h.outputs
row_of (entry.Input n) = input n
row_of (entry.Gate n r) = gate n (gate_of r)
row_of (entry.Output n) = output n
row_of entry.End = end

-- a kind in its four columns, left-justified
abbrev pub kind_text : Kind → List ℕ
kind_text Buf = codes "BUF "
kind_text Not = codes "NOT "
kind_text And = codes "AND "
kind_text Or = codes "OR  "
kind_text Xor = codes "XOR "
kind_text Nand = codes "NAND"
kind_text Nor = codes "NOR "
kind_text Xnor = codes "XNOR"

-- the letter of a row, then its fields
abbrev pub text : Row → List ℕ
text (header i g o) = 78 ∷ (spelled 4 i ++ (spelled 4 g ++ spelled 4 o))
text (input n) = 73 ∷ spelled 4 n
text (gate n g) = 71 ∷ (spelled 4 n ++ (kind_text g.kind ++ (spelled 5 g.delay ++ flat_map (spelled 4) g.reads)))
text (output n) = 79 ∷ spelled 4 n
text end = 69 ∷ []

-- what `{}` prints of a record
abbrev pub message : Row → List ℕ
message (header i g o) = codes "header, " ++ (decimal i ++ (codes " inputs, " ++ (decimal g ++ (codes " gates, " ++ (decimal o ++ codes " outputs")))))
message (input n) = codes "input on line " ++ decimal n
message (gate n g) = codes "gate on line " ++ (decimal n ++ (codes ": " ++ gate_text g))
message (output n) = codes "output of line " ++ decimal n
message end = codes "end"

-- texts, each ended by byte 10
abbrev pub ended_each : {A : Type 0} → (A → List ℕ) → List A → List ℕ
ended_each text [] = []
ended_each text (x ∷ xs) = text x ++ (10 ∷ ended_each text xs)

abbrev pub spell : List Row → List ℕ
spell rows = ended_each text rows

-- one row for each input, in line order
abbrev pub input_rows : ℕ → List Row
input_rows zero = []
input_rows (suc n) = input_rows n ++ (input (suc n) ∷ [])

-- one row for each gate, the first driving the given line
abbrev pub gate_rows : ℕ → List Gate → List Row
gate_rows n [] = []
gate_rows n (g ∷ gs) = gate n g ∷ gate_rows (suc n) gs

abbrev pub output_rows : List ℕ → List Row
output_rows ns = map output ns
