-- A fault, by its number, the letter of its layer, its record and its column.
use Rattle.std.specs.Prelude.{ℕ, cond, List, [], ◌∷◌, ◌++◌, length, replicate, codes, decimal, nat_le}
use Rattle.columns.specs.Spelling.{spelled}
use Rattle.netlist.specs.Refusals.{number, word}
use Rattle.deck.specs.declared.fault.Layer.{Layer}
use Rattle.deck.specs.declared.fault.Layer.TheVariants.{Field, Record, Netlist, Session}
use Rattle.deck.specs.declared.fault.Fault.{Fault}

-- F, R, N and S
abbrev pub layer_letter : Layer → ℕ
layer_letter Field = 70
layer_letter Record = 82
layer_letter Netlist = 78
layer_letter Session = 83

pub record Told : Type 0 where
  pub number : ℕ
  pub layer : ℕ
  pub at : ℕ
  pub column : ℕ

abbrev pub told : Fault → Told
told f = record { number = number f.refusal; layer = layer_letter f.layer; at = f.«record»; column = f.column }

-- a number in so many columns, which stay blank where it does not fit
abbrev pub in_columns : ℕ → ℕ → List ℕ
in_columns width n = cond (nat_le (length (decimal n)) width) (spelled width n) (replicate width 32)

-- the row that tells a fault: R, number in columns 2 to 5, record 6 to 10, column 11 to 14, layer 16
abbrev pub fault_row : Told → List ℕ
fault_row f = 82 ∷ (in_columns 4 f.number ++ (in_columns 5 f.at ++ (in_columns 4 f.column ++ (32 ∷ f.layer ∷ 10 ∷ []))))

-- what `{}` prints of a fault
abbrev pub message : Fault → List ℕ
message f = word f.refusal ++ (codes " in record " ++ (decimal f.«record» ++ (codes ", column " ++ decimal f.column)))
