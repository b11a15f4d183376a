-- The tests of a record, in their order, and the fault that each gives where it is the first to fail.
use Rattle.std.specs.Prelude.{◌≡◌, ℕ, zero, suc, ◌+◌, ◌-◌, ◌*◌, ◌/◌, ◌^◌, ◌<◌, ◌≤◌, Bool, true, false, ◌||◌, ◌⊎◌, List, [], ◌∷◌, ◌++◌, length, take, drop, ◌==◌}
use Rattle.columns.specs.Spelling.{spelled}
use Rattle.netlist.specs.declared.kind.Kind.{Kind}
use Rattle.netlist.specs.Gates.{fits}
use Rattle.values.specs.declared.ternary.Ternary.{Ternary}
use Rattle.values.specs.Knowledge as Knowledge
use Rattle.deck.specs.Faults.{Told}
use Rattle.deck.specs.Progress.{Expected, header_next, input_next, gate_next, output_next, end_next, nothing_next}
use Rattle.deck.specs.Rows.{kind_text}

-- so many columns of a record, from a column on; columns count from 1
abbrev pub columns : List ℕ → ℕ → ℕ → List ℕ
columns r column width = take width (drop (column - 1) r)

-- the number n stands in these columns
pub record Shows (r : List ℕ) (column width n : ℕ) : Type 0 where
  pub fits : n < 10 ^ width
  pub spelling : columns r column width ≡ spelled width n

pub data Test : Type 0 where
  letter : (byte : ℕ) → Test
  out_of_order : Test
  long : (lengths : List ℕ) → Test
  figure : (column width : ℕ) → Test
  turn : (column width line : ℕ) → Test
  range : (column width least most : ℕ) → Test
  kind_known : Test
  kind_takes : (count : ℕ) → Test
  value_known : Test

abbrev pub has : ℕ → List ℕ → Bool
has n [] = false
has n (m ∷ ms) = n == m || has n ms

abbrev pub Passes : List ℕ → Test → Type 0
Passes r (letter byte) = (fields : List ℕ) × (r ≡ byte ∷ fields)
Passes r out_of_order = ⊥
Passes r (long lengths) = has (length r) lengths ≡ true
Passes r (figure column width) = (n : ℕ) × Shows r column width n
Passes r (turn column width line) = Shows r column width line
Passes r (range column width least most) = (n : ℕ) × Shows r column width n × (least ≤ n) × (n ≤ most)
Passes r kind_known = (k : Kind) × (columns r 6 4 ≡ kind_text k)
Passes r (kind_takes count) = (k : Kind) × (columns r 6 4 ≡ kind_text k) × (fits k count ≡ true)
Passes r value_known = (v : Ternary) × (columns r 16 2 ≡ 32 ∷ Knowledge.letter v)

-- number, layer and column of the fault; a field's fault has the field's first column
abbrev pub fault_of : ℕ → Test → Told
fault_of at (letter byte) = record { number = 2; layer = 82; at = at; column = 1 }
fault_of at out_of_order = record { number = 2; layer = 82; at = at; column = 1 }
fault_of at (long lengths) = record { number = 3; layer = 82; at = at; column = 1 }
fault_of at (figure column width) = record { number = 4; layer = 70; at = at; column = column }
fault_of at (turn column width line) = record { number = 6; layer = 82; at = at; column = column }
fault_of at (range column width least most) = record { number = 5; layer = 82; at = at; column = column }
fault_of at kind_known = record { number = 7; layer = 82; at = at; column = 6 }
fault_of at (kind_takes count) = record { number = 7; layer = 82; at = at; column = 6 }
fault_of at value_known = record { number = 7; layer = 82; at = at; column = 16 }

-- a number within limits
abbrev pub number_tests : ℕ → ℕ → ℕ → ℕ → List Test
number_tests column width least most = figure column width ∷ range column width least most ∷ []

-- the number of the line whose turn it is
abbrev pub line_tests : ℕ → ℕ → ℕ → List Test
line_tests column width line = figure column width ∷ turn column width line ∷ []

-- the lines that a gate reads, four columns each
abbrev pub reads_tests : ℕ → ℕ → List Test
reads_tests lines zero = []
reads_tests lines (suc k) = reads_tests lines k ++ number_tests (15 + 4 * k) 4 1 lines

-- how many lines a gate's record of this length has
abbrev pub reads_count : ℕ → ℕ
reads_count n = (n - 14) / 4

-- the tests after the cut: letter, length, the fields from left to right, then the count for the kind
abbrev pub tests : Expected → ℕ → List Test
tests header_next n =
    letter 78 ∷ long (13 ∷ []) ∷ (number_tests 2 4 1 256 ++ (number_tests 6 4 1 768 ++ number_tests 10 4 1 256))
tests (input_next line) n = letter 73 ∷ long (5 ∷ []) ∷ line_tests 2 4 line
tests (gate_next line lines) n =
    letter 71 ∷ long (18 ∷ 22 ∷ 26 ∷ 30 ∷ []) ∷ (line_tests 2 4 line ++ (kind_known ∷ (number_tests 10 5 1 65535 ++ (reads_tests lines (reads_count n) ++ (kind_takes (reads_count n) ∷ [])))))
tests (output_next lines) n = letter 79 ∷ long (5 ∷ []) ∷ number_tests 2 4 1 lines
tests end_next n = letter 69 ∷ long (1 ∷ []) ∷ []
tests nothing_next n = out_of_order ∷ []

-- of the tests, t is the first that the record fails
abbrev pub FirstFailed : List ℕ → List Test → Test → Type 0
FirstFailed r [] t = ⊥
FirstFailed r (u ∷ us) t = ((t ≡ u) × (Passes r u → ⊥)) ⊎ (Passes r u × FirstFailed r us t)
