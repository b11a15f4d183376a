-- The rows of a listing.
use Rattle.std.specs.Prelude.{ℕ, List, [], ◌∷◌, ◌++◌}
use Rattle.deck.specs.Faults.{in_columns}
use Rattle.values.specs.Knowledge.{letter}
use Rattle.values.specs.declared.ternary.Ternary.{Ternary}

-- the row of a line: L, the line in columns 2 to 5, how far it is settled 6 to 15, how many of its changes are kept 16 to 19
abbrev pub line_row : ℕ → ℕ → ℕ → List ℕ
line_row line settled kept = 76 ∷ (in_columns 4 line ++ (in_columns 10 settled ++ (in_columns 4 kept ++ (10 ∷ []))))

-- the row of a change: C, its tick in columns 2 to 11, the value's letter 13
abbrev pub change_row : ℕ → Ternary → List ℕ
change_row tick value = 67 ∷ (in_columns 10 tick ++ (32 ∷ (letter value ++ (10 ∷ []))))
