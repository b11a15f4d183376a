-- The records of a stimulus and how they are spelled in columns.
use Rattle.std.specs.Prelude.{ℕ, ◌<◌, ◌≤◌, ◌^◌, List, [], ◌∷◌, ◌++◌, codes, decimal}
use Rattle.columns.specs.Spelling.{spelled}
use Rattle.deck.specs.Rows.{ended_each}
use Rattle.values.specs.Knowledge.{letter}
use Rattle.stimulus.specs.declared.entry.Entry.{Entry}
use Rattle.stimulus.specs.declared.entry.Entry.TheVariants.{Feed, Hold, End}

-- the letter of a record, then its fields; before the value's letter stands a blank
abbrev pub text : Entry → List ℕ
text (Feed line tick value) = 70 ∷ (spelled 4 line ++ (spelled 10 tick ++ (32 ∷ letter value)))
text (Hold line tick) = 72 ∷ (spelled 4 line ++ spelled 10 tick)
text End = 69 ∷ []

-- what `{}` prints of a record
abbrev pub message : Entry → List ℕ
message (Feed line tick value) = codes "feed line " ++ (decimal line ++ (codes " at " ++ (decimal tick ++ (codes " with " ++ letter value))))
message (Hold line tick) = codes "hold line " ++ (decimal line ++ (codes " up to " ++ decimal tick))
message End = codes "end"

abbrev pub spell : List Entry → List ℕ
spell records = ended_each text records

-- a line of the netlist, in four columns, and a tick of 32 bits
pub record Named (lines line tick : ℕ) : Type 0 where
  pub a_line : (1 ≤ line) × (line ≤ lines)
  pub four_columns : line < 10 ^ 4
  pub a_tick : tick ≤ 4294967295

-- what a record may name, where there are so many lines
abbrev pub Legal : ℕ → Entry → Type 0
Legal lines (Feed line tick value) = Named lines line tick
Legal lines (Hold line tick) = Named lines line tick
Legal lines End = Unit {0}
