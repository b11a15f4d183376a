-- The listing of a deck with its stimulus.
use Rattle.std.specs.Prelude.{◌≡◌, ℕ, ◌+◌, ◌^◌, ◌<◌, List, [], ◌∷◌, ◌++◌, length, drop}
use Rattle.std.specs.List.{flat_map}
use Rattle.deck.specs.Closing.{Sound, Refused}
use Rattle.deck.specs.Faults.{Told, fault_row}
use Rattle.netlist.specs.Gates.{Circuit}
use Rattle.engine.specs.Sessions.{room_for}
use Rattle.semantics.specs.Accounts.{Account, settled, value, KeptChanges}
use Rattle.semantics.specs.Circuits.{lines}
use Rattle.semantics.specs.CircuitMachine.{machine}
use Rattle.semantics.specs.Comparisons.{Alike}
use Rattle.semantics.specs.Distances.{Distance}
use Rattle.semantics.specs.Logs.{Log}
use Rattle.semantics.specs.Machines.{Machine}
use Rattle.semantics.specs.Moves.{made, Rest}
use Rattle.values.specs.Knowledge.{three_valued}
use Rattle.values.specs.declared.ternary.Ternary.{Ternary}
use Rattle.values.specs.declared.ternary.Ternary.TheVariants.{X}
use Rattle.listing.specs.Given.{Whole, FirstFault}
use Rattle.listing.specs.Rows.{line_row, change_row}

-- a circuit in three values, with a store of 4,096 records
abbrev pub lister_machine : Circuit → Machine Ternary
lister_machine c = machine three_valued c (room_for 4096 c)

-- every input begins with X
abbrev pub unknown : Account Ternary
unknown = made (λ n. X)

module _ (s : Machine Ternary) (a : Account Ternary) where
  -- the rows of changes of a line at these ticks
  abbrev pub change_rows : ℕ → List ℕ → List ℕ
  change_rows n ticks = flat_map (λ t. change_row t (value s a n t)) ticks

  -- The rows of a line: how far it is settled, which is its distance, and how many of its changes are kept, and then each of
  -- these. No number is too long for its columns.
  pub record LineRows (n : ℕ) (rows : List ℕ) : Type 0 where
    pub ticks : List ℕ
    pub distance : Distance s a n (settled s.topology a n)
    pub kept : KeptChanges s a n ticks
    pub fit : (n < 10 ^ 4) × (settled s.topology a n < 10 ^ 10) × (length ticks < 10 ^ 4)
    pub are : rows ≡ line_row n (settled s.topology a n) (length ticks) ++ change_rows n ticks

  -- the rows of lines, in the order given
  pub data RowsOf : List ℕ → List ℕ → Type 0 where
    none : RowsOf [] []
    next : {n : ℕ} {ns rows text : List ℕ} → LineRows n rows → RowsOf ns text → RowsOf (n ∷ ns) (rows ++ text)

-- The listing of a circuit with a stimulus whose records count on from a number: the rows of its outputs at rest, wherever all
-- that the stimulus gives was given; or its first fault.
pub data Simulated (c : Circuit) (first : ℕ) (stimulus text : List ℕ) : Type 0 where
  outputs : {given rest : Account Ternary} → Whole (lister_machine c) unknown stimulus given → Log (lister_machine c) rest → Alike (lister_machine c) given rest → Rest (lister_machine c) rest → RowsOf (lister_machine c) rest c.outputs text → Simulated c first stimulus text
  faulty : {f : Told} → FirstFault (lister_machine c) unknown (lines c) first stimulus f → text ≡ fault_row f → Simulated c first stimulus text

-- how many records a deck has: one for each line and each output, its header and its end
abbrev pub deck_records : Circuit → ℕ
deck_records c = lines c + length c.outputs + 2

-- The listing of bytes: the deck's fault, or the listing of its circuit with the stimulus that follows.
pub data Listing (bytes text : List ℕ) : Type 0 where
  refused : {f : Told} → Refused bytes f → text ≡ fault_row f → Listing bytes text
  simulated : {used : ℕ} {c : Circuit} → Sound bytes used c → Simulated c (deck_records c + 1) (drop used bytes) text → Listing bytes text
