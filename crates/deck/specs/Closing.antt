-- What reading and closing a deck comes to.
use Rattle.std.specs.Prelude.{◌≡◌, ℕ, suc, List, Ok, Err, Result, MatchResult, slice_index_or}
use Rattle.netlist.specs.Drafts.{Sheet}
use Rattle.netlist.specs.Gates.{Gate, Circuit, nothing}
use Rattle.netlist.specs.Judging.{AllReached, LowestFree}
use Rattle.deck.specs.Faults.{Told, told}
use Rattle.deck.specs.Outcomes.{FirstFault, Deck, Answer, used, fault}
use Rattle.deck.specs.Progress.{rows, over}
use Rattle.deck.specs.Rows.{gate, end}
use Rattle.deck.specs.declared.fault.Fault.{Fault}

-- a deck whose gates are all reached, with its netlist
pub record Sound (bytes : List ℕ) (count : ℕ) (c : Circuit) : Type 0 where
  pub draft : Sheet
  pub deck : Deck bytes count draft
  pub reached : AllReached c
  pub same : c ≡ draft.circuit

-- the fault of a netlist whose lowest gate that no input reaches drives a line: 9, layer N, column 1, and the
-- record of that gate, the record after as many as its line's number
pub record FreeFault (c : Circuit) (f : Told) : Type 0 where
  pub line : ℕ
  pub free : LowestFree c line
  pub is : f ≡ record { number = 9; layer = 78; at = suc line; column = 1 }

-- a deck with a gate that no input reaches; the record of the fault is that of the gate
pub record Free (bytes : List ℕ) (f : Told) : Type 0 where
  pub count : ℕ
  pub draft : Sheet
  pub deck : Deck bytes count draft
  pub fault : FreeFault draft.circuit f
  pub its_gate : Gate
  pub its_record : slice_index_or (rows (over draft)) fault.line end ≡ gate fault.line its_gate

pub data Refused (bytes : List ℕ) (f : Told) : Type 0 where
  unread : FirstFault bytes f → Refused bytes f
  unreached : Free bytes f → Refused bytes f

abbrev pub ClosedOutcome : List ℕ → Answer → Circuit → Type 0
ClosedOutcome bytes (used n) c = Sound bytes n c
ClosedOutcome bytes (fault f) c = Refused bytes f × (c ≡ nothing)

-- a fault of the reading is passed on whole; without one, all gates are reached or the lowest that is not is told
abbrev pub Passed : Result ℕ Fault → Circuit → Result ℕ Fault → Type 0
Passed (Err f) c r = r ≡ Err f
Passed (Ok n) c r = MatchResult r (λ m. (m ≡ n) × AllReached c) (λ f. FreeFault c (told f))
