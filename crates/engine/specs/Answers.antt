-- What the calls of a session answer, and what account it stands for then.
use Rattle.std.specs.Prelude.{◌≡◌, ℕ, ◌+◌, ◌*◌, ◌<◌, ◌≤◌, ◌≢◌, List, length, slice_get, Ok, Err, Result, Some}
use Rattle.netlist.specs.declared.refusal.Refusal.{Refusal}
use Rattle.netlist.specs.Refusals.{number}
use Rattle.netlist.specs.Gates.{Circuit}
use Rattle.semantics.specs.Circuits.{lines}
use Rattle.semantics.specs.Accounts.{Account, settled, goal, value, Stable, KeptChanges, Overflows}
use Rattle.semantics.specs.Changes.{AtMost}
use Rattle.semantics.specs.Logs as Logs
use Rattle.engine.specs.declared.asking.LineState.{LineState}
use Rattle.engine.specs.declared.running.Ending.{Ending}
use Rattle.semantics.specs.Machines.{Machine, IsInput, IsGate, IsLine}
use Rattle.semantics.specs.Moves.{fed, held, taken, trimmed, CanFeed, CanHold, CanTake, CanTrim}

-- an answer with the number of its refusal
abbrev pub numbered : {X : Type 0} → Result X Refusal → Result X ℕ
numbered (Ok x) = Ok x
numbered (Err r) = Err (number r)

-- an answer with what is seen of its value, or the number of its refusal
abbrev pub answered : {X Y : Type 0} → (X → Y) → Result X Refusal → Result Y ℕ
answered see (Ok x) = Ok (see x)
answered see (Err r) = Err (number r)

-- what a line's state tells
abbrev pub stated : LineState → ℕ × ℕ
stated state = (state.settled, state.kept)

-- making a session of a netlist, with so many records and so many initial values
pub data Making (c : Circuit) (records starts : ℕ) : Result Unit ℕ → Type 0 where
  no_lines : lines c ≡ 0 → Making c records starts (Err 8)
  few_records : 0 < lines c → records < 2 * lines c → Making c records starts (Err 10)
  other_starts : 0 < lines c → 2 * lines c ≤ records → (starts ≢ c.inputs) → Making c records starts (Err 11)
  accepted : 0 < lines c → 2 * lines c ≤ records → starts ≡ c.inputs → Making c records starts (Ok tt)

module _ {M : Type 0} (s : Machine M) (a : Account M) where
  -- taking a gate answers how far its line is settled then
  pub data Taking (n : ℕ) : Result ℕ ℕ → Account M → Type 0 where
    no_gate : (IsGate s.topology n → ⊥) → Taking n (Err 12) a
    idle : IsGate s.topology n → a.front n ≡ goal s.topology a n → Taking n (Err 17) a
    full : IsGate s.topology n → a.front n < goal s.topology a n → Overflows s a n (a.front n + s.topology.lag n) → Taking n (Err 16) a
    accepted : {front : ℕ} → CanTake s a n front → Taking n (Ok (front + s.topology.lag n)) (taken a n front)

-- how a run ended
abbrev pub ending_of : Ending → Logs.Ending
ending_of Ending.Rest = Logs.Ending.rest
ending_of Ending.More = Logs.Ending.more

module _ {M : Type 0} (s : Machine M) (a : Account M) where
  -- the value of a line at a tick, from the trim tick on and below the line's settled time
  pub data Valued (n t : ℕ) : Result M ℕ → Type 0 where
    no_line : (IsLine s.topology n → ⊥) → Valued n t (Err 12)
    past : IsLine s.topology n → t < a.trim → Valued n t (Err 13)
    unsettled : IsLine s.topology n → a.trim ≤ t → settled s.topology a n ≤ t → Valued n t (Err 15)
    told : IsLine s.topology n → a.trim ≤ t → t < settled s.topology a n → Valued n t (Ok (value s a n t))

  -- a kept change of a line, counted from 0: its tick, and the value from there on
  pub data Eventful (n k : ℕ) : Result (ℕ × M) ℕ → Type 0 where
    no_line : (IsLine s.topology n → ⊥) → Eventful n k (Err 12)
    none_such : {ticks : List ℕ} → IsLine s.topology n → KeptChanges s a n ticks → length ticks ≤ k → Eventful n k (Err 18)
    told : {ticks : List ℕ} {t : ℕ} → IsLine s.topology n → KeptChanges s a n ticks → slice_get ticks k ≡ Some t → Eventful n k (Ok (t, value s a n t))

  -- how far a line is settled, and how many changes of it are kept
  pub data Stated (n : ℕ) : Result (ℕ × ℕ) ℕ → Type 0 where
    no_line : (IsLine s.topology n → ⊥) → Stated n (Err 12)
    told : {ticks : List ℕ} → IsLine s.topology n → KeptChanges s a n ticks → Stated n (Ok (settled s.topology a n, length ticks))

module _ {M : Type 0} (s : Machine M) (a : Account M) where
  -- feeding an input a value
  pub data Feeding (n t : ℕ) (v : M) : Result Unit ℕ → Account M → Type 0 where
    no_input : (IsInput s.topology n → ⊥) → Feeding n t v (Err 12) a
    past : IsInput s.topology n → t < a.end n → Feeding n t v (Err 13) a
    late : IsInput s.topology n → a.end n ≤ t → 1999999999 < t → Feeding n t v (Err 14) a
    full : IsInput s.topology n → a.end n ≤ t → t ≤ 1999999999 → (AtMost s.room (Stable s (fed a n t v) n) a.trim (t + 1) → ⊥) → Feeding n t v (Err 16) a
    accepted : CanFeed s a n t v → Feeding n t v (Ok tt) (fed a n t v)

  -- holding an input's value
  pub data Holding (n t : ℕ) : Result Unit ℕ → Account M → Type 0 where
    no_input : (IsInput s.topology n → ⊥) → Holding n t (Err 12) a
    past : IsInput s.topology n → t < a.end n → Holding n t (Err 13) a
    late : IsInput s.topology n → a.end n ≤ t → 2000000000 < t → Holding n t (Err 14) a
    accepted : CanHold s a n t → Holding n t (Ok tt) (held a n t)

  -- dropping changes below a tick; where there are no lines, it is refused
  pub data Trimming (t : ℕ) : Result Unit ℕ → Account M → Type 0 where
    no_lines : ((n : ℕ) → IsLine s.topology n → ⊥) → Trimming t (Err 15) a
    past : {n : ℕ} → IsLine s.topology n → t < a.trim → Trimming t (Err 13) a
    beyond_end : {n : ℕ} → IsInput s.topology n → a.trim ≤ t → a.end n < t → Trimming t (Err 15) a
    beyond_front : {n : ℕ} → IsGate s.topology n → a.trim ≤ t → a.front n < t → Trimming t (Err 15) a
    accepted : {n : ℕ} → IsLine s.topology n → CanTrim s a t → Trimming t (Ok tt) (trimmed a t)
