-- Which gate is taken next; it serves the contracts of the engine's own functions.
use Rattle.std.specs.Prelude.{◌≡◌, ℕ, suc, ◌<◌, ◌≤◌, ◌≢◌, List, length, slice_index}
use Rattle.semantics.specs.Accounts.{Account}
use Rattle.semantics.specs.Machines.{Machine, IsGate, ReadsFrom}
use Rattle.semantics.specs.Moves.{CanMove, ComesBefore, Rests}
use Rattle.queue.specs.Keys.{no_key}

module _ {M : Type 0} (s : Machine M) (a : Account M) where
  -- its front can move, and of all fronts that can it is first
  pub record MovesFirst (n : ℕ) : Type 0 where
    pub moves : CanMove s a n
    pub first : (m : ℕ) → CanMove s a m → ComesBefore s a n m

  -- A line's key in a queue is its gate's front, if that can move; else it has none, and its gate rests.
  pub data Keyed (n key : ℕ) : Type 0 where
    moves : CanMove s a n → key ≡ a.front n → key < no_key → Keyed n key
    rests : (IsGate s.topology n → Rests s a n) → no_key ≤ key → Keyed n key

  -- a queue has the keys of all lines, in their order
  pub record Queued (keys : List ℕ) : Type 0 where
    pub long : length keys ≡ 1024
    pub each : (i : ℕ) → i < 1024 → Keyed (suc i) (slice_index keys i)

  -- of all but one line and those of the gates that read it
  pub record QueuedBut (n : ℕ) (keys : List ℕ) : Type 0 where
    pub long : length keys ≡ 1024
    pub others : (i : ℕ) → i < 1024 → suc i ≢ n → (ReadsFrom s.topology (suc i) n → ⊥) → Keyed (suc i) (slice_index keys i)

  -- where a line had its key, it has
  abbrev pub KeysStay : List ℕ → List ℕ → Type 0
  KeysStay old new = (i : ℕ) → i < length old → Keyed (suc i) (slice_index old i) → Keyed (suc i) (slice_index new i)

  -- the lines that read line n, as told line by line, have their keys
  abbrev pub KeyedAt : List ℕ → ℕ → List ℕ → Type 0
  KeyedAt told n keys = (i : ℕ) → i < length told → i < length keys → slice_index told i ≡ n → Keyed (suc i) (slice_index keys i)
