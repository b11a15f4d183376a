-- How an account changes, call by call.
use Rattle.std.specs.Prelude.{◌≡◌, ℕ, ◌+◌, ◌<◌, ◌≤◌, cond, nat_lt, ◌==◌, ◌⊎◌}
use Rattle.semantics.specs.Changes.{AtMost}
use Rattle.semantics.specs.Machines.{IsInput, IsGate, Machine}
use Rattle.semantics.specs.Accounts.{Account, goal, Stable, Overflows}

-- a function of lines with another answer for one line
abbrev pub put : {X : Type 0} → (ℕ → X) → ℕ → X → ℕ → X
put f n x m = cond (m == n) x (f m)

module _ {M : Type 0} where
  -- nothing is given yet but the inputs' initial values
  abbrev pub made : (ℕ → M) → Account M
  made start = record { start = start; waveform = λ n t. start n; end = λ n. 0; front = λ n. 0; trim = 0 }

  -- the input keeps its last value up to the tick, where the new value begins
  abbrev pub fed : Account M → ℕ → ℕ → M → Account M
  fed a n t v = record a { waveform = put a.waveform n (λ u. cond (nat_lt u t) (a.waveform n u) v); end = put a.end n (t + 1) }

  -- the input keeps its last value up to the tick
  abbrev pub held : Account M → ℕ → ℕ → Account M
  held a n t = record a { end = put a.end n t }

  abbrev pub taken : Account M → ℕ → ℕ → Account M
  taken a n front = record a { front = put a.front n front }

  abbrev pub trimmed : Account M → ℕ → Account M
  trimmed a t = record a { trim = t }

  module _ (s : Machine M) (a : Account M) where
    -- an input can be fed at its end or later, up to a limit, if there is room for the change that this makes
    pub record CanFeed (n t : ℕ) (v : M) : Type 0 where
      pub an_input : IsInput s.topology n
      pub not_past : a.end n ≤ t
      pub in_time : t ≤ 1999999999
      pub fits : AtMost s.room (Stable s (fed a n t v) n) a.trim (t + 1)

    pub record CanHold (n t : ℕ) : Type 0 where
      pub an_input : IsInput s.topology n
      pub not_past : a.end n ≤ t
      pub in_time : t ≤ 2000000000

    -- A gate can be taken to a front beyond its own: to its goal, or to where a change comes for which there is no room.
    pub record CanTake (n front : ℕ) : Type 0 where
      pub a_gate : IsGate s.topology n
      pub onward : a.front n < front
      pub not_beyond : front ≤ goal s.topology a n
      pub fits : AtMost s.room (Stable s a n) a.trim (front + s.topology.lag n)
      pub stops : (front ≡ goal s.topology a n) ⊎ Overflows s a n (front + s.topology.lag n)

    -- changes can be dropped below a tick that every end and every front has reached
    pub record CanTrim (t : ℕ) : Type 0 where
      pub not_past : a.trim ≤ t
      pub ends_reach : (n : ℕ) → IsInput s.topology n → t ≤ a.end n
      pub fronts_reach : (n : ℕ) → IsGate s.topology n → t ≤ a.front n

    -- the gate can be taken to some front
    pub record Takeable (n : ℕ) : Type 0 where
      pub front : ℕ
      pub can : CanTake n front

    -- The gate's front can move: it is below its goal, and what comes next is no change for which there is no room.
    pub record CanMove (n : ℕ) : Type 0 where
      pub a_gate : IsGate s.topology n
      pub below : a.front n < goal s.topology a n
      pub room : Overflows s a n (a.front n + s.topology.lag n) → ⊥

    -- the first gate has a smaller front than the second, or the same front and no greater line
    abbrev pub ComesBefore : ℕ → ℕ → Type 0
    ComesBefore n m = (a.front n < a.front m) ⊎ ((a.front n ≡ a.front m) × n ≤ m)

    -- of the gates that can be taken, it is the one of the smallest front, and of those the smallest line
    pub record ComesFirst (n : ℕ) : Type 0 where
      pub can : Takeable n
      pub first : (m : ℕ) → Takeable m → ComesBefore n m

    -- A gate rests with its front at its goal, or full: below its goal, where a change comes for which there is no room.
    pub data Rests (n : ℕ) : Type 0 where
      idle : a.front n ≡ goal s.topology a n → Rests n
      full : a.front n < goal s.topology a n → Overflows s a n (a.front n + s.topology.lag n) → Rests n

    -- An account is at rest where every gate rests.
    abbrev pub Rest : Type 0
    Rest = (n : ℕ) → IsGate s.topology n → Rests n
