-- How two accounts compare: what stays from one to the other, when they are alike and when they agree, and when a relation
-- ties them.
use Rattle.std.specs.Prelude.{◌≡◌, ℕ, ◌<◌, ◌≤◌, List}
use Rattle.semantics.specs.Machines.{Machine, IsInput, IsLine}
use Rattle.semantics.specs.Accounts.{Account, settled, initial, value, KeptChanges}

module _ {M : Type 0} (s : Machine M) (a b : Account M) where
  -- no line is settled less in the second, and no initial or settled value is another
  pub record Stays : Type 0 where
    pub settled_times : (n : ℕ) → settled s.topology a n ≤ settled s.topology b n
    pub initial_values : (n : ℕ) → IsLine s.topology n → initial s a n ≡ initial s b n
    pub values : (n t : ℕ) → IsLine s.topology n → t < settled s.topology a n → value s a n t ≡ value s b n t

  -- Alike: the inputs were given the same initial values, and the same values up to the same ends, and the trim tick is the
  -- same. Nothing is said of fronts.
  pub record Alike : Type 0 where
    pub starts : (n : ℕ) → IsInput s.topology n → a.start n ≡ b.start n
    pub ends : (n : ℕ) → IsInput s.topology n → a.end n ≡ b.end n
    pub waveforms : (n t : ℕ) → IsInput s.topology n → t < a.end n → a.waveform n t ≡ b.waveform n t
    pub trims : a.trim ≡ b.trim

  -- They agree: every line is settled as far in both, has the same values up to there, and the same kept changes.
  pub record Agree : Type 0 where
    pub settled_times : (n : ℕ) → IsLine s.topology n → settled s.topology a n ≡ settled s.topology b n
    pub initial_values : (n : ℕ) → IsLine s.topology n → initial s a n ≡ initial s b n
    pub values : (n t : ℕ) → IsLine s.topology n → t < settled s.topology a n → value s a n t ≡ value s b n t
    pub kept_changes : (n : ℕ) (ts : List ℕ) → IsLine s.topology n → KeptChanges s a n ts → KeptChanges s b n ts

module _ {M N : Type 0} (s : Machine M) (q : Machine N) (R : M → N → Type 0) (a : Account M) (b : Account N) where
  -- what both were given is tied: the inputs' initial values, and their values below both ends
  pub record GivenTied : Type 0 where
    pub starts : (n : ℕ) → IsInput s.topology n → R (a.start n) (b.start n)
    pub waveforms : (n t : ℕ) → IsInput s.topology n → t < a.end n → t < b.end n → R (a.waveform n t) (b.waveform n t)

  -- all lines are tied: their initial values, and their values at every tick settled in both
  pub record LinesTied : Type 0 where
    pub initial_values : (n : ℕ) → IsLine s.topology n → R (initial s a n) (initial q b n)
    pub values : (n t : ℕ) → IsLine s.topology n → t < settled s.topology a n → t < settled q.topology b n → R (value s a n t) (value q b n t)
