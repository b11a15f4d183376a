-- The distance of a line: how far the inputs and the room let it be settled.
use Rattle.std.specs.Prelude.{ℕ, ◌+◌, ◌<◌, ◌≤◌}
use Rattle.semantics.specs.Machines.{IsInput, IsGate, ReadsFrom, Machine}
use Rattle.semantics.specs.Accounts.{Account, Overflows}

module _ {M : Type 0} (s : Machine M) (a : Account M) where
  -- a path from an input to a line: it starts at the input's end and grows by the lag of each gate that it goes through
  pub data Path : ℕ → ℕ → Type 0 where
    from_input : {n : ℕ} → IsInput s.topology n → Path n (a.end n)
    through : {m n far : ℕ} → IsGate s.topology n → ReadsFrom s.topology n m → Path m far → Path n (far + s.topology.lag n)

  -- A line is overfull if below its unlimited distance, the least length of the paths to it, comes a change for which there
  -- is no room. That change's tick is its stop.
  pub record Overfull (n stop : ℕ) : Type 0 where
    pub overflows : Overflows s a n stop
    pub early : (far : ℕ) → Path n far → stop < far

  -- a path that may also start at an overfull line, with its stop in place of an end
  pub data LimitedPath : ℕ → ℕ → Type 0 where
    from_input : {n : ℕ} → IsInput s.topology n → LimitedPath n (a.end n)
    from_stop : {n stop : ℕ} → Overfull n stop → LimitedPath n stop
    through : {m n far : ℕ} → IsGate s.topology n → ReadsFrom s.topology n m → LimitedPath m far → LimitedPath n (far + s.topology.lag n)

  -- A line's distance is the least length of the limited paths to it.
  pub record Distance (n far : ℕ) : Type 0 where
    pub reached : LimitedPath n far
    pub least : (other : ℕ) → LimitedPath n other → far ≤ other
