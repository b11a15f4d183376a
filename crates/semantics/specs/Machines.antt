-- What the laws speak of: what drives each line, how long each gate needs, what gives the lines their values, and how many
-- changes are kept.
use Rattle.std.specs.Prelude.{◌≡◌, ℕ, ◌⊎◌, List, Contains}

-- what drives a line
pub data Driver : Type 0 where
  undriven : Driver
  input : Driver
  gate : Driver

-- the driver of each line; for gates the lag, how far the line's settled time lies beyond the gate's front; and the lines read
pub record Topology : Type 0 where
  pub driver : ℕ → Driver
  pub lag : ℕ → ℕ
  pub reads : ℕ → List ℕ

abbrev pub IsInput : Topology → ℕ → Type 0
IsInput topology n = topology.driver n ≡ input

abbrev pub IsGate : Topology → ℕ → Type 0
IsGate topology n = topology.driver n ≡ gate

abbrev pub IsLine : Topology → ℕ → Type 0
IsLine topology n = IsInput topology n ⊎ IsGate topology n

-- the gate of line n reads line m
abbrev pub ReadsFrom : Topology → ℕ → ℕ → Type 0
ReadsFrom topology n m = Contains (topology.reads n) m

-- What gives the lines their values: from the inputs' initial values the initial value of each line, and from those and the
-- inputs' waveforms the value of each line at each tick.
pub record Rule (M : Type 0) : Type 0 where
  pub initial : (ℕ → M) → ℕ → M
  pub value : (ℕ → M) → (ℕ → ℕ → M) → ℕ → ℕ → M

-- what a session is made of: a topology, the rule of its lines, and the room, how many changes of each line are kept at most
pub record Machine (M : Type 0) : Type 0 where
  pub topology : Topology
  pub rule : Rule M
  pub room : ℕ
