-- What the laws ask of a topology and of its rule.
use Rattle.std.proofs.Common.{◌≡◌, ℕ, suc, ◌+◌, ◌<◌, length}
use Rattle.semantics.specs.Machines.{Topology, Rule, IsInput, IsGate, IsLine, ReadsFrom}

-- every gate needs time and reads some line, and only lines of the topology
pub record Sound (topology : Topology) : Type 0 where
  pub takes_time : (n : ℕ) → IsGate topology n → 0 < topology.lag n
  pub reads_some : (n : ℕ) → IsGate topology n → 0 < length (topology.reads n)
  pub reads_lines : (n m : ℕ) → IsGate topology n → ReadsFrom topology n m → IsLine topology m

-- A horizon is a choice of ticks for each line: with a tick the one before it, and one lag before a tick of a gate line that
-- tick of each line that the gate reads.
pub record Horizon (topology : Topology) (Within : ℕ → ℕ → Type 0) : Type 0 where
  pub down : (n t : ℕ) → Within n (suc t) → Within n t
  pub back : (n m t : ℕ) → IsGate topology n → ReadsFrom topology n m → Within n (t + topology.lag n) → Within m t

-- Two rules carry a relation through a topology: they tie initial values where those of the inputs are tied, and values within
-- any horizon where those of the inputs are tied within it.
pub record Carries {M N : Type 0} (topology : Topology) (r : Rule M) (q : Rule N) (R : M → N → Type 0) : Type 1 where
  pub initial : (start : ℕ → M) (begin : ℕ → N) → ((n : ℕ) → IsInput topology n → R (start n) (begin n)) → (n : ℕ) → IsLine topology n → R (r.initial start n) (q.initial begin n)
  pub value : (start : ℕ → M) (begin : ℕ → N) (waveform : ℕ → ℕ → M) (other_waveform : ℕ → ℕ → N) → ((n : ℕ) → IsInput topology n → R (start n) (begin n)) → (Within : ℕ → ℕ → Type 0) → Horizon topology Within → ((n t : ℕ) → IsInput topology n → Within n t → R (waveform n t) (other_waveform n t)) → (n t : ℕ) → IsLine topology n → Within n t → R (r.value start waveform n t) (q.value begin other_waveform n t)

-- A rule is local: inputs have the values given, gate lines begin with their initial value, and it carries equality.
pub record Local {M : Type 0} (topology : Topology) (r : Rule M) : Type 1 where
  pub input_begins : (start : ℕ → M) (n : ℕ) → IsInput topology n → r.initial start n ≡ start n
  pub input_given : (start : ℕ → M) (waveform : ℕ → ℕ → M) (n t : ℕ) → IsInput topology n → r.value start waveform n t ≡ waveform n t
  pub gate_waits : (start : ℕ → M) (waveform : ℕ → ℕ → M) (n t : ℕ) → IsGate topology n → t < topology.lag n → r.value start waveform n t ≡ r.initial start n
  pub carries : Carries topology r r ◌≡◌
