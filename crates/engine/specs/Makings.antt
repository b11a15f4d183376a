-- How lines begin; it serves the contracts of the engine's own functions.
use Rattle.std.specs.Prelude.{◌≡◌, ℕ, ◌-◌, ◌*◌, ◌<◌, ◌≢◌, List, map, slice_index_or}
use Rattle.netlist.specs.Gates.{Circuit}
use Rattle.netlist.specs.Walks.{reads, Looped}
use Rattle.values.specs.Systems.{System}
use Rattle.gates.specs.Functions.{gate_function}
use Rattle.events.specs.declared.record.EventRecord.{EventRecord}
use Rattle.semantics.specs.Circuits.{topology, gate_of_line}
use Rattle.semantics.specs.Computed.{initial}
use Rattle.semantics.specs.Machines.{IsGate, IsLine}
use Rattle.semantics.proofs.Depths.{depth}
use Rattle.engine.specs.Recordings.{begun}
use Rattle.engine.specs.Stores.{part}

module _ {V : Type 0} (filler : V) (stride : ℕ) (store : List (EventRecord V)) where
  -- the value in the base of a line
  abbrev pub base : ℕ → V
  base n = (slice_index_or store ((n - 1) * stride) (record { tick = 0; value = filler })).value

  -- all lines of a circuit have a base at tick 0 and no change
  abbrev pub AllBegun : Circuit → Type 0
  AllBegun c = (n : ℕ) → IsLine (topology c) n → part stride n store ≡ begun (part stride n store) (base n) filler

module _ {M : Type 0} (s : System M) (c : Circuit) where
  -- A gate's line gets what its gate makes of what the lines that it reads begin with, unless it is looped; and no other
  -- line gets another value.
  pub record SettledAt (line : ℕ) (begins begins' : ℕ → M) : Type 0 where
    pub its_own : IsGate (topology c) line → (Looped c line → ⊥) → begins' line ≡ gate_function s (gate_of_line c line).kind (map begins (reads c line))
    pub looped : IsGate (topology c) line → Looped c line → begins' line ≡ begins line
    pub no_gate : (IsGate (topology c) line → ⊥) → begins' line ≡ begins line
    pub others : (n : ℕ) → IsLine (topology c) n → (n ≢ line) → begins' n ≡ begins n

  -- Inputs, looped lines, and other gates' lines less deep than this begin as the rule says.
  abbrev pub RightTo : (ℕ → M) → ℕ → (ℕ → M) → Type 0
  RightTo start k begins = (n : ℕ) → IsLine (topology c) n → (IsGate (topology c) n → (Looped c n → ⊥) → depth c n < k) → begins n ≡ initial s c start n

  -- all lines begin as the rule says
  abbrev pub AllRight : (ℕ → M) → (ℕ → M) → Type 0
  AllRight start begins = (n : ℕ) → IsLine (topology c) n → begins n ≡ initial s c start n
