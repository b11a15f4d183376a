-- The rule of a line, as what initial values and values have to obey.
use Rattle.std.specs.Prelude.{◌≡◌, ℕ, ◌+◌, ◌<◌, map}
use Rattle.netlist.specs.Gates.{Circuit}
use Rattle.netlist.specs.Walks.{reads, Looped}
use Rattle.values.specs.Systems.{System}
use Rattle.gates.specs.Functions.{gate_function}
use Rattle.semantics.specs.Machines.{IsInput, IsGate}
use Rattle.semantics.specs.Circuits.{topology, gate_of_line}

module _ {M : Type 0} (s : System M) (c : Circuit) where
  -- An input begins with the value given for it, a looped gate line with START, and any other gate line with the function of
  -- its gate of what the lines that it reads begin with.
  pub record Begins (start initial : ℕ → M) : Type 0 where
    pub at_inputs : (n : ℕ) → IsInput (topology c) n → initial n ≡ start n
    pub at_looped : (n : ℕ) → IsGate (topology c) n → Looped c n → initial n ≡ s.start
    pub at_others : (n : ℕ) → IsGate (topology c) n → (Looped c n → ⊥) → initial n ≡ gate_function s (gate_of_line c n).kind (map initial (reads c n))

  -- An input has the values fed to it. A gate line has its initial value below its gate's delay, and from there on, one delay
  -- later, the function of its gate of the values of the lines that it reads.
  pub record Obeys (initial : ℕ → M) (waveform value : ℕ → ℕ → M) : Type 0 where
    pub at_inputs : (n t : ℕ) → IsInput (topology c) n → value n t ≡ waveform n t
    pub below_delay : (n t : ℕ) → IsGate (topology c) n → t < (gate_of_line c n).delay → value n t ≡ initial n
    pub one_delay_later : (n t : ℕ) → IsGate (topology c) n → value n (t + (gate_of_line c n).delay) ≡ gate_function s (gate_of_line c n).kind (map (λ m. value m t) (reads c n))
