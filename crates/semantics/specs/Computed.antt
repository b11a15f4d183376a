-- Initial values and values, computed. How they are need not be read: it is a law that they obey the rule, and that nothing
-- else does.
use Rattle.std.specs.Prelude.{ℕ, zero, suc, ◌-◌, Bool, true, false, ◌&&◌, ◌||◌, map, nat_lt, ◌==◌}
use Rattle.std.specs.List.{list_any}
use Rattle.netlist.specs.Gates.{Circuit}
use Rattle.netlist.specs.Walks.{reads}
use Rattle.values.specs.Systems.{System}
use Rattle.gates.specs.Functions.{gate_function}
use Rattle.semantics.specs.Circuits.{lines, gate_of_line, driver}
use Rattle.semantics.specs.Machines.Driver.{undriven, input, gate}

-- a walk leads from line m to line n whose inner lines are all below k
unfoldable pub leads : Circuit → ℕ → ℕ → ℕ → Bool
leads c zero m n = list_any (λ j. j == m) (reads c n)
leads c (suc k) m n = leads c k m n || (leads c k m k && leads c k k n)

-- a walk leads from line n back to itself
unfoldable pub looped : Circuit → ℕ → Bool
looped c n = leads c (suc (lines c)) n n

module _ {M : Type 0} (s : System M) (c : Circuit) (start : ℕ → M) where
  -- the initial value of a line, where those of the lines that its gate reads are known
  abbrev pub begin : (ℕ → M) → ℕ → M
  begin known n = elim (driver c n) [ undriven ↦ s.start | input ↦ start n | gate ↦ elim (looped c n) [ true ↦ s.start | false ↦ gate_function s (gate_of_line c n).kind (map known (reads c n)) ] ]

  -- initial values to a depth of so many gates
  unfoldable pub begin_to : ℕ → ℕ → M
  begin_to zero n = s.start
  begin_to (suc depth) n = begin (begin_to depth) n

  -- the initial value of a line; no line is deeper than there are lines
  unfoldable pub initial : ℕ → M
  initial n = begin_to (suc (lines c)) n

  module _ (waveform : ℕ → ℕ → M) where
    -- the value of a line at a tick, where those of the lines that its gate reads are known at earlier ticks
    abbrev pub follow : (ℕ → ℕ → M) → ℕ → ℕ → M
    follow known n t =
        elim (driver c n) [
          | undriven ↦ s.start
          | input ↦ waveform n t
          | gate ↦
              elim (nat_lt t (gate_of_line c n).delay) [
                | true ↦ initial n
                | false ↦ gate_function s (gate_of_line c n).kind (map (λ m. known m (t - (gate_of_line c n).delay)) (reads c n))
              ]
        ]

    -- values to a depth of so many gates
    unfoldable pub follow_to : ℕ → ℕ → ℕ → M
    follow_to zero n t = s.start
    follow_to (suc depth) n t = follow (follow_to depth) n t

    -- the value of a line at a tick; every gate takes a tick at least
    unfoldable pub value : ℕ → ℕ → M
    value n t = follow_to (suc t) n t
