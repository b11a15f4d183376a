-- What a row of the table of gates shows, and how it keeps the lines that its gate reads.
use Rattle.std.specs.Prelude.{◌≡◌, ℕ, ◌-◌, ◌≤◌, Bool, false, List, ◌++◌, length, take, drop, replicate, flat_map, codes, decimal}
use Rattle.std.proofs.lemmas.List.{take-append-drop, length-take-le}
use Rattle.netlist.specs.declared.progress.Progress.{Progress}
use Rattle.netlist.specs.Gates.{Gate, kind_name}
use Rattle.netlist.specs.Walks.{no_gate}

-- a gate, whether its line is marked as looped, and how far that line has come
pub record MarkedGate : Type 0 where
  pub gate : Gate
  pub looped : Bool
  pub progress : Progress

-- a line that has not come further than tick 0, of which no change is kept
abbrev pub at_start : Progress
at_start = record { tick = 0; kept = 0 }

-- the row of a gate that was just drawn
abbrev pub drawn : Gate → MarkedGate
drawn gate = record { gate = gate; looped = false; progress = at_start }

-- a row that no gate has filled
abbrev pub empty : MarkedGate
empty = drawn no_gate

-- what `{}` prints of a gate
abbrev pub gate_text : Gate → List ℕ
gate_text gate = kind_name gate.kind ++ (codes ", delay " ++ (decimal gate.delay ++ (codes ", reads" ++ flat_map (λ line. codes " " ++ decimal line) gate.reads)))

-- so many lines stand in the first of four places, and 0 in the others
pub record IsPadded (places : List ℕ) (count : ℕ) : Type 0 where
  pub few : count ≤ 4
  pub four : length places ≡ 4
  pub spare : drop count places ≡ replicate (4 - count) 0

-- the lines in four places
abbrev pub padded : List ℕ → List ℕ
padded lines = lines ++ replicate (4 - length lines) 0

-- the places and their count are those of the lines that they hold
pub counted : (places : List ℕ) (count : ℕ) → IsPadded places count → length (take count places) ≡ count
counted places count h = length-take-le count places (rw h.four h.few)

pub padded_again : (places : List ℕ) (count : ℕ) → IsPadded places count → padded (take count places) ≡ places
padded_again places count h = rw (counted places count h, ← h.spare) (take-append-drop count places)
