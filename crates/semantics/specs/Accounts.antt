-- What a session stands for: what it was given, and how far each line is settled.
use Rattle.std.specs.Prelude.{◌≡◌, ℕ, zero, suc, ◌+◌, ◌≤◌, min, List, [], ◌∷◌, map, fold}
use Rattle.semantics.specs.Changes.{Changes, Exactly}
use Rattle.semantics.specs.Machines.{Topology, Machine}
use Rattle.semantics.specs.Machines.Driver.{undriven, input, gate}

-- An input has an initial value, and a waveform, its value at each tick. Its end is the tick below which it has been given
-- values; from there on its waveform keeps the last of them. A gate has a front, up to which it has followed the lines that
-- it reads. Changes are kept from the trim tick on.
pub record Account (M : Type 0) : Type 0 where
  pub start : ℕ → M
  pub waveform : ℕ → ℕ → M
  pub end : ℕ → ℕ
  pub front : ℕ → ℕ
  pub trim : ℕ

-- the least of some ticks, of which there is at least one
abbrev pub least : List ℕ → ℕ
least [] = 0
least (t ∷ ts) = fold min t ts

module _ {M : Type 0} where
  -- A line is settled below this tick: an input up to its end, a gate line up to its front plus its gate's lag.
  abbrev pub settled : Topology → Account M → ℕ → ℕ
  settled topology a n = elim (topology.driver n) [ undriven ↦ 0 | input ↦ a.end n | gate ↦ a.front n + topology.lag n ]

  -- A gate's goal is the least settled time of the lines that it reads: its front moves up to there and no further.
  abbrev pub goal : Topology → Account M → ℕ → ℕ
  goal topology a n = least (map (settled topology a) (topology.reads n))

  module _ (s : Machine M) (a : Account M) (n : ℕ) where
    abbrev pub initial : M
    initial = s.rule.initial a.start n

    abbrev pub value : ℕ → M
    value t = s.rule.value a.start a.waveform n t

    -- the value at the tick before, which before tick 0 is the initial value
    abbrev pub before : ℕ → M
    before zero = initial
    before (suc t) = value t

    -- A line is stable at a tick where its value is that of the tick before; else it changes there.
    abbrev pub Stable : ℕ → Type 0
    Stable t = value t ≡ before t

    -- the kept changes: all from the trim tick on and below the settled time
    abbrev pub KeptChanges : List ℕ → Type 0
    KeptChanges ts = Changes Stable (settled s.topology a n) a.trim ts

    -- at a tick comes a change that would be kept, for which there is no room
    pub record Overflows (t : ℕ) : Type 0 where
      pub from_trim : a.trim ≤ t
      pub changes : Stable t → ⊥
      pub room_is_full : Exactly s.room Stable a.trim t
