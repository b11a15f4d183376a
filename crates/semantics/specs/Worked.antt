-- Worked logs, which show that there is something for the laws to speak of.
use Rattle.std.specs.Prelude.{ℕ, Bool, true, false, List, [], ◌∷◌, map, fold, Contains}
use Rattle.netlist.specs.declared.kind.Kind.{Kind}
use Rattle.netlist.specs.Gates.{Gate, Circuit}
use Rattle.netlist.specs.Judging.{AllReached}
use Rattle.netlist.specs.Walks.{Looped}
use Rattle.values.specs.Knowledge.{three_valued, stands_for}
use Rattle.values.specs.Systems.{two_valued}
use Rattle.values.specs.declared.ternary.Ternary.{Ternary}
use Rattle.values.specs.declared.ternary.Ternary.TheVariants.{Zero, One, X}
use Rattle.semantics.specs.Accounts.{Account, settled, KeptChanges}
use Rattle.semantics.specs.Circuits.{topology, Wired}
use Rattle.semantics.specs.Comparisons.{Alike, GivenTied}
use Rattle.semantics.specs.CircuitMachine.{machine}
use Rattle.semantics.specs.Distances.{Overfull}
use Rattle.semantics.specs.Logs.{Ending, Run, Steps, Log}
use Rattle.semantics.specs.Moves.{made, fed, held, taken, trimmed, CanTake, Rest}
use Rattle.semantics.specs.Machines.{Machine}

-- the account of a log at rest
pub record AtRest {M : Type 0} (s : Machine M) (a : Account M) : Type 0 where
  pub log : Log s a
  pub rest : Rest s a

abbrev pub settled_times : {M : Type 0} → Circuit → Account M → List ℕ → List ℕ
settled_times c a lines = map (settled (topology c) a) lines

-- A pulse: line 1 is an input, line 2 is NOT of it two ticks later, line 3 is AND of both one tick later.
abbrev pub not_gate : Gate
not_gate = record { kind = Kind.Not; delay = 2; reads = 1 ∷ [] }

abbrev pub and_gate : Gate
and_gate = record { kind = Kind.And; delay = 1; reads = 1 ∷ 2 ∷ [] }

abbrev pub pulse : Circuit
pulse = record { inputs = 1; gates = not_gate ∷ and_gate ∷ []; outputs = 3 ∷ [] }

-- two-valued, with room for so many changes of a line
abbrev pub bits : ℕ → Machine Bool
bits room = machine two_valued pulse room

-- line 1 is 0 at first, 1 from tick 10 on, and given below tick 20
abbrev pub given : Account Bool
given = held (fed (made (λ n. false)) 1 10 true) 1 20

-- With room for one change, a run makes two takes. Line 3 changes at 11, and is full at 13.
abbrev pub stopped : Account Bool
stopped = taken (taken given 2 20) 3 12

pub record FullLine : Type 0 where
  pub wired : Wired pulse
  pub reached : AllReached pulse
  pub run : Run (bits 1) 5 given stopped 2 Ending.rest
  pub rests : AtRest (bits 1) stopped
  pub kept : KeptChanges (bits 1) stopped 3 (11 ∷ [])
  pub overfull : Overfull (bits 1) stopped 3 13

-- Once that change is dropped, one more take brings it to rest again.
abbrev pub freed : Account Bool
freed = taken (trimmed stopped 12) 3 20

pub record FreedLine : Type 0 where
  pub steps : Steps (bits 1) stopped freed
  pub run : Run (bits 1) 5 (trimmed stopped 12) freed 1 Ending.rest
  pub rests : AtRest (bits 1) freed
  pub kept : KeptChanges (bits 1) freed 3 (13 ∷ [])

-- A line that reads the full one is held up with it.
abbrev pub pulse_and_on : Circuit
pulse_and_on = record { inputs = 1; gates = not_gate ∷ and_gate ∷ record { kind = Kind.Buf; delay = 4; reads = 3 ∷ [] } ∷ []; outputs = 4 ∷ [] }

abbrev pub held_up : Account Bool
held_up = taken stopped 4 13

pub record HeldUpLine : Type 0 where
  pub wired : Wired pulse_and_on
  pub run : Run (machine two_valued pulse_and_on 1) 5 given held_up 3 Ending.rest
  pub rests : AtRest (machine two_valued pulse_and_on 1) held_up

-- With room for two changes: one run, or gates taken in another order, or a run before the whole input is given.
abbrev pub at_once : Account Bool
at_once = taken (taken given 2 20) 3 20

abbrev pub early : Account Bool
early = taken given 3 2

abbrev pub early_first : Account Bool
early_first = taken (taken early 2 20) 3 20

abbrev pub first_stretch : Account Bool
first_stretch = taken (taken (fed (made (λ n. false)) 1 10 true) 2 11) 3 11

abbrev pub in_stretches : Account Bool
in_stretches = taken (taken (held first_stretch 1 20) 2 20) 3 20

pub record AnyOrder : Type 0 where
  pub run : Run (bits 2) 5 given at_once 2 Ending.rest
  pub rests : AtRest (bits 2) at_once
  pub early_take : CanTake (bits 2) given 3 2
  pub later_run : Run (bits 2) 5 early early_first 2 Ending.rest
  pub early_rests : AtRest (bits 2) early_first
  pub one_stretch : Run (bits 2) 5 (fed (made (λ n. false)) 1 10 true) first_stretch 2 Ending.rest
  pub other_stretch : Run (bits 2) 5 (held first_stretch 1 20) in_stretches 2 Ending.rest
  pub stretches_rest : AtRest (bits 2) in_stretches
  pub alike : Alike (bits 2) at_once in_stretches
  pub kept : KeptChanges (bits 2) in_stretches 3 (11 ∷ 13 ∷ [])

-- With room for two changes, line 2 was taken while line 1 was held to 5 only. So its front is ahead of that of line 3 when a
-- run begins, which takes line 3 first, and again at its end.
abbrev pub ahead : Account Bool
ahead = held (fed (taken (held (made (λ n. false)) 1 5) 2 5) 1 10 true) 1 20

abbrev pub caught_up : Account Bool
caught_up = taken (taken (taken ahead 3 7) 2 20) 3 20

pub record FrontAhead : Type 0 where
  pub log : Log (bits 2) ahead
  pub rests : AtRest (bits 2) caught_up
  pub short_run : Run (bits 2) 2 ahead (taken (taken ahead 3 7) 2 20) 2 Ending.more

-- In three values with room for three changes, X before tick 0. Line 1 changes at 0 and 10, line 2 at 2 and 12.
abbrev pub unknown : Account Ternary
unknown = held (fed (fed (made (λ n. X)) 1 0 Zero) 1 10 One) 1 20

abbrev pub known : Account Ternary
known = taken (taken unknown 2 20) 3 20

pub record KnownLines : Type 0 where
  pub rests : AtRest (machine three_valued pulse 3) known
  pub kept_by_first : KeptChanges (machine three_valued pulse 3) known 1 (0 ∷ 10 ∷ [])
  pub kept_by_second : KeptChanges (machine three_valued pulse 3) known 2 (2 ∷ 12 ∷ [])
  pub other_rests : AtRest (bits 1) stopped
  pub tied : GivenTied (machine three_valued pulse 3) (bits 1) (λ value bit. Contains (stands_for value) bit) known stopped

-- A latch: lines 1 and 2 are inputs, line 3 is NOR of lines 2 and 4, line 4 is NOR of lines 1 and 3, each one tick later.
abbrev pub latch : Circuit
latch = record { inputs = 2; gates = record { kind = Kind.Nor; delay = 1; reads = 2 ∷ 4 ∷ [] } ∷ record { kind = Kind.Nor; delay = 1; reads = 1 ∷ 3 ∷ [] } ∷ []; outputs = 3 ∷ [] }

-- line 1 is 1 from tick 0 on, line 2 is 0, and both are given below tick 10
abbrev pub set : Account Ternary
set = held (held (fed (made (λ n. Zero)) 1 0 One) 1 10) 2 10

-- gates taken one after another, each to its front
abbrev pub taken_each : {M : Type 0} → Account M → List (ℕ × ℕ) → Account M
taken_each a takes = fold (λ so_far take. taken so_far take.0 take.1) a takes

-- each gate in turn is taken as far as the lines that it reads are settled
abbrev pub latched : Account Ternary
latched = taken_each set ((3, 1) ∷ (4, 2) ∷ (3, 3) ∷ (4, 4) ∷ (3, 5) ∷ (4, 6) ∷ (3, 7) ∷ (4, 8) ∷ (3, 9) ∷ (4, 10) ∷ (3, 10) ∷ [])

pub record LatchedLines : Type 0 where
  pub wired : Wired latch
  pub looped : Looped latch 3
  pub run : Run (machine three_valued latch 2) 20 set latched 11 Ending.rest
  pub rests : AtRest (machine three_valued latch 2) latched
  pub kept_by_fourth : KeptChanges (machine three_valued latch 2) latched 4 (1 ∷ [])
  pub kept_by_third : KeptChanges (machine three_valued latch 2) latched 3 (2 ∷ [])
