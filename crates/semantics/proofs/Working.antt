-- The worked logs: each of their calls passes its test.
use Rattle.std.proofs.Common.{◌≡◌, ℕ, ◌≤◌, Bool, true, false, cond, ltb, [], ◌∷◌, refl, sym, subst, ◌⊎◌, ⊎_elim, arith, Contains}
use Rattle.netlist.specs.Gates.{Circuit}
use Rattle.netlist.specs.Judging.{AllReached}
use Rattle.netlist.specs.Walks.{Walk, Reached}
use Rattle.values.specs.Knowledge.{three_valued, stands_for}
use Rattle.values.specs.Systems.{two_valued}
use Rattle.values.specs.declared.ternary.Ternary.TheVariants.{Zero, One, X}
use Rattle.semantics.specs.Accounts.{KeptChanges}
use Rattle.semantics.specs.Computed.{initial, value, begin_to, follow_to, looped, leads}
use Rattle.semantics.specs.CircuitMachine.{machine}
use Rattle.semantics.specs.Logs.{Ending, Run, Step, Steps, Log}
use Rattle.semantics.specs.Moves.{made, fed, held, taken, trimmed, CanTake}
use Rattle.semantics.specs.Worked.{pulse, pulse_and_on, latch, bits, given, AtRest, stopped, FullLine, freed, FreedLine, held_up, HeldUpLine, at_once, early, early_first, first_stretch, in_stretches, AnyOrder, ahead, caught_up, FrontAhead, known, KnownLines, set, latched, LatchedLines}
use Rattle.semantics.proofs.Comparing.{equal_bits, equal_values, same_values}
use Rattle.semantics.proofs.Proved.{held as invariants}
use Rattle.semantics.proofs.Settling.{overfull}
use Rattle.semantics.proofs.Resting.{can_move}
use Rattle.semantics.proofs.Testing.{can_take, can_trim, overflows, listed_to, at_rest, begun, then_feed, then_hold, then_take, then_trim, then_run, each_take, run_to_rest, takeable}
use Rattle.semantics.proofs.Wiring.{input_range}

-- of bits in one circuit
module _ (c : Circuit) where
  bits_given : (room : ℕ) → Log (machine two_valued c room) (made (λ n. false))
  bits_given room = begun equal_bits two_valued c room (λ n. false)

-- with room for one change
full_run : Run (bits 1) 5 given stopped 2 Ending.rest
unfolding initial value begin_to follow_to looped leads
full_run = run_to_rest equal_bits two_valued pulse 1 given 5 ((2, 20) ∷ (3, 12) ∷ []) refl refl refl

given_log : Log (bits 1) given
unfolding initial value begin_to follow_to looped leads
given_log = then_hold equal_bits two_valued pulse 1 1 20 (then_feed equal_bits two_valued pulse 1 1 10 true (bits_given pulse 1) refl refl) refl

full_rests : AtRest (bits 1) stopped
unfolding initial value begin_to follow_to looped leads
full_rests = record { log = then_run equal_bits two_valued pulse 1 given_log full_run; rest = at_rest equal_bits two_valued pulse 1 stopped refl }

-- both gates read line 1
pub reached : AllReached pulse
reached n past below =
    ⊎_elim (λ is. subst (Reached pulse) (sym is) (record { from = 1; not_before = omega arith; not_after = omega arith; walk = Walk.step (record { place = 0; within = omega arith; is = refl }) }))
    (λ is. subst (Reached pulse) (sym is) (record { from = 1; not_before = omega arith; not_after = omega arith; walk = Walk.step (record { place = 0; within = omega arith; is = refl }) })) two
  where
    two : (n ≡ 2) ⊎ (n ≡ 3)
    two = grind arith

pub full_line : FullLine
unfolding initial value begin_to follow_to looped leads
full_line = record {
  wired = refl;
  reached = reached;
  run = full_run;
  rests = full_rests;
  kept = listed_to equal_bits two_valued pulse 1 stopped 3 13 (11 ∷ []) (omega arith) refl;
  overfull = overfull (bits 1) stopped (invariants two_valued pulse 1 refl stopped full_rests.log) 3 refl (omega arith) (overflows equal_bits two_valued pulse 1 stopped 3 13 refl);
}

-- with the first change dropped
freed_run : Run (bits 1) 5 (trimmed stopped 12) freed 1 Ending.rest
unfolding initial value begin_to follow_to looped leads
freed_run = run_to_rest equal_bits two_valued pulse 1 (trimmed stopped 12) 5 ((3, 20) ∷ []) refl refl refl

pub freed_line : FreedLine
unfolding initial value begin_to follow_to looped leads
freed_line = record {
  steps = Steps.then (Steps.then Steps.none (Step.trim (can_trim equal_bits two_valued pulse 1 stopped 12 refl))) (Step.run freed_run);
  run = freed_run;
  rests = record {
    log = then_run equal_bits two_valued pulse 1 (then_trim equal_bits two_valued pulse 1 12 full_rests.log refl) freed_run;
    rest = at_rest equal_bits two_valued pulse 1 freed refl;
  };
  kept = listed_to equal_bits two_valued pulse 1 freed 3 21 (13 ∷ []) (omega arith) refl;
}

-- with a line that reads the full one
held_up_run : Run (machine two_valued pulse_and_on 1) 5 given held_up 3 Ending.rest
unfolding initial value begin_to follow_to looped leads
held_up_run = run_to_rest equal_bits two_valued pulse_and_on 1 given 5 ((2, 20) ∷ (3, 12) ∷ (4, 13) ∷ []) refl refl refl

pub held_up_line : HeldUpLine
unfolding initial value begin_to follow_to looped leads
held_up_line = record {
  wired = refl;
  run = held_up_run;
  rests = record {
    log =
        then_run equal_bits two_valued pulse_and_on 1
        (then_hold equal_bits two_valued pulse_and_on 1 1 20 (then_feed equal_bits two_valued pulse_and_on 1 1 10 true (bits_given pulse_and_on 1) refl refl) refl) held_up_run;
    rest = at_rest equal_bits two_valued pulse_and_on 1 held_up refl;
  };
}

-- with room for two changes
fed_log : Log (bits 2) (fed (made (λ n. false)) 1 10 true)
unfolding initial value begin_to follow_to looped leads
fed_log = then_feed equal_bits two_valued pulse 2 1 10 true (bits_given pulse 2) refl refl

at_once_run : Run (bits 2) 5 given at_once 2 Ending.rest
unfolding initial value begin_to follow_to looped leads
at_once_run = run_to_rest equal_bits two_valued pulse 2 given 5 ((2, 20) ∷ (3, 20) ∷ []) refl refl refl

one_stretch : Run (bits 2) 5 (fed (made (λ n. false)) 1 10 true) first_stretch 2 Ending.rest
unfolding initial value begin_to follow_to looped leads
one_stretch = run_to_rest equal_bits two_valued pulse 2 (fed (made (λ n. false)) 1 10 true) 5 ((2, 11) ∷ (3, 11) ∷ []) refl refl refl

other_stretch : Run (bits 2) 5 (held first_stretch 1 20) in_stretches 2 Ending.rest
unfolding initial value begin_to follow_to looped leads
other_stretch = run_to_rest equal_bits two_valued pulse 2 (held first_stretch 1 20) 5 ((2, 20) ∷ (3, 20) ∷ []) refl refl refl

early_take : CanTake (bits 2) given 3 2
unfolding initial value begin_to follow_to looped leads
early_take = can_take equal_bits two_valued pulse 2 given 3 2 refl

later_run : Run (bits 2) 5 early early_first 2 Ending.rest
unfolding initial value begin_to follow_to looped leads
later_run = run_to_rest equal_bits two_valued pulse 2 early 5 ((2, 20) ∷ (3, 20) ∷ []) refl refl refl

pub any_order : AnyOrder
unfolding initial value begin_to follow_to looped leads
any_order = record {
  run = at_once_run;
  rests = record { log = then_run equal_bits two_valued pulse 2 (then_hold equal_bits two_valued pulse 2 1 20 fed_log refl) at_once_run; rest = at_rest equal_bits two_valued pulse 2 at_once refl };
  early_take = early_take;
  later_run = later_run;
  early_rests = record {
    log = then_run equal_bits two_valued pulse 2 (then_take equal_bits two_valued pulse 2 3 2 (then_hold equal_bits two_valued pulse 2 1 20 fed_log refl) refl) later_run;
    rest = at_rest equal_bits two_valued pulse 2 early_first refl;
  };
  one_stretch = one_stretch;
  other_stretch = other_stretch;
  stretches_rest = record {
    log = then_run equal_bits two_valued pulse 2 (then_hold equal_bits two_valued pulse 2 1 20 (then_run equal_bits two_valued pulse 2 fed_log one_stretch) refl) other_stretch;
    rest = at_rest equal_bits two_valued pulse 2 in_stretches refl;
  };
  alike = record { starts = λ n an_input. refl; ends = λ n an_input. ends n (input_range pulse n an_input); waveforms = λ n t an_input within. refl; trims = refl };
  kept = listed_to equal_bits two_valued pulse 2 in_stretches 3 21 (11 ∷ 13 ∷ []) (omega arith) refl;
}
  where
    ends : (n : ℕ) → (1 ≤ n) × (n ≤ 1) → at_once.end n ≡ in_stretches.end n
    ends n range = let is : n ≡ 1 = omega (arith, range.0, range.1) in subst (λ k. at_once.end k ≡ in_stretches.end k) (sym is) refl

-- with a front ahead
pub ahead_run : Run (bits 2) 5 ahead caught_up 3 Ending.rest
unfolding initial value begin_to follow_to looped leads
ahead_run = run_to_rest equal_bits two_valued pulse 2 ahead 5 ((3, 7) ∷ (2, 20) ∷ (3, 20) ∷ []) refl refl refl

ahead_log : Log (bits 2) ahead
unfolding initial value begin_to follow_to looped leads
ahead_log =
    then_hold equal_bits two_valued pulse 2 1 20
    (then_feed equal_bits two_valued pulse 2 1 10 true (then_take equal_bits two_valued pulse 2 2 5 (then_hold equal_bits two_valued pulse 2 1 5 (bits_given pulse 2) refl) refl) refl refl) refl

pub front_ahead : FrontAhead
unfolding initial value begin_to follow_to looped leads
front_ahead = record {
  log = ahead_log;
  rests = record { log = then_run equal_bits two_valued pulse 2 ahead_log ahead_run; rest = at_rest equal_bits two_valued pulse 2 caught_up refl };
  short_run =
      Run.to_count (each_take equal_bits two_valued pulse 2 ahead ((3, 7) ∷ (2, 20) ∷ []) refl) (can_move (bits 2) (taken (taken ahead 3 7) 2 20) 3 (takeable equal_bits two_valued pulse 2 (taken (taken ahead 3 7) 2 20) 3 20 refl));
}

-- in three values
known_rests : AtRest (machine three_valued pulse 3) known
unfolding same_values initial value begin_to follow_to looped leads
known_rests = record {
  log =
      then_take equal_values three_valued pulse 3 3 20
      (then_take equal_values three_valued pulse 3 2 20
      (then_hold equal_values three_valued pulse 3 1 20
      (then_feed equal_values three_valued pulse 3 1 10 One (then_feed equal_values three_valued pulse 3 1 0 Zero (begun equal_values three_valued pulse 3 (λ n. X)) refl refl) refl refl) refl) refl) refl;
  rest = at_rest equal_values three_valued pulse 3 known refl;
}

pub kept_by_third : KeptChanges (machine three_valued pulse 3) known 3 (1 ∷ 11 ∷ 13 ∷ [])
unfolding same_values initial value begin_to follow_to looped leads
kept_by_third = listed_to equal_values three_valued pulse 3 known 3 21 (1 ∷ 11 ∷ 13 ∷ []) (omega arith) refl

-- 0 from tick 0 on, and 1 from tick 10 on, in both
either_way : (b d : Bool) → Contains (stands_for (cond b (cond d X Zero) One)) (cond b false true)
either_way true true = (0, omega arith, refl)
either_way true false = (0, omega arith, refl)
either_way false d = (0, omega arith, refl)

pub known_lines : KnownLines
unfolding same_values initial value begin_to follow_to looped leads
known_lines = record {
  rests = known_rests;
  kept_by_first = listed_to equal_values three_valued pulse 3 known 1 20 (0 ∷ 10 ∷ []) (omega arith) refl;
  kept_by_second = listed_to equal_values three_valued pulse 3 known 2 22 (2 ∷ 12 ∷ []) (omega arith) refl;
  other_rests = full_rests;
  tied = record {
    starts = λ n an_input. (0, omega arith, refl);
    waveforms = λ n t an_input here there.
        let r = input_range pulse n an_input in
        let is : n ≡ 1 = omega arith in
        subst (λ k. Contains (stands_for (known.waveform k t)) (stopped.waveform k t)) (sym is) (either_way (ltb t 10) (ltb t 0));
  };
}

-- in a loop
latched_run : Run (machine three_valued latch 2) 20 set latched 11 Ending.rest
unfolding same_values initial value begin_to follow_to looped leads
latched_run =
    run_to_rest equal_values three_valued latch 2 set 20 ((3, 1) ∷ (4, 2) ∷ (3, 3) ∷ (4, 4) ∷ (3, 5) ∷ (4, 6) ∷ (3, 7) ∷ (4, 8) ∷ (3, 9) ∷ (4, 10) ∷ (3, 10) ∷ []) refl refl refl

latched_log : Log (machine three_valued latch 2) set
unfolding same_values initial value begin_to follow_to looped leads
latched_log =
    then_hold equal_values three_valued latch 2 2 10
    (then_hold equal_values three_valued latch 2 1 10 (then_feed equal_values three_valued latch 2 1 0 One (begun equal_values three_valued latch 2 (λ n. Zero)) refl refl) refl) refl

pub latched_lines : LatchedLines
unfolding same_values initial value begin_to follow_to looped leads
latched_lines = record {
  wired = refl;
  looped =
      Walk.on {j = 4} (record { place = 1; within = omega arith; is = refl }) (Walk.step (record { place = 1; within = omega arith; is = refl }));
  run = latched_run;
  rests = record { log = then_run equal_values three_valued latch 2 latched_log latched_run; rest = at_rest equal_values three_valued latch 2 latched refl };
  kept_by_fourth = listed_to equal_values three_valued latch 2 latched 4 11 (1 ∷ []) (omega arith) refl;
  kept_by_third = listed_to equal_values three_valued latch 2 latched 3 11 (2 ∷ []) (omega arith) refl;
}
