-- The definitions yield the table.
use Rattle.std.proofs.Common.{ℕ, Bool, Option, List, false, [], ◌∷◌, refl, arith}
use Rattle.values.specs.Knowledge.{three_valued}
use Rattle.values.specs.Systems.{two_valued}
use Rattle.values.specs.declared.ternary.Ternary.TheVariants.{Zero, X}
use Rattle.semantics.specs.Computed.{initial, value, begin_to, follow_to, looped, leads}
use Rattle.semantics.specs.CircuitMachine.{machine}
use Rattle.semantics.specs.Logs.{Log}
use Rattle.semantics.specs.Moves.{made}
use Rattle.semantics.specs.Worked.{pulse, latch}
use Rattle.semantics.proofs.Comparing.{equal_bits, equal_values, same_values}
use Rattle.semantics.proofs.Testing as Testing
use Rattle.engine.specs.Answers.{Making}
use Rattle.engine.specs.Sessions.{given}
use Rattle.netlist.specs.Gates.{nothing}
use Rattle.cases.specs.Calls.{Call, Gives}
use Rattle.cases.specs.Cases.{Worked, AllYielded}
use Rattle.cases.specs.Table.{pulse_is_seen, taken_early, list_is_full, store_is_short, no_value_is_given, nothing_is_made, latch_is_set, all_is_refused, table}
use Rattle.cases.proofs.Calling.{gives}
use Rattle.cases.proofs.Finding.{found}
use Rattle.cases.proofs.Reading.{pulse_read, free_told, zero_first_told, blank_last_told, no_delay_told}

-- at first nothing is given
begun : (room : ℕ) → Log (machine two_valued pulse room) (made (given (λ v. v) false (false ∷ [])))
begun room = Testing.begun equal_bits two_valued pulse room (given (λ v. v) false (false ∷ []))

seen : Worked two_valued pulse_is_seen
unfolding initial value begin_to follow_to looped leads
seen = (Making.accepted (omega arith) (omega arith) refl, found (gives equal_bits two_valued pulse 2 refl _ (begun 2) (((2, 20) ∷ (3, 20) ∷ []) ∷ []) pulse_is_seen.calls) refl)

early : Worked two_valued taken_early
unfolding initial value begin_to follow_to looped leads
early = (Making.accepted (omega arith) (omega arith) refl, found (gives equal_bits two_valued pulse 2 refl _ (begun 2) (((2, 20) ∷ (3, 20) ∷ []) ∷ []) taken_early.calls) refl)

full : Worked two_valued list_is_full
unfolding initial value begin_to follow_to looped leads
full = (Making.accepted (omega arith) (omega arith) refl, found (gives equal_bits two_valued pulse 1 refl _ (begun 1) (((2, 20) ∷ (3, 12) ∷ []) ∷ ((3, 20) ∷ []) ∷ []) list_is_full.calls) refl)

refused : Worked two_valued all_is_refused
unfolding initial value begin_to follow_to looped leads
refused = (Making.accepted (omega arith) (omega arith) refl, found (gives equal_bits two_valued pulse 2 refl _ (begun 2) (((2, 20) ∷ []) ∷ ((3, 20) ∷ []) ∷ []) all_is_refused.calls) refl)

-- a session that was not made answers as one without lines
abbrev unmade : (takes : List (List (ℕ × ℕ))) (calls : List (Call Bool)) → Option (Gives (machine two_valued nothing 0) (made (λ n. false)) calls)
unmade takes calls = gives equal_bits two_valued nothing 0 refl _ (Testing.begun equal_bits two_valued nothing 0 (λ n. false)) takes calls

short : Worked two_valued store_is_short
unfolding initial value begin_to follow_to looped leads
short = (Making.few_records (omega arith) (omega arith), found (unmade [] store_is_short.calls) refl)

ungiven : Worked two_valued no_value_is_given
ungiven = (Making.other_starts (omega arith) (omega arith) (λ same. omega (arith, same)), tt)

not_made : Worked two_valued nothing_is_made
unfolding initial value begin_to follow_to looped leads
not_made = (Making.no_lines refl, found (unmade ([] ∷ []) nothing_is_made.calls) refl)

latched : Worked three_valued latch_is_set
unfolding same_values initial value begin_to follow_to looped leads
latched =
    (Making.accepted (omega arith) (omega arith) refl, found (gives equal_values three_valued latch 2 refl _ (Testing.begun equal_values three_valued latch 2 (given (λ v. v) X (Zero ∷ Zero ∷ []))) (((3, 1) ∷ (4, 2) ∷ (3, 3) ∷ (4, 4) ∷ (3, 5) ∷ (4, 6) ∷ (3, 7) ∷ (4, 8) ∷ (3, 9) ∷ (4, 10) ∷ (3, 10) ∷ []) ∷ []) latch_is_set.calls) refl)

pub all_yielded : AllYielded table
all_yielded = (seen, (early, (full, (short, (ungiven, (not_made, (latched, (refused, (pulse_read, (free_told, (zero_first_told, (blank_last_told, (no_delay_told, tt)))))))))))))
