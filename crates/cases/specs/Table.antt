-- The table of worked cases.
use Rattle.std.specs.Prelude.{Bool, true, false, List, [], ◌∷◌, Ok, Err, codes}
use Rattle.netlist.specs.Gates.{nothing}
use Rattle.values.specs.declared.ternary.Ternary.{Ternary}
use Rattle.values.specs.declared.ternary.Ternary.TheVariants.{Zero, One}
use Rattle.deck.specs.Outcomes.{used, fault}
use Rattle.semantics.specs.Logs.{Ending}
use Rattle.semantics.specs.Worked.{pulse, latch}
use Rattle.cases.specs.Calls.{feed, hold, take, run, trim, value_at, event, state, changes, distance, at_rest}
use Rattle.cases.specs.Cases.{Job, Case, in_bits, in_three_values, deck}

-- In `pulse`, line 1 is an input, line 2 is NOT of it two ticks later, and line 3 is AND of both one tick later. Line 1 is 0
-- at first, 1 from tick 10 on, and given below tick 20.

-- There is room for two changes of each line.
abbrev pub pulse_is_seen : Job Bool
pulse_is_seen = record {
  circuit = pulse;
  records = 9;
  starts = false ∷ [];
  making = Ok tt;
  calls =
      feed 1 10 true (Ok tt)
      ∷ hold 1 20 (Ok tt)
      ∷ run 5 2 Ending.rest
      ∷ changes 1 ((10, true) ∷ [])
      ∷ changes 2 ((12, false) ∷ [])
      ∷ changes 3 ((11, true) ∷ (13, false) ∷ [])
      ∷ distance 1 20
      ∷ distance 2 22
      ∷ distance 3 21
      ∷ value_at 3 20 (Ok false)
      ∷ value_at 3 21 (Err 15)
      ∷ trim 21 (Err 15)
      ∷ trim 20 (Ok tt)
      ∷ value_at 3 20 (Ok false)
      ∷ feed 1 19 false (Err 13)
      ∷ feed 1 20 false (Ok tt)
      ∷ [];
}

-- Line 3 is taken before line 2.
abbrev pub taken_early : Job Bool
taken_early = record {
  circuit = pulse;
  records = 9;
  starts = false ∷ [];
  making = Ok tt;
  calls =
      feed 1 10 true (Ok tt)
      ∷ hold 1 20 (Ok tt)
      ∷ take 3 (Ok 3)
      ∷ run 5 2 Ending.rest
      ∷ distance 1 20
      ∷ distance 2 22
      ∷ distance 3 21
      ∷ [];
}

-- There is room for one change of each line: line 3 stops at its second, and goes on once the first is dropped.
abbrev pub list_is_full : Job Bool
list_is_full = record {
  circuit = pulse;
  records = 6;
  starts = false ∷ [];
  making = Ok tt;
  calls =
      feed 1 10 true (Ok tt)
      ∷ hold 1 20 (Ok tt)
      ∷ run 5 2 Ending.rest
      ∷ distance 3 13
      ∷ state 3 (Ok (13, 1))
      ∷ take 3 (Err 16)
      ∷ feed 1 20 false (Err 16)
      ∷ trim 12 (Ok tt)
      ∷ run 5 1 Ending.rest
      ∷ distance 3 21
      ∷ changes 3 ((13, false) ∷ [])
      ∷ [];
}

-- Five records are too few for three lines; nor can a session be made of no lines, or without a value for the input. A session
-- that could not be made has no lines.
abbrev pub store_is_short : Job Bool
store_is_short = record { circuit = pulse; records = 5; starts = false ∷ []; making = Err 10; calls = feed 1 10 true (Err 12) ∷ [] }

abbrev pub no_value_is_given : Job Bool
no_value_is_given = record { circuit = pulse; records = 9; starts = []; making = Err 11; calls = [] }

abbrev pub nothing_is_made : Job Bool
nothing_is_made = record {
  circuit = nothing;
  records = 9;
  starts = [];
  making = Err 8;
  calls =
      feed 1 10 true (Err 12)
      ∷ hold 1 10 (Err 12)
      ∷ take 1 (Err 12)
      ∷ run 5 0 Ending.rest
      ∷ at_rest
      ∷ trim 0 (Err 15)
      ∷ value_at 1 0 (Err 12)
      ∷ event 1 0 (Err 12)
      ∷ state 1 (Err 12)
      ∷ [];
}

-- In `latch`, lines 1 and 2 are inputs, line 3 is NOR of lines 2 and 4, and line 4 is NOR of lines 1 and 3, each one tick
-- later. Line 1 is 1 from tick 0 on.
abbrev pub latch_is_set : Job Ternary
latch_is_set = record {
  circuit = latch;
  records = 12;
  starts = Zero ∷ Zero ∷ [];
  making = Ok tt;
  calls =
      feed 1 0 One (Ok tt)
      ∷ hold 1 10 (Ok tt)
      ∷ hold 2 10 (Ok tt)
      ∷ run 20 11 Ending.rest
      ∷ changes 4 ((1, Zero) ∷ [])
      ∷ changes 3 ((2, One) ∷ [])
      ∷ distance 3 11
      ∷ distance 4 11
      ∷ [];
}

-- Each call of a made session is refused in each way, but for a list that is full. Where one call can be refused in two ways,
-- the first counts.
abbrev pub all_is_refused : Job Bool
all_is_refused = record {
  circuit = pulse;
  records = 9;
  starts = false ∷ [];
  making = Ok tt;
  calls =
      feed 1 10 true (Ok tt)
      ∷ hold 1 20 (Ok tt)
      ∷ run 1 1 Ending.more
      ∷ run 5 1 Ending.rest
      ∷ at_rest
      ∷ trim 10 (Ok tt)
      ∷ feed 0 30 true (Err 12)
      ∷ feed 2 30 true (Err 12)
      ∷ feed 1 19 true (Err 13)
      ∷ feed 1 2000000000 true (Err 14)
      ∷ hold 3 30 (Err 12)
      ∷ hold 1 19 (Err 13)
      ∷ hold 1 2000000001 (Err 14)
      ∷ take 1 (Err 12)
      ∷ take 4 (Err 12)
      ∷ take 2 (Err 17)
      ∷ trim 9 (Err 13)
      ∷ trim 21 (Err 15)
      ∷ value_at 4 10 (Err 12)
      ∷ value_at 3 9 (Err 13)
      ∷ value_at 3 21 (Err 15)
      ∷ value_at 2 11 (Ok true)
      ∷ event 0 0 (Err 12)
      ∷ event 3 2 (Err 18)
      ∷ event 3 1 (Ok (13, false))
      ∷ state 4 (Err 12)
      ∷ state 2 (Ok (22, 1))
      ∷ hold 1 40 (Ok tt)
      ∷ trim 30 (Err 15)
      ∷ [];
}

abbrev pub table : List Case
table =
    in_bits pulse_is_seen
    ∷ in_bits taken_early
    ∷ in_bits list_is_full
    ∷ in_bits store_is_short
    ∷ in_bits no_value_is_given
    ∷ in_bits nothing_is_made
    ∷ in_three_values latch_is_set
    ∷ in_bits all_is_refused
    ∷ deck (codes "N   1   2   1" ∷ codes "I   1" ∷ codes "G   2NOT     2   1" ∷ codes "G   3AND     1   1   2" ∷ codes "O   3" ∷ codes "E" ∷ []) (used 70) pulse
    ∷ deck (codes "N   1   1   1" ∷ codes "I   1" ∷ codes "G   2NOT     1   2" ∷ codes "O   2" ∷ codes "E" ∷ []) (fault (record { number = 9; layer = 78; at = 3; column = 1 })) nothing
    ∷ deck (codes "N   1   1   1" ∷ codes "I  01" ∷ []) (fault (record { number = 4; layer = 70; at = 2; column = 2 })) nothing
    ∷ deck (codes "N   1   1   1" ∷ codes "I  1 " ∷ []) (fault (record { number = 4; layer = 70; at = 2; column = 2 })) nothing
    ∷ deck (codes "N   1   1   1" ∷ codes "I   1" ∷ codes "G   2NOT     0   1" ∷ []) (fault (record { number = 5; layer = 82; at = 3; column = 10 })) nothing
    ∷ []
