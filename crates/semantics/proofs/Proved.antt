-- The laws, for the rule of circuits.
use Rattle.std.proofs.Common.{◌≡◌, ℕ, suc, ◌+◌, ◌*◌, length, refl, ⊎_elim, arith}
use Rattle.netlist.specs.Gates.{Circuit}
use Rattle.netlist.specs.Judging.{AllReached}
use Rattle.netlist.specs.Walks.{Reached}
use Rattle.values.specs.Relations.{Kept}
use Rattle.values.specs.Systems.{System}
use Rattle.semantics.specs.Accounts.{Account, value, before}
use Rattle.semantics.specs.Circuits.{lines, topology, Wired}
use Rattle.semantics.specs.CircuitMachine.{rule, machine}
use Rattle.semantics.specs.Laws.{RuleDeterminesValues, LogsAreInOrder, KeptChangesFit, GatesRestOrCanBeTaken, RestIsWhereNoGateCanBeTaken, CallsAreDetermined, RunsHaveOutcomes, RunsComeToRest, SettledValuesStay, SettledTimesAreBounded, TakesAreBounded, SettledIsTheDistance, AlikeRestsAgree, TiesLines}
use Rattle.semantics.specs.Logs.{Log}
use Rattle.semantics.specs.Machines.{IsGate}
use Rattle.semantics.proofs.Agreeing.{agree}
use Rattle.semantics.proofs.Bounding.{bound, bounded}
use Rattle.semantics.proofs.Goals.{goal_attained}
use Rattle.semantics.proofs.Invariants.{Invariant}
use Rattle.semantics.proofs.Keeping.{log_held, steps_go, takes_go}
use Rattle.semantics.proofs.Listing.{one_list}
use Rattle.semantics.proofs.Outcomes.{one_front, one_run}
use Rattle.semantics.proofs.Ranking.{settled_most}
use Rattle.semantics.proofs.Reaching.{outcome, comes_to_rest}
use Rattle.semantics.proofs.Resting.{resting, no_rest, can_move, rests_or_moves, rest_is_where_none}
use Rattle.semantics.proofs.Ruling.{begins, obeys, only_initials, only_values, rule_carries, rule_local}
use Rattle.semantics.proofs.Settling.{settled_is_distance}
use Rattle.semantics.proofs.Spending.{takes_most}
use Rattle.semantics.proofs.Tying.{lines_tied}
use Rattle.semantics.proofs.Wiring.{gate_range, gate_below, sound}

module _ {M : Type 0} (s : System M) (c : Circuit) where
  pub rule_determines_values : Wired c → RuleDeterminesValues s c
  rule_determines_values wired start waveform = record {
    begins = begins s c wired start;
    obeys = obeys s c wired start waveform;
    no_other_begins = only_initials s c wired start;
    no_other_obeys = λ init v from obeyed. only_values s c wired start init from waveform v obeyed;
  }

  pub calls_are_determined : (room : ℕ) → CallsAreDetermined (machine s c room)
  calls_are_determined room a = record { take = one_front (machine s c room) a; run = λ most count other ending otherwise b d one two. one_run (machine s c room) one two }

  module _ (room : ℕ) (wired : Wired c) where
    pub held : (a : Account M) → Log (machine s c room) a → Invariant (machine s c room) a
    held a log = log_held (machine s c room) (rule_local s c wired) log

    pub logs_are_in_order : LogsAreInOrder (machine s c room)
    logs_are_in_order a log =
        let h = held a log in
        record {
          ends = h.ends_in_time;
          trim_within_ends = h.input_reaches;
          trim_within_fronts = h.front_reaches;
          fronts_within_goals = λ n a_gate. let found = goal_attained (topology c) a n (sound c wired) a_gate in let f = h.follows n found.line a_gate found.among in omega (arith, found.is);
          last_value_kept = h.input_keeps;
        }

    pub kept_changes_fit : KeptChangesFit (machine s c room)
    kept_changes_fit a log = record { in_room = (held a log).fits; one_list = λ n ts us kept other. one_list kept other }

    pub gates_rest_or_can_be_taken : GatesRestOrCanBeTaken (machine s c room)
    gates_rest_or_can_be_taken a log n a_gate = record {
      one_of_both = λ told. rests_or_moves (machine s c room) a (held a log) n a_gate told (sound c wired);
      not_both = resting (machine s c room) a n;
      moves = can_move (machine s c room) a n;
      moves_so = λ told moves. ⊎_elim (λ rests. absurd (no_rest (machine s c room) a n rests moves)) (λ able. able) (rests_or_moves (machine s c room) a (held a log) n a_gate told (sound c wired));
    }

    pub rest_is_where_no_gate_can_be_taken : ((x y : M) → Dec (x ≡ y)) → RestIsWhereNoGateCanBeTaken (machine s c room)
    rest_is_where_no_gate_can_be_taken told a log =
        rest_is_where_none (machine s c room) a (held a log) (sound c wired) (λ n a_gate t from to. told (value (machine s c room) a n t) (before (machine s c room) a n t))

    pub runs_have_outcomes : ((x y : M) → Dec (x ≡ y)) → RunsHaveOutcomes (machine s c room)
    runs_have_outcomes compared a log most = outcome (machine s c room) (sound c wired) (suc (lines c)) (gate_below c) compared most a (held a log)

    pub runs_come_to_rest : ((x y : M) → Dec (x ≡ y)) → AllReached c → RunsComeToRest (machine s c room)
    runs_come_to_rest compared reached a log =
        let by_line : (n : ℕ) → IsGate (topology c) n → Reached c n = λ n a_gate. let range = gate_range c n a_gate in reached n range.0 (omega (arith, range.1)) in
        comes_to_rest (machine s c room) (sound c wired) (suc (lines c)) (gate_below c) compared a.end (bound c (rule s c) room a.end by_line) (bounded c (rule s c) room a.end by_line) a refl (held a log)

    pub settled_values_stay : SettledValuesStay (machine s c room)
    settled_values_stay a b log steps = (steps_go (machine s c room) (rule_local s c wired) (held a log) steps).stays

    pub settled_times_are_bounded : AllReached c → SettledTimesAreBounded (machine s c room) (2000000000 + 65535 * lines c)
    settled_times_are_bounded reached a log = settled_most s c room wired a (held a log) reached

    pub takes_are_bounded : AllReached c → TakesAreBounded (machine s c room) (length c.gates * (2000000000 + 65535 * lines c))
    takes_are_bounded reached a b count log takes = takes_most c (rule s c) room (2000000000 + 65535 * lines c) (settled_most s c room wired b (takes_go (machine s c room) (rule_local s c wired) (held a log) takes).held reached) takes

    pub settled_is_the_distance : SettledIsTheDistance (machine s c room)
    settled_is_the_distance a log rest = settled_is_distance (machine s c room) a (held a log) (sound c wired) rest

    pub alike_rests_agree : AlikeRestsAgree (machine s c room)
    alike_rests_agree a b log other rest other_rest alike = agree (machine s c room) (sound c wired) (rule_local s c wired) a b (held a log) (held b other) rest other_rest alike

module _ {M N : Type 0} (s : System M) (q : System N) (c : Circuit) (room other : ℕ) where
  pub ties_lines : Wired c → (R : M → N → Type 0) → Kept s q R → TiesLines (machine s c room) (machine q c other) R
  ties_lines wired R kept a b log log' given =
      lines_tied (topology c) (rule s c) (rule q c) room other R (rule_carries s q c wired R kept) a b (held s c room wired a log) (held q c other wired b log') given

  -- where one relation is as another, it ties as the other does
  pub tied_as : (R P : M → N → Type 0) → ((m : M) (n : N) → P m n → R m n) → ((m : M) (n : N) → R m n → P m n) → TiesLines (machine s c room) (machine q c other) R → TiesLines (machine s c room) (machine q c other) P
  tied_as R P to back ties a b log log' given =
      let tied = ties a b log log' (record { starts = λ n an_input. to _ _ (given.starts n an_input); waveforms = λ n t an_input here there. to _ _ (given.waveforms n t an_input here there) }) in
      record { initial_values = λ n line. back _ _ (tied.initial_values n line); values = λ n t line here there. back _ _ (tied.values n t line here there) }
