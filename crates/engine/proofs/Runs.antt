-- Runs, take by take.
use Rattle.std.proofs.Common.{◌≡◌, ℕ, ◌+◌, ◌-◌, ◌*◌, ◌≤◌, List, length, refl, sym, subst, arith}
use Rattle.std.specs.Prelude.{Result}
use Rattle.std.proofs.Math.Nat.{mul-le-mul_left}
use mathlib.Core.Path.{ap₂}
use Rattle.semantics.specs.Accounts.{Account}
use Rattle.semantics.specs.Circuits.{lines}
use Rattle.semantics.specs.CircuitMachine.{machine}
use Rattle.semantics.specs.Logs.{Takes, Ending, Run, Log}
use Rattle.semantics.specs.Machines.{Machine}
use Rattle.semantics.specs.Moves.{taken, CanTake, CanMove, ComesFirst, Rest}
use Rattle.semantics.proofs.Outcomes.{takes_on}
use Rattle.semantics.proofs.Proved.{takes_are_bounded}
use Rattle.semantics.proofs.Resting.{can_move}
use Rattle.values.specs.Systems.{System}
use Rattle.events.specs.declared.record.EventRecord.{EventRecord}
use Rattle.engine.specs.Answers.{Taking}
use Rattle.engine.specs.Lines.{Panel, room}
use Rattle.engine.specs.Orders.{MovesFirst, Queued, QueuedBut}
use Rattle.engine.specs.Standing.{machine_of, Stands, Keeps}
use Rattle.engine.proofs.Books.{Sure}
use Rattle.engine.proofs.Choosing.{queued_but}

pub same_machine : {M : Type 0} {X : Type 0} (system : System M) (p q : Panel) (old new : List X) → Keeps p q old new → machine_of system q ≡ machine_of system p
same_machine system p q old new keeps = ap₂ (λ c k. machine system c (k - 1)) keeps.circuit keeps.stride

module _ {M : Type 0} (s : Machine M) where
  -- the takes of a run
  pub takes_of : {most count : ℕ} {ending : Ending} {a b : Account M} → Run s most a b count ending → Takes s count a b
  takes_of (Run.to_rest takes few rest) = takes
  takes_of (Run.to_count takes moves) = takes

  -- with more to take, a run has made all that it was asked for
  pub makes_all : {most count : ℕ} {ending : Ending} {a b : Account M} → ending ≡ Ending.more → Run s most a b count ending → count ≡ most
  makes_all more (Run.to_rest takes few rest) = cc
  makes_all more (Run.to_count takes moves) = refl

  -- a take that was accepted
  pub record Accepted (a : Account M) (n : ℕ) (b : Account M) : Type 0 where
    pub front : ℕ
    pub can : CanTake s a n front
    pub after : b ≡ taken a n front

  -- a gate whose front can move is not refused
  pub accepts : {a : Account M} {n : ℕ} {answer : Result ℕ ℕ} {b : Account M} → CanMove s a n → Taking s a n answer b → Accepted a n b
  accepts moves (Taking.no_gate none) = absurd (none moves.a_gate)
  accepts moves (Taking.idle a_gate at_goal) = absurd (omega (arith, moves.below))
  accepts moves (Taking.full a_gate below over) = absurd (moves.room over)
  accepts moves (Taking.accepted {front = front} can) = record { front = front; can = can; after = refl }

  -- what moves first comes first
  pub comes_first : {a : Account M} {n front : ℕ} → MovesFirst s a n → CanTake s a n front → ComesFirst s a n
  comes_first {a = a} {front = front} next can = record { can = record { front = front; can = can }; first = λ m able. next.first m (can_move s a m able) }

-- takes have led from one account to another, for which the lines stand
pub record Under {V M : Type 0} (meaning : V → M) (system : System M) (s : Machine M) (a : Account M) (count : ℕ) (q : Panel) (store : List (EventRecord V)) : Type 0 where
  pub now : Account M
  pub takes : Takes s count a now
  pub stands : Stands meaning system q store now

-- and a queue has the keys of all lines
pub record UnderQueue {V M : Type 0} (meaning : V → M) (system : System M) (s : Machine M) (a : Account M) (count : ℕ) (q : Panel) (store : List (EventRecord V)) (queue : List ℕ) : Type 0 where
  pub under : Under meaning system s a count q store
  pub queued : Queued (machine_of system q) under.now queue

module _ {V M : Type 0} (meaning : V → M) (system : System M) (p q : Panel) (old store : List (EventRecord V)) (keeps : Keeps p q old store) (a : Account M) (count : ℕ) (under : Under meaning system (machine_of system p) a count q store) where
  same : machine_of system q ≡ machine_of system p
  same = same_machine system p q old store keeps

  -- one take more
  one_more : (n : ℕ) (answer : Result ℕ ℕ) (b : Account M) (r : Panel) (store' : List (EventRecord V)) → MovesFirst (machine_of system q) under.now n → Taking (machine_of system q) under.now n answer b → Stands meaning system r store' b → Under meaning system (machine_of system p) a (count + 1) r store'
  one_more n answer b r store' first taking stands =
      let first_here : MovesFirst (machine_of system p) under.now n = subst (λ s. MovesFirst s under.now n) same first in
      let taking_here : Taking (machine_of system p) under.now n answer b = subst (λ s. Taking s under.now n answer b) same taking in
      let accepted = accepts (machine_of system p) first_here.moves taking_here in
      record {
        now = b;
        takes = subst (Takes (machine_of system p) (count + 1) a) (sym accepted.after) (takes_on (machine_of system p) under.takes (Takes.one_more (comes_first (machine_of system p) first_here accepted.can) accepted.can Takes.none));
        stands = stands;
      }

  -- after it, a queue has the keys of all lines but that of the gate that was taken and those of its line's readers
  pub queue_left : (n : ℕ) (answer : Result ℕ ℕ) (b : Account M) (r : Panel) (store' : List (EventRecord V)) (queue : List ℕ) → Keeps q r store store' → CanMove (machine_of system q) under.now n → Taking (machine_of system q) under.now n answer b → Queued (machine_of system q) under.now queue → QueuedBut (machine_of system r) b n queue
  queue_left n answer b r store' queue kept moves taking queued =
      let accepted = accepts (machine_of system q) moves taking in
      subst (λ s. QueuedBut s b n queue) (sym (same_machine system q r store store' kept)) (subst (λ d. QueuedBut (machine_of system q) d n queue) (sym accepted.after) (queued_but (machine_of system q) under.now n accepted.front queue queued))

  -- one take more, after which the keys are told again
  pub one_more_queued : (n : ℕ) (answer : Result ℕ ℕ) (b : Account M) (r : Panel) (store' : List (EventRecord V)) (queue : List ℕ) → MovesFirst (machine_of system q) under.now n → Taking (machine_of system q) under.now n answer b → Stands meaning system r store' b → Queued (machine_of system r) b queue → UnderQueue meaning system (machine_of system p) a (count + 1) r store' queue
  unfolding one_more
  one_more_queued n answer b r store' queue first taking stands queued = record { under = one_more n answer b r store' first taking stands; queued = queued }

  -- the takes of one run more
  pub one_run_more : {most ran : ℕ} {ending : Ending} {b : Account M} (r : Panel) (store' : List (EventRecord V)) → Run (machine_of system q) most under.now b ran ending → Stands meaning system r store' b → Under meaning system (machine_of system p) a (count + ran) r store'
  one_run_more {most = most} {ran = ran} {ending = ending} {b = b} r store' run stands =
      let run_here : Run (machine_of system p) most under.now b ran ending = subst (λ s. Run s most under.now b ran ending) same run in
      record { now = b; takes = takes_on (machine_of system p) under.takes (takes_of (machine_of system p) run_here); stands = stands }

  -- the run ends here
  pub ends_at_rest : (most : ℕ) → count ≤ most → Rest (machine_of system q) under.now → Run (machine_of system p) most a under.now count Ending.rest
  ends_at_rest most few rest = Run.to_rest under.takes few (subst (λ s. Rest s under.now) same rest)

  pub ends_at_count : (n : ℕ) → MovesFirst (machine_of system q) under.now n → Run (machine_of system p) count a under.now count Ending.more
  ends_at_count n first = let first_here : MovesFirst (machine_of system p) under.now n = subst (λ s. MovesFirst s under.now n) same first in Run.to_count under.takes first_here.moves

-- so many full runs have led from one account to another, for which the lines stand; they are no more than there are gates
pub record FullRuns {V M : Type 0} (meaning : V → M) (system : System M) (p : Panel) (a : Account M) (runs count : ℕ) (q : Panel) (store : List (EventRecord V)) : Type 0 where
  pub under : Under meaning system (machine_of system p) a count q store
  pub all_full : count ≡ runs * 4294967295
  pub not_past : runs ≤ length p.circuit.gates

module _ {M : Type 0} (system : System M) (p : Panel) (is : Sure p) (a : Account M) (log : Log (machine_of system p) a) where
  -- full runs make no more takes than can be made
  runs_bounded : {b : Account M} (runs : ℕ) → Takes (machine_of system p) (runs * 4294967295) a b → runs ≤ length p.circuit.gates
  runs_bounded {b = b} runs takes =
      let most = takes_are_bounded system p.circuit (room p) is.wired is.reached a b (runs * 4294967295) log takes in
      let each : 2000000000 + 65535 * lines p.circuit ≤ 4294967295 = omega (arith, is.few) in
      let all = mul-le-mul_left (length p.circuit.gates) each in
      omega arith

  pub full_runs : {V : Type 0} (meaning : V → M) (runs count : ℕ) (q : Panel) (store : List (EventRecord V)) → Under meaning system (machine_of system p) a count q store → count ≡ runs * 4294967295 → FullRuns meaning system p a runs count q store
  full_runs meaning runs count q store under all = record { under = under; all_full = all; not_past = runs_bounded runs (subst (λ k. Takes (machine_of system p) k a under.now) all under.takes) }
