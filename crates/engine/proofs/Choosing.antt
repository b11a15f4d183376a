-- Which gate is taken next: a queue has the keys of all lines, and a take alters those of its gate and of its line's readers.
use Rattle.std.proofs.Common.{◌≡◌, ℕ, suc, ◌+◌, ◌-◌, ◌<◌, ◌≤◌, List, None, Some, refl, ap, sym, ◌∙◌, subst, inl, inr, ⊎_elim, arith, get_or, Contains}
use Rattle.std.specs.Prelude.{Option, MatchOption, Decides, Bool, true, false, not}
use Rattle.std.specs.Option.{is_some}
use Rattle.std.proofs.lemmas.Bool.{cases_lt, both_ways}
use Rattle.semantics.specs.Accounts.{Account, goal, settled, least, Overflows}
use Rattle.semantics.specs.Circuits.{topology}
use Rattle.semantics.specs.Machines.{Machine, IsGate, ReadsFrom}
use Rattle.semantics.specs.Moves.{CanMove, ComesBefore, Rests, Rest, taken}
use Rattle.semantics.proofs.Putting.{put_there}
use Rattle.semantics.proofs.Invariants.{settled_same}
use Rattle.semantics.proofs.Resting.{no_rest}
use Rattle.semantics.proofs.Wiring.{gate_range}
use Rattle.queue.specs.Keys.{no_key, First}
use Rattle.engine.specs.Lines.{Panel}
use Rattle.engine.specs.Orders.{MovesFirst, Keyed, Queued, QueuedBut}
use Rattle.engine.proofs.Books.{Sure, same_each}

-- gates' lines have places in a queue
pub gates_within : (p : Panel) → Sure p → (m : ℕ) → IsGate (topology p.circuit) m → (0 < m) × (m ≤ 1024)
gates_within p is m a_gate = let range = gate_range p.circuit m a_gate in let few = is.few in (omega (arith, range.0), omega (arith, range.1))

module _ {M : Type 0} (s : Machine M) (a : Account M) where
  -- a line with a key can move, and has its front for it
  with_key : (n key : ℕ) → Keyed s a n key → key < no_key → CanMove s a n × key ≡ a.front n
  with_key n key (Keyed.moves moves is some) small = (moves, is)
  with_key n key (Keyed.rests rests none) small = absurd (omega arith)

  without_key : (n key : ℕ) → Keyed s a n key → no_key ≤ key → IsGate s.topology n → Rests s a n
  without_key n key (Keyed.moves moves is some) great a_gate = absurd (omega arith)
  without_key n key (Keyed.rests rests none) great a_gate = rests a_gate

  -- a line that can move has a key
  has_key : (n key : ℕ) → Keyed s a n key → CanMove s a n → key ≡ a.front n
  has_key n key (Keyed.moves moves is some) can = is
  has_key n key (Keyed.rests rests none) can = absurd (no_rest s a n (rests can.a_gate) can)

  -- the first of a queue, where there is one
  pub first_told : (keys : List ℕ) → Queued s a keys → ((m : ℕ) → IsGate s.topology m → (0 < m) × (m ≤ 1024)) → (first : Option ℕ) → First keys first → MatchOption first (Rest s a) (λ p. MovesFirst s a (suc p))
  first_told keys queued range None none =
      λ m a_gate.
      let within = range m a_gate in
      let line : suc (m - 1) ≡ m = omega (arith, within.0) in
      subst (Rests s a) line (without_key (suc (m - 1)) _ (queued.each (m - 1) (omega (arith, within))) (none (m - 1) (omega (arith, within, queued.long))) (subst (IsGate s.topology) (sym line) a_gate))
  first_told keys queued range (Some p) first =
      record { moves = here.0; first = λ m can. comes m (m - 1) (range m can.a_gate) (omega (arith, (range m can.a_gate).0)) can }
    where
      here : CanMove s a (suc p) × get_or keys p 0 ≡ a.front (suc p)
      here = with_key (suc p) (get_or keys p 0) (queued.each p (omega (arith, first.0, queued.long))) first.1

      comes : (m i : ℕ) → (0 < m) × (m ≤ 1024) → m ≡ suc i → CanMove s a m → ComesBefore s a (suc p) m
      comes m i within line can =
          let key = has_key (suc i) (get_or keys i 0) (queued.each i (omega arith)) (subst (CanMove s a) line can) in
          let front : get_or keys i 0 ≡ a.front m = key ∙ ap a.front (sym line) in
          let low = first.2 i (omega (arith, queued.long, within.1)) in
          ⊎_elim (λ less. inl (omega (arith, less, front, here.1)))
          (λ no_less. inr (omega (arith, no_less, low, front, here.1), ⊎_elim (λ earlier. absurd (let lower = first.3 i earlier in omega (arith, lower, no_less))) (λ later. omega (arith, later, line)) (cases_lt i p)))
          (cases_lt (get_or keys p 0) (get_or keys i 0))

  -- there is no first just at rest
  pub rest_decided : (first : Option ℕ) (none : Bool) → is_some first ≡ not none → MatchOption first (Rest s a) (λ p. MovesFirst s a (suc p)) → Decides none (Rest s a)
  rest_decided None true is rests = (λ yes. rests, λ rest. refl)
  rest_decided None false is rests = absurd (both_ways false refl is)
  rest_decided (Some p) true is first = absurd (both_ways true is refl)
  rest_decided (Some p) false is first = (λ no. absurd (both_ways false refl no), λ rest. absurd (no_rest s a (suc p) (rest (suc p) first.moves.a_gate) first.moves))

  -- a take of another gate, whose line a gate does not read, alters nothing of its key
  module _ (n front m : ℕ) (other : m ≡ n → ⊥) (unread : ReadsFrom s.topology m n → ⊥) where
    same_goal : goal s.topology (taken a n front) m ≡ goal s.topology a m
    same_goal =
        ap least
        (same_each (settled s.topology (taken a n front)) (settled s.topology a) (s.topology.reads m)
        (λ j read. sym (settled_same s a (taken a n front) j refl (sym (put_there a.front n front j (λ is. unread (subst (Contains (s.topology.reads m)) is read)))))))

    same_front : (taken a n front).front m ≡ a.front m
    same_front = put_there a.front n front m other

    overflows_on : (t : ℕ) → Overflows s a m t → Overflows s (taken a n front) m t
    overflows_on t over = record { from_trim = over.from_trim; changes = over.changes; room_is_full = over.room_is_full }

    overflows_back : (t : ℕ) → Overflows s (taken a n front) m t → Overflows s a m t
    overflows_back t over = record { from_trim = over.from_trim; changes = over.changes; room_is_full = over.room_is_full }

    moves_on : CanMove s a m → CanMove s (taken a n front) m
    moves_on can = record {
      a_gate = can.a_gate;
      below = let below = can.below in omega (arith, same_goal, same_front);
      room = λ over. can.room (overflows_back (a.front m + s.topology.lag m) (subst (λ f. Overflows s (taken a n front) m (f + s.topology.lag m)) same_front over));
    }

    rests_on : Rests s a m → Rests s (taken a n front) m
    rests_on (Rests.idle at_goal) = Rests.idle (same_front ∙ (at_goal ∙ sym same_goal))
    rests_on (Rests.full below over) =
        Rests.full (omega (arith, below, same_goal, same_front)) (subst (λ f. Overflows s (taken a n front) m (f + s.topology.lag m)) (sym same_front) (overflows_on (a.front m + s.topology.lag m) over))

    keyed_on : (key : ℕ) → Keyed s a m key → Keyed s (taken a n front) m key
    keyed_on key (Keyed.moves moves is some) = Keyed.moves (moves_on moves) (is ∙ sym same_front) some
    keyed_on key (Keyed.rests rests none) = Keyed.rests (λ a_gate. rests_on (rests a_gate)) none

  pub queued_but : (n front : ℕ) (keys : List ℕ) → Queued s a keys → QueuedBut s (taken a n front) n keys
  queued_but n front keys queued = record { long = queued.long; others = λ i within other unread. keyed_on n front (suc i) other unread (get_or keys i 0) (queued.each i within) }
