-- What a take comes to.
use Rattle.std.proofs.Common.{◌≡◌, ℕ, ◌+◌, ◌<◌, ◌≤◌, ◌⊎◌, min, List, Ok, ap, sym, ◌∙◌, subst, inl, inr, ⊎_elim, arith}
use Rattle.events.specs.declared.record.EventRecord.{EventRecord}
use Rattle.netlist.specs.declared.progress.Progress.{Progress}
use Rattle.semantics.specs.Accounts.{Account, settled, goal, Stable, Overflows}
use Rattle.semantics.specs.Changes.{AtMost}
use Rattle.semantics.specs.Circuits.{topology, gate_of_line}
use Rattle.semantics.specs.Logs.{Step, Steps}
use Rattle.semantics.specs.Machines.{Machine, IsGate}
use Rattle.semantics.specs.Moves.{taken, CanTake}
use Rattle.semantics.proofs.Goals.{settled_gate}
use Rattle.semantics.proofs.Putting.{put_here}
use Rattle.values.specs.Systems.{System}
use Rattle.engine.specs.Answers.{Taking}
use Rattle.engine.specs.Lines.{Panel}
use Rattle.engine.specs.Panels.{moved, settled_in, last_tick}
use Rattle.engine.specs.Looks.{Followed}
use Rattle.engine.specs.Standing.{machine_of, Shows, Stands}
use Rattle.engine.proofs.Books.{Sure, settled_told, goal_in_range}
use Rattle.engine.proofs.Ways.{moved_on, taken_twice}
use Rattle.semantics.proofs.Wiring.{gate_delay}

module _ {V M : Type 0} (meaning : V → M) (system : System M) (p : Panel) (store : List (EventRecord V)) (a : Account M) (is : Sure p) (h : Stands meaning system p store a) (n : ℕ) (a_gate : IsGate (topology p.circuit) n) where
  abbrev s : Machine M
  s = machine_of system p

  module _ (z : Progress) (store' : List (EventRecord V)) (f : ℕ) (further : a.front n < f) (within : f ≤ goal (topology p.circuit) a n) (shows : Shows meaning system (moved p n z) store' (taken a n f)) (fits : z.kept < p.stride) (stops : (f ≡ goal (topology p.circuit) a n) ⊎ Overflows s a n (f + (gate_of_line p.circuit n).delay)) where
    settled_then : settled (topology p.circuit) (taken a n f) n ≡ f + (gate_of_line p.circuit n).delay
    settled_then = settled_gate (topology p.circuit) (taken a n f) n a_gate ∙ ap (λ t. t + (gate_of_line p.circuit n).delay) (put_here a.front n f)

    changes_fit : AtMost s.room (Stable s a n) a.trim (f + (gate_of_line p.circuit n).delay)
    changes_fit =
        let told = shows.records n (inr a_gate) in
        subst (λ to. AtMost s.room (Stable s a n) a.trim to) settled_then
        (record { ticks = told.ticks; changes = told.changes; few = omega (arith, told.count, ap (λ (q : Progress). q.kept) (put_here p.progress n z)) })

    pub can : CanTake s a n f
    can = record { a_gate = a_gate; onward = further; not_beyond = within; fits = changes_fit; stops = stops }

    pub stands_then : Stands meaning system (moved p n z) store' (taken a n f)
    stands_then = record { log = record { start = h.log.start; steps = Steps.then h.log.steps (Step.take can) }; shows = shows }

    pub told_then : (told : ℕ) → told ≡ min (settled_in (moved p n z) n) last_tick → f + (gate_of_line p.circuit n).delay ≡ told
    told_then told same =
        let lag = gate_delay p.circuit is.wired n a_gate in
        let far = goal_in_range meaning system p store a is h n a_gate in
        let e = settled_told meaning system (moved p n z) store' (taken a n f) shows n (inr a_gate) in
        let sum : settled_in (moved p n z) n ≡ f + (gate_of_line p.circuit n).delay = e ∙ settled_then in
        let told_whole : min (f + (gate_of_line p.circuit n).delay) last_tick ≡ f + (gate_of_line p.circuit n).delay = let small : f + (gate_of_line p.circuit n).delay ≤ last_tick = omega (arith, far, lag) in grind arith in
        sym (same ∙ (ap (λ k. min k last_tick) sum ∙ told_whole))

  -- what a take answers that goes as far as it can
  pub take_done : (mid after : Panel) (store' : List (EventRecord V)) (until : ℕ) (x y : Progress) → mid ≡ moved p n x → after ≡ moved mid n y → a.front n < until → Followed meaning system mid (taken a n until) n (goal (topology p.circuit) a n) after store' → y.kept < after.stride → (told : ℕ) → told ≡ min (settled_in after n) last_tick → (b : Account M) × Taking s a n (Ok told) b × Stands meaning system after store' b
  take_done mid after store' until x y same_mid same_after further followed fits told told_is =
      let one : Followed meaning system (moved p n x) (taken a n until) n (goal (topology p.circuit) a n) after store' = subst (λ (o : Panel). Followed meaning system o (taken a n until) n (goal (topology p.circuit) a n) after store') same_mid followed in
      let joined : after ≡ moved p n y = moved_on p mid after n x y same_mid same_after in
      let f = one.front in
      let onward = one.onward in
      let further : a.front n < f = omega (arith, put_here a.front n until) in
      let fits : y.kept < p.stride = omega (arith, ap (λ (o : Panel). o.stride) joined) in
      let shows : Shows meaning system (moved p n y) store' (taken a n f) = subst (λ (o : Panel). Shows meaning system o store' (taken a n f)) joined (subst (Shows meaning system after store') (taken_twice a n until f) one.shows) in
      let stops : (f ≡ goal (topology p.circuit) a n) ⊎ Overflows s a n (f + (gate_of_line p.circuit n).delay) = ⊎_elim (λ there. inl there) (λ over. inr (record { from_trim = over.from_trim; changes = over.changes; room_is_full = over.room_is_full })) one.stops in
      let told_is : told ≡ min (settled_in (moved p n y) n) last_tick = told_is ∙ ap (λ (o : Panel). min (settled_in o n) last_tick) joined in (
        taken a n f,
        subst (λ t. Taking s a n (Ok t) (taken a n f)) (told_then y store' f further one.within shows fits stops told told_is) (Taking.accepted (can y store' f further one.within shows fits stops)),
        subst (λ (o : Panel). Stands meaning system o store' (taken a n f)) (sym joined) (stands_then y store' f further one.within shows fits stops),
      )
