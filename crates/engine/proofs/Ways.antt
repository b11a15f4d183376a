-- A gate's front on its way to its goal, step by step.
use Rattle.std.proofs.Common.{◌≡◌, ℕ, ◌+◌, ◌<◌, ◌≤◌, true, false, List, ap, sym, ◌∙◌, subst, inl, inr, ⊎_elim, arith, Contains}
use Rattle.std.proofs.Math.Path.{fun_ext}
use Rattle.std.proofs.lemmas.Bool.{cases_eq}
use Rattle.events.specs.declared.record.EventRecord.{EventRecord}
use Rattle.netlist.specs.Walks.{reads}
use Rattle.netlist.specs.declared.progress.Progress.{Progress}
use Rattle.semantics.specs.Accounts.{Account, settled, Overflows}
use Rattle.semantics.specs.Circuits.{topology, gate_of_line}
use Rattle.semantics.specs.Machines.{IsGate}
use Rattle.semantics.specs.Moves.{put, taken}
use Rattle.semantics.proofs.Invariants.{settled_grows}
use Rattle.semantics.proofs.Putting.{put_here, put_there, put_grows}
use Rattle.values.specs.Systems.{System}
use Rattle.engine.specs.Lines.{Panel}
use Rattle.engine.specs.Panels.{moved}
use Rattle.engine.specs.Looks.{Stepped, Followed}
use Rattle.engine.specs.Looks.Stepped.{onward, stopped}
use Rattle.engine.specs.Standing.{machine_of, Shows}

module _ {X : Type 0} (f : ℕ → X) (n : ℕ) where
  -- what is put twice is what was put last
  pub put_twice : (x y : X) → put (put f n x) n y ≡ put f n y
  put_twice x y = fun_ext (λ m. ⊎_elim (λ is. subst (λ k. put (put f n x) n y k ≡ put f n y k) (sym is) (put_here (put f n x) n y ∙ sym (put_here f n y)))
      (λ other. put_there (put f n x) n y m other ∙ (put_there f n x m other ∙ sym (put_there f n y m other))) (cases_eq m n))

  pub put_same : put f n (f n) ≡ f
  put_same = fun_ext (λ m. ⊎_elim (λ is. subst (λ k. put f n (f n) k ≡ f k) (sym is) (put_here f n (f n))) (λ other. put_there f n (f n) m other) (cases_eq m n))

pub moved_on : (p q r : Panel) (n : ℕ) (x y : Progress) → q ≡ moved p n x → r ≡ moved q n y → r ≡ moved p n y
moved_on p q r n x y first second = second ∙ (ap (λ o. moved o n y) first ∙ ap (λ f. record p { progress = f }) (put_twice p.progress n x y))

pub moved_same : (p : Panel) (n : ℕ) → p ≡ moved p n (p.progress n)
moved_same p n = sym (ap (λ f. record p { progress = f }) (put_same p.progress n))

module _ {M : Type 0} (a : Account M) (n : ℕ) where
  pub taken_twice : (f g : ℕ) → taken (taken a n f) n g ≡ taken a n g
  taken_twice f g = ap (λ fronts. record a { front = fronts }) (put_twice a.front n f g)

  pub taken_same : taken a n (a.front n) ≡ a
  taken_same = ap (λ fronts. record a { front = fronts }) (put_same a.front n)

-- the front has moved on, not beyond the goal
pub record OnWay {V M : Type 0} (meaning : V → M) (system : System M) (a : Account M) (n goal : ℕ) (p' : Panel) (store' : List (EventRecord V)) : Type 0 where
  pub front : ℕ
  pub onward : a.front n ≤ front
  pub within : front ≤ goal
  pub shows : Shows meaning system p' store' (taken a n front)

module _ {V M : Type 0} (meaning : V → M) (system : System M) (p : Panel) (a : Account M) (n goal : ℕ) where
  pub limits_on : (q : Panel) (x : Progress) → q ≡ moved p n x → (f : ℕ) → a.front n ≤ f → ((m : ℕ) → Contains (reads p.circuit n) m → goal ≤ settled (topology p.circuit) a m) → (m : ℕ) → Contains (reads q.circuit n) m → goal ≤ settled (topology q.circuit) (taken a n f) m
  limits_on q x same f far_on limits m read =
      subst (λ (o : Panel). goal ≤ settled (topology o.circuit) (taken a n f) m) (sym same)
      (let far = limits m (subst (λ (o : Panel). Contains (reads o.circuit n) m) same read) in
      let grows = settled_grows (machine_of system p) a (taken a n f) (λ k. omega arith) (put_grows a.front n f far_on) m in
      omega arith)

  -- a step that was refused, and one that was not
  pub refused : (q : Panel) (store' : List (EventRecord V)) → Stepped meaning system p a n goal q store' false → Overflows (machine_of system p) a n (a.front n + (gate_of_line p.circuit n).delay)
  refused q store' (stopped over shows) = over

  pub record Onward (q : Panel) (store' : List (EventRecord V)) : Type 0 where
    pub front : ℕ
    pub further : a.front n < front
    pub within : front ≤ goal
    pub shows : Shows meaning system q store' (taken a n front)

  pub went_onward : (q : Panel) (store' : List (EventRecord V)) → Stepped meaning system p a n goal q store' true → Onward q store'
  went_onward q store' (onward {until = until} further within shows) = record { front = until; further = further; within = within; shows = shows }

  pub way_begins : (store : List (EventRecord V)) → Shows meaning system p store a → a.front n ≤ goal → OnWay meaning system a n goal p store
  way_begins store shows within = record { front = a.front n; onward = omega arith; within = within; shows = subst (Shows meaning system p store) (sym (taken_same a n)) shows }

  module _ (q : Panel) (store : List (EventRecord V)) (way : OnWay meaning system a n goal q store) where
    pub way_front : (taken a n way.front).front n ≡ way.front
    way_front = put_here a.front n way.front

    pub way_goes_on : (r : Panel) (store' : List (EventRecord V)) → Stepped meaning system q (taken a n way.front) n goal r store' true → OnWay meaning system a n goal r store'
    way_goes_on r store' (onward {until = until} further within shows) = let so_far = way.onward in
        record { front = until; onward = omega (arith, way_front); within = within; shows = subst (Shows meaning system r store') (taken_twice a n way.front until) shows }

    module _ (x : Progress) (same : q ≡ moved p n x) where
      pub way_stops : (r : Panel) (store' : List (EventRecord V)) → Stepped meaning system q (taken a n way.front) n goal r store' false → Followed meaning system p a n goal r store'
      way_stops r store' (stopped over shows) = record { front = way.front; onward = way.onward; within = way.within; shows = shows; stops = inr (overflows q same over) }
        where
          overflows : (q : Panel) → q ≡ moved p n x → Overflows (machine_of system q) (taken a n way.front) n ((taken a n way.front).front n + (gate_of_line q.circuit n).delay) → Overflows (machine_of system p) a n (way.front + (gate_of_line p.circuit n).delay)
          overflows q same over =
              let here : Overflows (machine_of system p) (taken a n way.front) n ((taken a n way.front).front n + (gate_of_line p.circuit n).delay) = subst (λ (o : Panel). Overflows (machine_of system o) (taken a n way.front) n ((taken a n way.front).front n + (gate_of_line o.circuit n).delay)) same over in
              subst (λ f. Overflows (machine_of system p) a n (f + (gate_of_line p.circuit n).delay)) way_front (record { from_trim = here.from_trim; changes = here.changes; room_is_full = here.room_is_full })

      pub way_ends : IsGate (topology p.circuit) n → goal ≤ (q.progress n).tick → Followed meaning system p a n goal q store
      way_ends a_gate there =
          let its_gate : IsGate (topology q.circuit) n = subst (λ (o : Panel). IsGate (topology o.circuit) n) (sym same) a_gate in
          let far = way.within in
          record { front = way.front; onward = way.onward; within = way.within; shows = way.shows; stops = inl (omega (arith, way.shows.fronts n its_gate, way_front)) }

      -- the lines read are still settled as far
      pub limits_stay : ((m : ℕ) → Contains (reads p.circuit n) m → goal ≤ settled (topology p.circuit) a m) → (m : ℕ) → Contains (reads q.circuit n) m → goal ≤ settled (topology q.circuit) (taken a n way.front) m
      limits_stay = limits_on q x same way.front way.onward
