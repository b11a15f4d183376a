-- At rest no gate can be taken; and where it can be told which lines change, some gate can be taken where there is no rest.
use Rattle.std.proofs.Common.{◌≡◌, ◌↔◌, ℕ, zero, suc, ◌+◌, ◌-◌, ◌<◌, ◌≤◌, ◌⊎◌, ◌++◌, [], ◌∷◌, length, refl, sym, subst, inl, inr, ⊎_elim, arith, length-append, add-zero}
use Rattle.std.proofs.lemmas.Bool.{cases_lt}
use Rattle.semantics.specs.Machines.{Machine, IsGate}
use Rattle.semantics.specs.Changes.{StableOn, AtMost}
use Rattle.semantics.specs.Accounts.{Account, goal, Stable, Overflows}
use Rattle.semantics.specs.Laws.{ToldOnTheWay}
use Rattle.semantics.specs.Moves.{CanMove, Takeable, Rests, Rest}
use Rattle.semantics.proofs.Goals.{settled_gate, goal_attained}
use Rattle.semantics.proofs.Listing.{no_room, onward, one_more}
use Rattle.semantics.proofs.Invariants.{Invariant}
use Rattle.semantics.proofs.Locality.{Sound}

module _ {M : Type 0} (s : Machine M) (a : Account M) where
  pub resting : (n : ℕ) → Rests s a n → Takeable s a n → ⊥
  resting n (Rests.idle at_goal) able = omega (arith, able.can.onward, able.can.not_beyond)
  resting n (Rests.full below over) able =
      let can = able.can in
      let onward = can.onward in
      no_room (a.front n + s.topology.lag n) over.from_trim over.changes over.room_is_full (omega arith) can.fits

  -- a front that can move does not rest, and that of a gate that can be taken can move
  pub no_rest : (n : ℕ) → Rests s a n → CanMove s a n → ⊥
  no_rest n (Rests.idle at_goal) moves = omega (arith, moves.below)
  no_rest n (Rests.full below over) moves = moves.room over

  pub can_move : (n : ℕ) → Takeable s a n → CanMove s a n
  can_move n able =
      let can = able.can in
      let below : a.front n < goal s.topology a n = omega (arith, can.onward, can.not_beyond) in
      record { a_gate = can.a_gate; below = below; room = λ over. resting n (Rests.full below over) able }

  -- how far a gate has come on its way from its front
  data Reached (n at : ℕ) : Type 0 where
    onto : AtMost s.room (Stable s a n) a.trim (at + s.topology.lag n) → Reached n at
    stopped : (front : ℕ) → a.front n ≤ front → front < at → AtMost s.room (Stable s a n) a.trim (front + s.topology.lag n) → Overflows s a n (front + s.topology.lag n) → Reached n at

  module _ (h : Invariant s a) (n : ℕ) (a_gate : IsGate s.topology n) (told : ToldOnTheWay s a n) where
    -- one tick on
    one_on : (at : ℕ) → a.front n ≤ at → AtMost s.room (Stable s a n) a.trim (at + s.topology.lag n) → Dec (Stable s a n (at + s.topology.lag n)) → Reached n (suc at)
    one_on at from fits (yes still) = onto (record { ticks = fits.ticks; changes = onward (omega arith) quiet fits.changes; few = fits.few })
      where
        quiet : StableOn (Stable s a n) (at + s.topology.lag n) (suc at + s.topology.lag n)
        quiet t t_from t_to = let same : at + s.topology.lag n ≡ t = omega arith in subst (Stable s a n) same still
    one_on at from fits (no changes) = ⊎_elim roomy full (cases_lt (length fits.ticks) s.room)
      where
        reaches : a.trim ≤ at + s.topology.lag n
        reaches = let r = h.front_reaches n a_gate in omega arith

        roomy : length fits.ticks < s.room → Reached n (suc at)
        roomy some =
            let same : suc (at + s.topology.lag n) ≡ suc at + s.topology.lag n = omega arith in
            onto (subst (AtMost s.room (Stable s a n) a.trim) same
            (record { ticks = fits.ticks ++ (at + s.topology.lag n) ∷ []; changes = one_more reaches changes fits.changes; few = rw length-append (omega arith) }))

        full : s.room ≤ length fits.ticks → Reached n (suc at)
        full none =
            let few = fits.few in
            stopped at from (omega arith) fits (record { from_trim = reaches; changes = changes; room_is_full = record { ticks = fits.ticks; changes = fits.changes; count = omega arith } })

    on_from : (at : ℕ) → a.front n ≤ at → at < goal s.topology a n → Reached n at → Reached n (suc at)
    on_from at from before (onto fits) = let e = settled_gate s.topology a n a_gate in one_on at from fits (told (at + s.topology.lag n) (omega arith) (omega arith))
    on_from at from before (stopped front after sooner fits over) = stopped front after (omega arith) fits over

    on_by : (ticks : ℕ) → a.front n + ticks ≤ goal s.topology a n → Reached n (a.front n + ticks)
    on_by zero within = subst (Reached n) (sym (add-zero (a.front n))) (onto (subst (AtMost s.room (Stable s a n) a.trim) (settled_gate s.topology a n a_gate) (h.fits n)))
    on_by (suc ticks) within =
        let same : suc (a.front n + ticks) ≡ a.front n + suc ticks = omega arith in subst (Reached n) same (on_from (a.front n + ticks) (omega arith) (omega arith) (on_by ticks (omega arith)))

    -- a gate rests, or can be taken
    pub rests_or_moves : Sound s.topology → Rests s a n ⊎ Takeable s a n
    rests_or_moves sound = from_reached (subst (Reached n) up (on_by (goal s.topology a n - a.front n) (let p = not_past in omega arith)))
      where
        not_past : a.front n ≤ goal s.topology a n
        not_past = let found = goal_attained s.topology a n sound a_gate in let f = h.follows n found.line a_gate found.among in omega (arith, found.is)

        up : a.front n + (goal s.topology a n - a.front n) ≡ goal s.topology a n
        up = let p = not_past in omega arith

        from_reached : Reached n (goal s.topology a n) → Rests s a n ⊎ Takeable s a n
        from_reached (onto fits) =
            ⊎_elim (λ below. inr (record { front = goal s.topology a n; can = record { a_gate = a_gate; onward = below; not_beyond = omega arith; fits = fits; stops = inl refl } }))
            (λ there. let p = not_past in inl (Rests.idle (omega arith))) (cases_lt (a.front n) (goal s.topology a n))
        from_reached (stopped front after before fits over) =
            ⊎_elim (λ further. inr (record { front = front; can = record { a_gate = a_gate; onward = further; not_beyond = omega arith; fits = fits; stops = inr over } }))
            (λ here. let same : front ≡ a.front n = omega arith in inl (Rests.full (omega arith) (subst (λ f. Overflows s a n (f + s.topology.lag n)) same over))) (cases_lt (a.front n) front)

  pub rest_is_where_none : Invariant s a → Sound s.topology → ((n : ℕ) → IsGate s.topology n → ToldOnTheWay s a n) → Rest s a ↔ ((n : ℕ) → Takeable s a n → ⊥)
  rest_is_where_none h sound told =
      ((λ rest n able. resting n (rest n able.can.a_gate) able), (λ none n a_gate. ⊎_elim (λ rests. rests) (λ able. absurd (none n able)) (rests_or_moves h n a_gate (told n a_gate) sound)))
