-- A take can lead to one front only, and a run to one account and one answer.
use Rattle.std.proofs.Common.{◌≡◌, ℕ, suc, ◌+◌, ◌<◌, ◌≤◌, ◌⊎◌, refl, ap, sym, ◌∙◌, subst, ⊎_elim, arith}
use Rattle.std.proofs.lemmas.Bool.{cases_order}
use Rattle.semantics.specs.Machines.{Machine}
use Rattle.semantics.specs.Accounts.{Account, goal, Overflows}
use Rattle.semantics.specs.Moves.{taken, CanTake, CanMove, ComesFirst, Rest}
use Rattle.semantics.specs.Logs.{Ending, Takes, Run}
use Rattle.semantics.proofs.Listing.{no_room}
use Rattle.semantics.proofs.Resting.{resting, no_rest}

module _ {M : Type 0} (s : Machine M) where
  -- no take stops before another take of the gate
  no_sooner : (a : Account M) (n front other : ℕ) → CanTake s a n front → CanTake s a n other → front < other → ⊥
  no_sooner a n front other one two before = ⊎_elim at_goal at_stop one.stops
    where
      at_goal : front ≡ goal s.topology a n → ⊥
      at_goal is = omega (arith, two.not_beyond)

      at_stop : Overflows s a n (front + s.topology.lag n) → ⊥
      at_stop over = no_room (front + s.topology.lag n) over.from_trim over.changes over.room_is_full (omega arith) two.fits

  pub one_front : (a : Account M) (n front other : ℕ) → CanTake s a n front → CanTake s a n other → front ≡ other
  one_front a n front other one two =
      ⊎_elim (λ same. same) (⊎_elim (λ before. absurd (no_sooner a n front other one two before)) (λ after. absurd (no_sooner a n other front two one after))) (cases_order front other)

  one_first : (a : Account M) (n m : ℕ) → ComesFirst s a n → ComesFirst s a m → n ≡ m
  one_first a n m one two = ⊎_elim (λ less. ⊎_elim (λ more. absurd (omega arith)) (λ same. absurd (omega (arith, same.0))) back) (λ same. ⊎_elim (λ more. absurd (omega (arith, same.0))) (λ same'. omega (arith, same.1, same'.1)) back) (one.first m two.can)
    where
      back : (a.front m < a.front n) ⊎ ((a.front m ≡ a.front n) × m ≤ n)
      back = two.first n one.can

  -- the account after a take of the gate that comes first
  one_next : (a : Account M) (n m front other : ℕ) → ComesFirst s a n → ComesFirst s a m → CanTake s a n front → CanTake s a m other → taken a n front ≡ taken a m other
  one_next a n m front other first first' can can' =
      let same : n ≡ m = one_first a n m first first' in
      let stop : front ≡ other = one_front a m front other (subst (λ k. CanTake s a k front) same can) can' in
      ap (λ k. taken a k front) same ∙ ap (taken a m) stop

  -- takes after takes
  pub takes_on : {k j : ℕ} {a b d : Account M} → Takes s k a b → Takes s j b d → Takes s (k + j) a d
  takes_on {j = j} {a = a} {d = d} Takes.none more = let all : j ≡ 0 + j = omega arith in subst (λ n. Takes s n a d) all more
  takes_on {j = j} {a = a} {d = d} (Takes.one_more {k = k} first can after) more = let all : suc (k + j) ≡ suc k + j = omega arith in subst (λ n. Takes s n a d) all (Takes.one_more first can (takes_on after more))

  -- Takes that end at rest are no fewer than any others from there; as many takes come to one account.
  pub no_more : {k j : ℕ} {a b d : Account M} → Takes s k a b → Rest s b → Takes s j a d → j ≤ k
  no_more Takes.none rest Takes.none = omega arith
  no_more {a = a} Takes.none rest (Takes.one_more {n = n} first can after) = absurd (resting s a n (rest n can.a_gate) first.can)
  no_more (Takes.one_more first can after) rest Takes.none = omega arith
  no_more {a = a} (Takes.one_more {k = k} {n = n} {front = front} {b = b} first can after) rest (Takes.one_more {k = j} {n = m} {front = other} {b = d} first' can' after') =
      let same = one_next a m n other front first' first can' can in
      let within = no_more after rest (subst (λ x. Takes s j x d) same after') in
      omega arith

  pub one_end : {k : ℕ} {a b d : Account M} → Takes s k a b → Takes s k a d → b ≡ d
  one_end Takes.none Takes.none = refl
  one_end {a = a} (Takes.one_more {k = k} {n = n} {front = front} first can after) (Takes.one_more {n = m} {front = other} {b = d} first' can' after') =
      one_end after (subst (λ x. Takes s k x d) (one_next a m n other front first' first can' can) after')

  ends_same : {k j : ℕ} {a b d : Account M} → Takes s k a b → Takes s j a d → k ≡ j → b ≡ d
  ends_same {a = a} {d = d} one other same = one_end one (subst (λ x. Takes s x a d) (sym same) other)

  -- a run that ends at rest and one that has work left are not from one account
  not_both_ends : {most count : ℕ} {a b d : Account M} (n : ℕ) → Takes s count a b → count ≤ most → Rest s b → Takes s most a d → CanMove s d n → ⊥
  not_both_ends {most = most} {count = count} {b = b} {d = d} n one within rest other left =
      let no_fewer = no_more one rest other in
      let same : b ≡ d = ends_same one other (omega arith) in
      let still : CanMove s b n = subst (λ x. CanMove s x n) (sym same) left in
      no_rest s b n (rest n still.a_gate) still

  pub one_run : {most count other : ℕ} {ending otherwise : Ending} {a b d : Account M} → Run s most a b count ending → Run s most a d other otherwise → (b ≡ d) × (count ≡ other) × (ending ≡ otherwise)
  one_run (Run.to_rest {count = k} one within rest) (Run.to_rest {count = j} other within' rest') =
      let one_way = no_more one rest other in
      let other_way = no_more other rest' one in
      let same : k ≡ j = omega arith in
      (ends_same one other same, same, refl)
  one_run (Run.to_rest one within rest) (Run.to_count {n = n} other left) = absurd (not_both_ends n one within rest other left)
  one_run (Run.to_count {n = n} one left) (Run.to_rest other within rest) = absurd (not_both_ends n other within rest one left)
  one_run (Run.to_count one left) (Run.to_count other left') = (one_end one other, refl, refl)
