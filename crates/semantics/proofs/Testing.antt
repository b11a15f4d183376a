-- Tests which, by computing, show that a call is accepted and that an account is at rest.
use Rattle.std.proofs.Common.{◌≡◌, ℕ, zero, suc, ◌+◌, ◌-◌, ◌<◌, ◌≤◌, Bool, true, false, not, ◌&&◌, ◌||◌, eqb, ltb, leb, ◌⊎◌, List, [], ◌∷◌, length, refl, ap, sym, ◌∙◌, subst, inl, inr, ⊎_elim, arith}
use Rattle.std.specs.Prelude.{Decides}
use Rattle.std.proofs.lemmas.Bool.{and_parts, or_cases, eqb-true, ltb-true, leb-true, not-true, cases_eq}
use Rattle.netlist.specs.Gates.{Circuit}
use Rattle.values.specs.Systems.{System}
use Rattle.semantics.specs.Machines.{Driver, IsInput, IsGate, Machine}
use Rattle.semantics.specs.Machines.Driver.{undriven, input, gate}
use Rattle.semantics.specs.Accounts.{Account, goal, value, before, Stable, Overflows}
use Rattle.semantics.specs.Changes.{Changes, AtMost}
use Rattle.semantics.specs.Circuits.{driver, lines, topology}
use Rattle.semantics.specs.CircuitMachine.{machine}
use Rattle.semantics.specs.Moves.{made, fed, held, taken, trimmed, CanFeed, CanHold, CanTake, CanTrim, Takeable, ComesFirst, Rests, Rest}
use Rattle.semantics.specs.Logs.{Ending, Takes, Run, Step, Steps, Log}
use Rattle.semantics.specs.Worked.{taken_each}
use Rattle.semantics.proofs.Comparing.{Equality}
use Rattle.semantics.proofs.Computing.{listed, listed_changes, loud}
use Rattle.semantics.proofs.Resting.{resting}
use Rattle.semantics.proofs.Wiring.{line_range}

-- a test of the lines up to one
abbrev pub up_to : (ℕ → Bool) → ℕ → Bool
up_to p zero = p zero
up_to p (suc n) = p (suc n) && up_to p n

up_to_each : (p : ℕ → Bool) (k n : ℕ) → up_to p k ≡ true → n ≤ k → p n ≡ true
up_to_each p zero n passed within = let is : n ≡ 0 = omega arith in ap p is ∙ passed
up_to_each p (suc k) n passed within =
    let parts = and_parts (p (suc k)) (up_to p k) passed in
    ⊎_elim (λ same. ap p same ∙ parts.0) (λ other. up_to_each p k n parts.1 (omega (arith, other))) (cases_eq n (suc k))

module _ (c : Circuit) where
  abbrev pub is_input : ℕ → Bool
  is_input n = elim (driver c n) [ undriven ↦ false | input ↦ true | gate ↦ false ]

  abbrev pub is_gate : ℕ → Bool
  is_gate n = elim (driver c n) [ undriven ↦ false | input ↦ false | gate ↦ true ]

  pub when_input : (n : ℕ) → is_input n ≡ true → IsInput (topology c) n
  when_input n = at_driver (driver c n)
    where
      at_driver : (d : Driver) → (elim d [ undriven ↦ false | input ↦ true | gate ↦ false ]) ≡ true → d ≡ input
      at_driver undriven is = cc
      at_driver input is = refl
      at_driver gate is = cc

  pub when_gate : (n : ℕ) → is_gate n ≡ true → IsGate (topology c) n
  when_gate n = at_driver (driver c n)
    where
      at_driver : (d : Driver) → (elim d [ undriven ↦ false | input ↦ false | gate ↦ true ]) ≡ true → d ≡ gate
      at_driver undriven is = cc
      at_driver input is = cc
      at_driver gate is = refl

  -- a test for inputs or a test for gates
  abbrev pub on_driver : Bool → Bool → Driver → Bool
  on_driver p q d = elim d [ undriven ↦ true | input ↦ p | gate ↦ q ]

  -- a test of each input and a test of each gate
  abbrev pub each : (ℕ → Bool) → (ℕ → Bool) → Bool
  each p q = up_to (λ n. on_driver (p n) (q n) (driver c n)) (lines c)

  each_input : (p q : ℕ → Bool) → each p q ≡ true → (n : ℕ) → IsInput (topology c) n → p n ≡ true
  each_input p q passed n an_input = ap (on_driver (p n) (q n)) (sym an_input) ∙ up_to_each (λ n. on_driver (p n) (q n) (driver c n)) (lines c) n passed (line_range c n (inl an_input))

  each_gate : (p q : ℕ → Bool) → each p q ≡ true → (n : ℕ) → IsGate (topology c) n → q n ≡ true
  each_gate p q passed n a_gate = ap (on_driver (p n) (q n)) (sym a_gate) ∙ up_to_each (λ n. on_driver (p n) (q n) (driver c n)) (lines c) n passed (line_range c n (inr a_gate))

module _ {M : Type 0} (e : Equality M) (s : System M) (c : Circuit) (room : ℕ) where
  abbrev S : Machine M
  S = machine s c room

  module _ (a : Account M) where
    abbrev pub quiet : ℕ → ℕ → Bool
    quiet n t = e.same (value S a n t) (before S a n t)

    pub tells : (n t : ℕ) → Decides (quiet n t) (Stable S a n t)
    tells n t = e.decides (value S a n t) (before S a n t)

    -- the changes from the trim tick on and below a tick
    abbrev pub changes_to : ℕ → ℕ → List ℕ
    changes_to n to = listed (quiet n) (to - a.trim) a.trim

    pub listed_to : (n to : ℕ) (ts : List ℕ) → a.trim ≤ to → changes_to n to ≡ ts → Changes (Stable S a n) to a.trim ts
    listed_to n to ts reaches is =
        let up : a.trim + (to - a.trim) ≡ to = omega arith in
        subst (Changes (Stable S a n) to a.trim) is (subst (λ x. Changes (Stable S a n) x a.trim (listed (quiet n) (to - a.trim) a.trim)) up (listed_changes (Stable S a n) (quiet n) (tells n) (to - a.trim) a.trim))

    abbrev pub fits_test : ℕ → ℕ → Bool
    fits_test n to = leb a.trim to && leb (length (changes_to n to)) room

    pub fits : (n to : ℕ) → fits_test n to ≡ true → AtMost room (Stable S a n) a.trim to
    fits n to passed =
        let parts = and_parts (leb a.trim to) (leb (length (changes_to n to)) room) passed in
        record { ticks = changes_to n to; changes = listed_to n to (changes_to n to) (leb-true a.trim to parts.0) refl; few = leb-true (length (changes_to n to)) room parts.1 }

    abbrev pub overflow_test : ℕ → ℕ → Bool
    overflow_test n t = leb a.trim t && not (quiet n t) && eqb (length (changes_to n t)) room

    pub overflows : (n t : ℕ) → overflow_test n t ≡ true → Overflows S a n t
    overflows n t passed =
        let parts = and_parts (leb a.trim t && not (quiet n t)) (eqb (length (changes_to n t)) room) passed in
        let firsts = and_parts (leb a.trim t) (not (quiet n t)) parts.0 in
        let reaches = leb-true a.trim t firsts.0 in
        record {
          from_trim = reaches;
          changes = loud (Stable S a n) (quiet n) (tells n) t (not-true (quiet n t) firsts.1);
          room_is_full = record { ticks = changes_to n t; changes = listed_to n t (changes_to n t) reaches refl; count = eqb-true (length (changes_to n t)) room parts.1 };
        }

    abbrev pub feed_test : ℕ → ℕ → Bool
    feed_test n t = is_input c n && leb (a.end n) t && leb t 1999999999

    abbrev pub hold_test : ℕ → ℕ → Bool
    hold_test n t = is_input c n && leb (a.end n) t && leb t 2000000000

    pub can_hold : (n t : ℕ) → hold_test n t ≡ true → CanHold S a n t
    can_hold n t passed =
        let parts = and_parts (is_input c n && leb (a.end n) t) (leb t 2000000000) passed in
        let firsts = and_parts (is_input c n) (leb (a.end n) t) parts.0 in
        record { an_input = when_input c n firsts.0; not_past = leb-true (a.end n) t firsts.1; in_time = leb-true t 2000000000 parts.1 }

    abbrev pub stop_test : ℕ → ℕ → Bool
    stop_test n front = eqb front (goal (topology c) a n) || overflow_test n (front + (topology c).lag n)

    abbrev pub take_test : ℕ → ℕ → Bool
    take_test n front = is_gate c n && ltb (a.front n) front && leb front (goal (topology c) a n) && fits_test n (front + (topology c).lag n) && stop_test n front

    pub can_take : (n front : ℕ) → take_test n front ≡ true → CanTake S a n front
    can_take n front passed =
        let to : ℕ = front + (topology c).lag n in
        let four = and_parts (is_gate c n && ltb (a.front n) front && leb front (goal (topology c) a n) && fits_test n to) (stop_test n front) passed in
        let three = and_parts (is_gate c n && ltb (a.front n) front && leb front (goal (topology c) a n)) (fits_test n to) four.0 in
        let two = and_parts (is_gate c n && ltb (a.front n) front) (leb front (goal (topology c) a n)) three.0 in
        let one = and_parts (is_gate c n) (ltb (a.front n) front) two.0 in
        record {
          a_gate = when_gate c n one.0;
          onward = ltb-true (a.front n) front one.1;
          not_beyond = leb-true front (goal (topology c) a n) two.1;
          fits = fits n to three.1;
          stops = ⊎_elim (λ at_goal. inl (eqb-true front (goal (topology c) a n) at_goal)) (λ over. inr (overflows n to over)) (or_cases (eqb front (goal (topology c) a n)) (overflow_test n to) four.1);
        }

    abbrev pub rests_test : ℕ → Bool
    rests_test n = eqb (a.front n) (goal (topology c) a n) || (ltb (a.front n) (goal (topology c) a n) && overflow_test n (a.front n + (topology c).lag n))

    pub rests : (n : ℕ) → rests_test n ≡ true → Rests S a n
    rests n passed =
        let to : ℕ = a.front n + (topology c).lag n in
        ⊎_elim (λ at_goal. Rests.idle (eqb-true (a.front n) (goal (topology c) a n) at_goal))
        (λ over. let parts = and_parts (ltb (a.front n) (goal (topology c) a n)) (overflow_test n to) over in Rests.full (ltb-true (a.front n) (goal (topology c) a n) parts.0) (overflows n to parts.1))
        (or_cases (eqb (a.front n) (goal (topology c) a n)) (ltb (a.front n) (goal (topology c) a n) && overflow_test n to) passed)

    abbrev pub rest_test : Bool
    rest_test = each c (λ n. true) rests_test

    pub at_rest : rest_test ≡ true → Rest S a
    at_rest passed n a_gate = rests n (each_gate c (λ n. true) rests_test passed n a_gate)

    abbrev pub trim_test : ℕ → Bool
    trim_test t = leb a.trim t && each c (λ n. leb t (a.end n)) (λ n. leb t (a.front n))

    pub can_trim : (t : ℕ) → trim_test t ≡ true → CanTrim S a t
    can_trim t passed =
        let parts = and_parts (leb a.trim t) (each c (λ n. leb t (a.end n)) (λ n. leb t (a.front n))) passed in
        record {
          not_past = leb-true a.trim t parts.0;
          ends_reach = λ n an_input. leb-true t (a.end n) (each_input c (λ n. leb t (a.end n)) (λ n. leb t (a.front n)) parts.1 n an_input);
          fronts_reach = λ n a_gate. leb-true t (a.front n) (each_gate c (λ n. leb t (a.end n)) (λ n. leb t (a.front n)) parts.1 n a_gate);
        }

    -- each other gate rests, or comes later
    abbrev pub later_test : ℕ → ℕ → Bool
    later_test n m = rests_test m || ltb (a.front n) (a.front m) || (eqb (a.front n) (a.front m) && leb n m)

    abbrev pub first_test : ℕ → Bool
    first_test n = each c (λ m. true) (later_test n)

    pub comes_first : (n : ℕ) → Takeable S a n → first_test n ≡ true → ComesFirst S a n
    comes_first n able passed = record { can = able; first = first }
      where
        first : (m : ℕ) → Takeable S a m → (a.front n < a.front m) ⊎ ((a.front n ≡ a.front m) × n ≤ m)
        first m other =
            ⊎_elim (λ sooner. ⊎_elim (λ rest. absurd (resting S a m (rests m rest) other)) (λ less. inl (ltb-true (a.front n) (a.front m) less)) (or_cases (rests_test m) (ltb (a.front n) (a.front m)) sooner))
            (λ equal. let parts = and_parts (eqb (a.front n) (a.front m)) (leb n m) equal in inr (eqb-true (a.front n) (a.front m) parts.0, leb-true n m parts.1))
            (or_cases (rests_test m || ltb (a.front n) (a.front m)) (eqb (a.front n) (a.front m) && leb n m) (each_gate c (λ m. true) (later_test n) passed m other.can.a_gate))

  pub can_feed : (a : Account M) (n t : ℕ) (v : M) → feed_test a n t ≡ true → fits_test (fed a n t v) n (t + 1) ≡ true → CanFeed S a n t v
  can_feed a n t v passed room' =
      let parts = and_parts (is_input c n && leb (a.end n) t) (leb t 1999999999) passed in
      let firsts = and_parts (is_input c n) (leb (a.end n) t) parts.0 in
      record { an_input = when_input c n firsts.0; not_past = leb-true (a.end n) t firsts.1; in_time = leb-true t 1999999999 parts.1; fits = fits (fed a n t v) n (t + 1) room' }

  -- logs and takes, call by call
  pub begun : (start : ℕ → M) → Log S (made start)
  begun start = record { start = start; steps = Steps.none }

  on : {a b : Account M} → Log S a → Step S a b → Log S b
  on log step = record { start = log.start; steps = Steps.then log.steps step }

  pub then_feed : {a : Account M} (n t : ℕ) (v : M) → Log S a → feed_test a n t ≡ true → fits_test (fed a n t v) n (t + 1) ≡ true → Log S (fed a n t v)
  then_feed {a = a} n t v log passed room' = on log (Step.feed (can_feed a n t v passed room'))

  pub then_hold : {a : Account M} (n t : ℕ) → Log S a → hold_test a n t ≡ true → Log S (held a n t)
  then_hold {a = a} n t log passed = on log (Step.hold (can_hold a n t passed))

  pub then_take : {a : Account M} (n front : ℕ) → Log S a → take_test a n front ≡ true → Log S (taken a n front)
  then_take {a = a} n front log passed = on log (Step.take (can_take a n front passed))

  pub then_trim : {a : Account M} (t : ℕ) → Log S a → trim_test a t ≡ true → Log S (trimmed a t)
  then_trim {a = a} t log passed = on log (Step.trim (can_trim a t passed))

  pub then_run : {a b : Account M} {most count : ℕ} {ending : Ending} → Log S a → Run S most a b count ending → Log S b
  then_run log ran = on log (Step.run ran)

  first_take : {a b : Account M} {k : ℕ} (n front : ℕ) → first_test a n ≡ true → take_test a n front ≡ true → Takes S k (taken a n front) b → Takes S (suc k) a b
  first_take {a = a} n front first passed rest = let can = can_take a n front passed in Takes.one_more (comes_first a n (record { front = front; can = can }) first) can rest

  pub takeable : (a : Account M) (n front : ℕ) → take_test a n front ≡ true → Takeable S a n
  takeable a n front passed = record { front = front; can = can_take a n front passed }

  -- takes one after another, each of the gate that comes first
  abbrev pub takes_test : Account M → List (ℕ × ℕ) → Bool
  takes_test a [] = true
  takes_test a (take ∷ takes) = first_test a take.0 && take_test a take.0 take.1 && takes_test (taken a take.0 take.1) takes

  pub each_take : (a : Account M) (takes : List (ℕ × ℕ)) → takes_test a takes ≡ true → Takes S (length takes) a (taken_each a takes)
  each_take a [] passed = Takes.none
  each_take a (take ∷ takes) passed =
      let parts = and_parts (first_test a take.0 && take_test a take.0 take.1) (takes_test (taken a take.0 take.1) takes) passed in
      let firsts = and_parts (first_test a take.0) (take_test a take.0 take.1) parts.0 in
      first_take take.0 take.1 firsts.0 firsts.1 (each_take (taken a take.0 take.1) takes parts.1)

  pub run_to_rest : (a : Account M) (most : ℕ) (takes : List (ℕ × ℕ)) → takes_test a takes ≡ true → leb (length takes) most ≡ true → rest_test (taken_each a takes) ≡ true → Run S most a (taken_each a takes) (length takes) Ending.rest
  run_to_rest a most takes passed few rest = Run.to_rest (each_take a takes passed) (leb-true (length takes) most few) (at_rest (taken_each a takes) rest)
