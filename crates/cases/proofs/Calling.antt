-- What calls answer, found by computing: each of these gives the evidence that a call has its answer, if tests are passed.
use Rattle.std.proofs.Common.{◌≡◌, ℕ, ◌+◌, ◌-◌, ◌<◌, ◌≤◌, Bool, true, false, not, eqb, ltb, leb, List, [], ◌∷◌, length, map, Ok, Err, Result, Option, Some, None, refl, ap, subst, inl, inr, ⊎_elim, arith}
use Rattle.std.specs.Prelude.{slice_get}
use Rattle.std.proofs.lemmas.Bool.{eqb-true, ltb-true, leb-true, not-true}
use Rattle.netlist.specs.Gates.{Circuit}
use Rattle.values.specs.Systems.{System}
use Rattle.semantics.specs.Accounts.{Account, settled, goal, value, before, KeptChanges, Stable, Overflows}
use Rattle.semantics.specs.Changes.{AtMost}
use Rattle.semantics.specs.Circuits.{lines, topology, Wired}
use Rattle.semantics.specs.CircuitMachine.{machine}
use Rattle.semantics.specs.Distances.{Distance}
use Rattle.semantics.specs.Logs.{Ending, Takes, Run, Log}
use Rattle.semantics.specs.Machines.Driver.{undriven, input, gate}
use Rattle.semantics.specs.Machines.{Machine, IsInput, IsGate, IsLine}
use Rattle.semantics.specs.Moves.{fed, held, taken, trimmed, CanMove, Rest}
use Rattle.semantics.specs.Worked.{taken_each}
use Rattle.semantics.proofs.Comparing.{Equality}
use Rattle.semantics.proofs.Listing.{one_list}
use Rattle.semantics.proofs.Proved.{settled_is_the_distance}
use Rattle.semantics.proofs.Wiring.{line_range, input_range, gate_range}
use Rattle.semantics.proofs.Testing as Testing
use Rattle.semantics.proofs.Testing.{is_input, is_gate, when_input, when_gate}
use Rattle.engine.specs.Answers.{Taking, Valued, Eventful, Stated, Feeding, Holding, Trimming}
use Rattle.cases.specs.Calls.{Call, feed, hold, take, run, trim, value_at, event, state, changes, distance, at_rest, Gives}
use Rattle.cases.proofs.Finding.{passed, and_then, or_else, at, up_to}

pub not_both : (b : Bool) → b ≡ false → b ≡ true → ⊥
not_both b one other = cc

-- a netlist without lines has none
pub lineless : (c : Circuit) → lines c ≡ 0 → (n : ℕ) → IsLine (topology c) n → ⊥
lineless c none n line = ⊎_elim (λ an_input. let range = input_range c n an_input in omega (arith, range.0, few)) (λ a_gate. let range = gate_range c n a_gate in omega (arith, range.0, few)) line
  where
    few : n ≤ 0
    few = let within = line_range c n line in omega (arith, within, none)

module _ (c : Circuit) (n : ℕ) where
  abbrev input_here : Option (IsInput (topology c) n)
  input_here = and_then (passed (is_input c n)) (λ is. Some (when_input c n is))

  abbrev gate_here : Option (IsGate (topology c) n)
  gate_here = and_then (passed (is_gate c n)) (λ is. Some (when_gate c n is))

  abbrev line_here : Option (IsLine (topology c) n)
  line_here = or_else (and_then input_here (λ is. Some (inl is))) (and_then gate_here (λ is. Some (inr is)))

  abbrev no_input : Option (IsInput (topology c) n → ⊥)
  no_input = and_then (passed (not (is_input c n))) (λ is. Some (λ an_input. not_both (is_input c n) (not-true (is_input c n) is) (ap (λ d. elim d [ undriven ↦ false | input ↦ true | gate ↦ false ]) an_input)))

  abbrev no_gate : Option (IsGate (topology c) n → ⊥)
  no_gate = and_then (passed (not (is_gate c n))) (λ is. Some (λ a_gate. not_both (is_gate c n) (not-true (is_gate c n) is) (ap (λ d. elim d [ undriven ↦ false | input ↦ false | gate ↦ true ]) a_gate)))

  abbrev no_line : Option (IsLine (topology c) n → ⊥)
  no_line = and_then no_input (λ one. and_then no_gate (λ other. Some (λ line. ⊎_elim one other line)))

abbrev below : (t u : ℕ) → Option (t < u)
below t u = and_then (passed (ltb t u)) (λ is. Some (ltb-true t u is))

abbrev within : (t u : ℕ) → Option (t ≤ u)
within t u = and_then (passed (leb t u)) (λ is. Some (leb-true t u is))

abbrev same_tick : (t u : ℕ) → Option (t ≡ u)
same_tick t u = and_then (passed (eqb t u)) (λ is. Some (eqb-true t u is))

module _ {M : Type 0} (e : Equality M) (s : System M) (c : Circuit) (room : ℕ) (wired : Wired c) where
  abbrev S : Machine M
  S = machine s c room

  abbrev same_meaning : (x y : M) → Option (x ≡ y)
  same_meaning x y = and_then (passed (e.same x y)) (λ is. Some ((e.decides x y).0 is))

  -- there are more changes of a line below a tick than there is room for
  abbrev too_many : (a : Account M) (n to : ℕ) → Option (AtMost room (Stable S a n) a.trim to → ⊥)
  too_many a n to =
      let ticks = Testing.changes_to e s c room a n to in
      and_then (within a.trim to)
      (λ reaches. and_then (below room (length ticks))
      (λ many. Some (λ few. let same = one_list few.changes (Testing.listed_to e s c room a n to ticks reaches refl) in over few.ticks ticks same few.few many)))
    where
      over : (ts us : List ℕ) → ts ≡ us → length ts ≤ room → room < length us → ⊥
      over ts us same few many = let as_long : length ts ≡ length us = ap length same in omega (arith, few, many, as_long)

  -- a front that can move onto a tick at which its line is stable
  abbrev moves : (a : Account M) → ℕ → Option ((n : ℕ) × CanMove S a n)
  moves a n =
      and_then (gate_here c n)
      (λ here. and_then (below (a.front n) (goal (topology c) a n))
      (λ less. and_then (same_meaning (value S a n (a.front n + (topology c).lag n)) (before S a n (a.front n + (topology c).lag n)))
      (λ stable. Some (n, record { a_gate = here; below = less; room = λ over. over.changes stable }))))

  -- what an account leads to
  record Leads (a : Account M) (F : Account M → Type 0) : Type 0 where
    pub to : Account M
    pub step : F to
    pub log : Log S a → Log S to

  module _ (a : Account M) where
    -- a refusal, after which the account is the same
    abbrev stays : {F : Account M → Type 0} → Option (F a) → Option (Leads a F)
    stays o = and_then o (λ it. Some (record { to = a; step = it; log = λ log. log }))

    abbrev feeding : (n t : ℕ) (v : M) (r : Result Unit ℕ) → Option (Leads a (Feeding S a n t v r))
    feeding n t v (Ok tt) =
        and_then (passed (Testing.feed_test e s c room a n t))
        (λ can. and_then (passed (Testing.fits_test e s c room (fed a n t v) n (t + 1)))
        (λ fits. Some (record { to = fed a n t v; step = Feeding.accepted (Testing.can_feed e s c room a n t v can fits); log = λ log. Testing.then_feed e s c room n t v log can fits })))
    feeding n t v (Err number) =
        stays
        (or_else (at (λ k. Feeding S a n t v (Err k) a) 12 number (and_then (no_input c n) (λ no. Some (Feeding.no_input no))))
        (and_then (input_here c n) (λ here.
        or_else (at (λ k. Feeding S a n t v (Err k) a) 13 number (and_then (below t (a.end n)) (λ past. Some (Feeding.past here past))))
        (and_then (within (a.end n) t) (λ onward.
        or_else (at (λ k. Feeding S a n t v (Err k) a) 14 number (and_then (below 1999999999 t) (λ late. Some (Feeding.late here onward late))))
        (at (λ k. Feeding S a n t v (Err k) a) 16 number (and_then (within t 1999999999) (λ in_time. and_then (too_many (fed a n t v) n (t + 1)) (λ full. Some (Feeding.full here onward in_time full))))))))))

    abbrev holding : (n t : ℕ) (r : Result Unit ℕ) → Option (Leads a (Holding S a n t r))
    holding n t (Ok tt) =
        and_then (passed (Testing.hold_test e s c room a n t))
        (λ can. Some (record { to = held a n t; step = Holding.accepted (Testing.can_hold e s c room a n t can); log = λ log. Testing.then_hold e s c room n t log can }))
    holding n t (Err number) =
        stays
        (or_else (at (λ k. Holding S a n t (Err k) a) 12 number (and_then (no_input c n) (λ no. Some (Holding.no_input no))))
        (and_then (input_here c n) (λ here.
        or_else (at (λ k. Holding S a n t (Err k) a) 13 number (and_then (below t (a.end n)) (λ past. Some (Holding.past here past))))
        (at (λ k. Holding S a n t (Err k) a) 14 number (and_then (within (a.end n) t) (λ onward. and_then (below 2000000000 t) (λ late. Some (Holding.late here onward late))))))))

    -- an overflow
    abbrev over : (n t : ℕ) → Option (Overflows S a n t)
    over n t = and_then (passed (Testing.overflow_test e s c room a n t)) (λ is. Some (Testing.overflows e s c room a n t is))

    abbrev taking : (n : ℕ) (r : Result ℕ ℕ) → Option (Leads a (Taking S a n r))
    taking n (Ok to) =
        let front = to - (topology c).lag n in
        and_then (passed (Testing.take_test e s c room a n front))
        (λ can. and_then (same_tick (front + (topology c).lag n) to)
        (λ is. Some (record {
          to = taken a n front;
          step = subst (λ u. Taking S a n (Ok u) (taken a n front)) is (Taking.accepted (Testing.can_take e s c room a n front can));
          log = λ log. Testing.then_take e s c room n front log can;
        })))
    taking n (Err number) =
        stays
        (or_else (at (λ k. Taking S a n (Err k) a) 12 number (and_then (no_gate c n) (λ no. Some (Taking.no_gate no))))
        (and_then (gate_here c n) (λ here.
        or_else (at (λ k. Taking S a n (Err k) a) 17 number (and_then (same_tick (a.front n) (goal (topology c) a n)) (λ is. Some (Taking.idle here is))))
        (at (λ k. Taking S a n (Err k) a) 16 number (and_then (below (a.front n) (goal (topology c) a n)) (λ less. and_then (over n (a.front n + (topology c).lag n)) (λ full. Some (Taking.full here less full))))))))

    -- The takes of a run are told, since they are not in the table.
    abbrev running : (most count : ℕ) (ending : Ending) → List (ℕ × ℕ) → Option (Leads a (λ b. Run S most a b count ending))
    running most count Ending.rest takes =
        and_then (passed (Testing.takes_test e s c room a takes))
        (λ each. and_then (passed (leb (length takes) most))
        (λ few. and_then (passed (Testing.rest_test e s c room (taken_each a takes)))
        (λ rest. and_then (same_tick (length takes) count)
        (λ is.
        let ran = subst (λ k. Run S most a (taken_each a takes) k Ending.rest) is (Testing.run_to_rest e s c room a most takes each few rest) in
        Some (record { to = taken_each a takes; step = ran; log = λ log. Testing.then_run e s c room log ran })))))
    running most count Ending.more takes =
        and_then (passed (Testing.takes_test e s c room a takes))
        (λ each. and_then (same_tick (length takes) most)
        (λ all. and_then (same_tick most count)
        (λ is. and_then (up_to (moves (taken_each a takes)) (lines c))
        (λ can.
        let ran = subst (λ k. Run S most a (taken_each a takes) k Ending.more) is (Run.to_count (subst (λ k. Takes S k a (taken_each a takes)) all (Testing.each_take e s c room a takes each)) can.1) in
        Some (record { to = taken_each a takes; step = ran; log = λ log. Testing.then_run e s c room log ran })))))

    abbrev trimming : (t : ℕ) (r : Result Unit ℕ) → Option (Leads a (Trimming S a t r))
    trimming t (Ok tt) =
        and_then (line_here c 1)
        (λ here. and_then (passed (Testing.trim_test e s c room a t))
        (λ can. Some (record { to = trimmed a t; step = Trimming.accepted {n = 1} here (Testing.can_trim e s c room a t can); log = λ log. Testing.then_trim e s c room t log can })))
    trimming t (Err number) =
        stays
        (or_else (at (λ k. Trimming S a t (Err k) a) 13 number (and_then (line_here c 1) (λ here. and_then (below t a.trim) (λ past. Some (Trimming.past {n = 1} here past)))))
        (at (λ k. Trimming S a t (Err k) a) 15 number (or_else (and_then (same_tick (lines c) 0) (λ none. Some (Trimming.no_lines (lineless c none)))) (and_then (within a.trim t) (λ onward.
        or_else (up_to (λ n. and_then (input_here c n) (λ here. and_then (below (a.end n) t) (λ beyond. Some (Trimming.beyond_end here onward beyond)))) (lines c))
        (up_to (λ n. and_then (gate_here c n) (λ here. and_then (below (a.front n) t) (λ beyond. Some (Trimming.beyond_front here onward beyond)))) (lines c)))))))

    -- the kept changes of a line
    abbrev kept : (n : ℕ) → Option ((ticks : List ℕ) × KeptChanges S a n ticks)
    kept n = and_then (within a.trim (settled (topology c) a n)) (λ reaches. let ticks = Testing.changes_to e s c room a n (settled (topology c) a n) in Some (ticks, Testing.listed_to e s c room a n (settled (topology c) a n) ticks reaches refl))

    abbrev valued : (n t : ℕ) (r : Result M ℕ) → Option (Valued S a n t r)
    valued n t (Ok m) =
        and_then (line_here c n)
        (λ here. and_then (within a.trim t)
        (λ onward. and_then (below t (settled (topology c) a n))
        (λ less. and_then (same_meaning (value S a n t) m) (λ is. Some (subst (λ x. Valued S a n t (Ok x)) is (Valued.told here onward less))))))
    valued n t (Err number) =
        or_else (at (λ k. Valued S a n t (Err k)) 12 number (and_then (no_line c n) (λ no. Some (Valued.no_line no))))
        (and_then (line_here c n) (λ here.
        or_else (at (λ k. Valued S a n t (Err k)) 13 number (and_then (below t a.trim) (λ past. Some (Valued.past here past))))
        (at (λ k. Valued S a n t (Err k)) 15 number (and_then (within a.trim t) (λ onward. and_then (within (settled (topology c) a n) t) (λ beyond. Some (Valued.unsettled here onward beyond)))))))

    -- the change of that number, where there is one
    abbrev at_change : (n k : ℕ) (told : ℕ × M) → IsLine (topology c) n → (ticks : List ℕ) → KeptChanges S a n ticks → (o : Option ℕ) → slice_get ticks k ≡ o → Option (Eventful S a n k (Ok told))
    at_change n k told here ticks listed None none = None
    at_change n k told here ticks listed (Some t) is =
        and_then (same_tick t told.0)
        (λ tick. and_then (same_meaning (value S a n t) told.1) (λ meaning. Some (subst (λ x. Eventful S a n k (Ok (told.0, x))) meaning (subst (λ x. Eventful S a n k (Ok (x, value S a n t))) tick (Eventful.told here listed is)))))

    abbrev eventful : (n k : ℕ) (r : Result (ℕ × M) ℕ) → Option (Eventful S a n k r)
    eventful n k (Ok told) = and_then (line_here c n) (λ here. and_then (kept n) (λ is. at_change n k told here is.0 is.1 (slice_get is.0 k) refl))
    eventful n k (Err number) =
        or_else (at (λ j. Eventful S a n k (Err j)) 12 number (and_then (no_line c n) (λ no. Some (Eventful.no_line no))))
        (and_then (line_here c n) (λ here. at (λ j. Eventful S a n k (Err j)) 18 number (and_then (kept n) (λ is. and_then (within (length is.0) k) (λ none. Some (Eventful.none_such here is.1 none))))))

    abbrev stated : (n : ℕ) (r : Result (ℕ × ℕ) ℕ) → Option (Stated S a n r)
    stated n (Ok told) =
        and_then (line_here c n)
        (λ here. and_then (kept n)
        (λ is. and_then (same_tick (settled (topology c) a n) told.0)
        (λ far. and_then (same_tick (length is.0) told.1) (λ count. Some (subst (λ x. Stated S a n (Ok (x, told.1))) far (subst (λ x. Stated S a n (Ok (settled (topology c) a n, x))) count (Stated.told here is.1)))))))
    stated n (Err number) = at (λ k. Stated S a n (Err k)) 12 number (and_then (no_line c n) (λ no. Some (Stated.no_line no)))

    -- at these ticks the line gets these values
    abbrev shows : (n : ℕ) (ticks : List ℕ) (shown : List (ℕ × M)) → Option (shown ≡ map (λ t. (t, value S a n t)) ticks)
    shows n [] [] = Some refl
    shows n (t ∷ ts) (one ∷ others) =
        and_then (same_tick one.0 t)
        (λ tick. and_then (same_meaning one.1 (value S a n t)) (λ meaning. and_then (shows n ts others) (λ rest. Some ((λ i. (tick i, meaning i) ∷ rest i)))))
    shows n [] (one ∷ others) = None
    shows n (t ∷ ts) [] = None

    abbrev changed : (n : ℕ) (shown : List (ℕ × M)) → Option ((ticks : List ℕ) × KeptChanges S a n ticks × shown ≡ map (λ t. (t, value S a n t)) ticks)
    changed n shown = and_then (kept n) (λ is. and_then (shows n is.0 shown) (λ same. Some (is.0, is.1, same)))

    abbrev rests : Option (Rest S a)
    rests = and_then (passed (Testing.rest_test e s c room a)) (λ is. Some (Testing.at_rest e s c room a is))

    abbrev distant : Log S a → (n far : ℕ) → Option (Distance S a n far)
    distant log n far =
        and_then rests
        (λ rest. and_then (line_here c n)
        (λ here. and_then (same_tick (settled (topology c) a n) far) (λ is. Some (subst (Distance S a n) is (settled_is_the_distance s c room wired a log rest n here)))))

  -- what calls give, in an account with a log; for each run the takes are told that it makes
  abbrev pub gives : (a : Account M) → Log S a → List (List (ℕ × ℕ)) → (calls : List (Call M)) → Option (Gives S a calls)
  gives a log runs [] = Some tt
  gives a log runs (feed n t v r ∷ calls) = and_then (feeding a n t v r) (λ on. and_then (gives on.to (on.log log) runs calls) (λ rest. Some (on.to, on.step, rest)))
  gives a log runs (hold n t r ∷ calls) = and_then (holding a n t r) (λ on. and_then (gives on.to (on.log log) runs calls) (λ rest. Some (on.to, on.step, rest)))
  gives a log runs (take n r ∷ calls) = and_then (taking a n r) (λ on. and_then (gives on.to (on.log log) runs calls) (λ rest. Some (on.to, on.step, rest)))
  gives a log [] (run most count ending ∷ calls) = None
  gives a log (takes ∷ runs) (run most count ending ∷ calls) = and_then (running a most count ending takes) (λ on. and_then (gives on.to (on.log log) runs calls) (λ rest. Some (on.to, on.step, rest)))
  gives a log runs (trim t r ∷ calls) = and_then (trimming a t r) (λ on. and_then (gives on.to (on.log log) runs calls) (λ rest. Some (on.to, on.step, rest)))
  gives a log runs (value_at n t r ∷ calls) = and_then (valued a n t r) (λ is. and_then (gives a log runs calls) (λ rest. Some (is, rest)))
  gives a log runs (event n k r ∷ calls) = and_then (eventful a n k r) (λ is. and_then (gives a log runs calls) (λ rest. Some (is, rest)))
  gives a log runs (state n r ∷ calls) = and_then (stated a n r) (λ is. and_then (gives a log runs calls) (λ rest. Some (is, rest)))
  gives a log runs (changes n shown ∷ calls) = and_then (changed a n shown) (λ is. and_then (gives a log runs calls) (λ rest. Some (is, rest)))
  gives a log runs (distance n far ∷ calls) = and_then (distant a log n far) (λ is. and_then (gives a log runs calls) (λ rest. Some (is, rest)))
  gives a log runs (at_rest ∷ calls) = and_then (rests a) (λ is. and_then (gives a log runs calls) (λ rest. Some (is, rest)))
