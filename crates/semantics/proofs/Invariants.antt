-- What holds in every log, and what follows from it alone.
use Rattle.std.proofs.Common.{◌≡◌, ◌↔◌, ℕ, zero, suc, ◌+◌, ◌<◌, ◌≤◌, [], refl, ap, sym, ◌∙◌, ⊎_elim, arith}
use Rattle.semantics.specs.Machines.{Machine, IsInput, IsGate, ReadsFrom}
use Rattle.semantics.specs.Changes.{AtMost}
use Rattle.semantics.specs.Changes.Changes.{none}
use Rattle.semantics.specs.Machines.Driver.{undriven}
use Rattle.semantics.specs.Accounts.{Account, settled, initial, value, Stable}
use Rattle.semantics.specs.Comparisons.{Stays}
use Rattle.semantics.proofs.Goals.{settled_input, settled_gate, settled_undriven, cases_driver}
use Rattle.semantics.proofs.Locality.{Horizon}

-- what holds of the accounts of every log
pub record Invariant {M : Type 0} (s : Machine M) (a : Account M) : Type 0 where
  pub follows : (n m : ℕ) → IsGate s.topology n → ReadsFrom s.topology n m → a.front n ≤ settled s.topology a m
  pub fits : (n : ℕ) → AtMost s.room (Stable s a n) a.trim (settled s.topology a n)
  pub input_reaches : (n : ℕ) → IsInput s.topology n → a.trim ≤ a.end n
  pub front_reaches : (n : ℕ) → IsGate s.topology n → a.trim ≤ a.front n
  pub ends_in_time : (n : ℕ) → IsInput s.topology n → a.end n ≤ 2000000000
  pub input_keeps : (n t : ℕ) → IsInput s.topology n → a.end n ≤ t → Stable s a n t

module _ {M : Type 0} (s : Machine M) where
  pub stays_itself : (a : Account M) → Stays s a a
  stays_itself a = record { settled_times = λ n. omega arith; initial_values = λ n line. refl; values = λ n t line within. refl }

  pub stays_on : (a b c : Account M) → Stays s a b → Stays s b c → Stays s a c
  stays_on a b c first second = record {
    settled_times = λ n. let f = first.settled_times n in let g = second.settled_times n in omega arith;
    initial_values = λ n line. first.initial_values n line ∙ second.initial_values n line;
    values = λ n t line within. let f = first.settled_times n in first.values n t line within ∙ second.values n t line (omega arith);
  }

  -- the ticks below the settled times are a horizon
  pub settled_horizon : (a : Account M) → Invariant s a → Horizon s.topology (λ n t. t < settled s.topology a n)
  settled_horizon a h = record {
    down = λ n t within. omega arith;
    back = λ n m t a_gate read within. let is = settled_gate s.topology a n a_gate in let follows = h.follows n m a_gate read in omega arith;
  }

  -- where initial values and all values up to a tick are equal, a line is stable there in one account if it is in the other
  pub stable_alike : (a b : Account M) (n t : ℕ) → initial s a n ≡ initial s b n → ((u : ℕ) → u ≤ t → value s a n u ≡ value s b n u) → Stable s a n t ↔ Stable s b n t
  stable_alike a b n zero begin same = ((λ still. sym (same zero (omega arith)) ∙ (still ∙ begin)), (λ still. same zero (omega arith) ∙ (still ∙ sym begin)))
  stable_alike a b n (suc t) begin same =
      ((λ still. sym (same (suc t) (omega arith)) ∙ (still ∙ same t (omega arith))), (λ still. same (suc t) (omega arith) ∙ (still ∙ sym (same t (omega arith)))))

module _ {M : Type 0} (s : Machine M) where
  -- where ends and fronts are no less, lines are settled no less
  pub settled_grows : (a b : Account M) → ((n : ℕ) → a.end n ≤ b.end n) → ((n : ℕ) → a.front n ≤ b.front n) → (n : ℕ) → settled s.topology a n ≤ settled s.topology b n
  settled_grows a b ends fronts n =
      ⊎_elim
      (⊎_elim (λ an_input. let e = ends n in rw (settled_input s.topology a n an_input, settled_input s.topology b n an_input) e)
      (λ a_gate. let f = fronts n in rw (settled_gate s.topology a n a_gate, settled_gate s.topology b n a_gate) (omega arith)))
      (λ none. rw (settled_undriven s.topology a n none) (omega arith)) (cases_driver s.topology n)

  pub settled_same : (a b : Account M) (n : ℕ) → a.end n ≡ b.end n → a.front n ≡ b.front n → settled s.topology a n ≡ settled s.topology b n
  settled_same a b n ends fronts =
      ⊎_elim
      (⊎_elim (λ an_input. settled_input s.topology a n an_input ∙ (ends ∙ sym (settled_input s.topology b n an_input)))
      (λ a_gate. settled_gate s.topology a n a_gate ∙ (ap (λ x. x + s.topology.lag n) fronts ∙ sym (settled_gate s.topology b n a_gate))))
      (λ none. settled_undriven s.topology a n none ∙ sym (settled_undriven s.topology b n none)) (cases_driver s.topology n)

  -- of what no line is, nothing is settled, so all its changes fit
  pub fits_undriven : (a : Account M) (n : ℕ) → s.topology.driver n ≡ undriven → AtMost s.room (Stable s a n) a.trim (settled s.topology a n)
  fits_undriven a n is = rw (settled_undriven s.topology a n is)
      (record { ticks = []; changes = none {from = a.trim} (λ t t_from t_to. absurd (omega arith)); few = omega arith })

  -- an account with the same fronts, and all values equal
  module _ (a b : Account M) (h : Invariant s a) where
    pub stable_beyond : ((n : ℕ) → b.front n ≡ a.front n) → (n t : ℕ) → settled s.topology a n ≤ t → t < settled s.topology b n → Stable s a n t
    stable_beyond fronts n t from to =
        ⊎_elim
        (⊎_elim (λ an_input. let is = settled_input s.topology a n an_input in h.input_keeps n t an_input (omega arith))
        (λ a_gate. let e = fronts n in absurd (omega (arith, settled_gate s.topology a n a_gate, settled_gate s.topology b n a_gate))))
        (λ none. absurd (omega (arith, settled_undriven s.topology b n none))) (cases_driver s.topology n)
