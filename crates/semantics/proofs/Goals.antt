-- Settled times and goals.
use Rattle.std.proofs.Common.{◌≡◌, ℕ, zero, suc, ◌+◌, ◌<◌, ◌≤◌, min, ◌⊎◌, List, [], ◌∷◌, map, length, get_or, refl, ap, sym, ◌∙◌, subst, inl, inr, ⊎_elim, arith, Contains}
use Rattle.std.specs.Prelude.{fold}
use Rattle.semantics.specs.Machines.{Driver, Topology, IsInput, IsGate, IsLine, ReadsFrom}
use Rattle.semantics.specs.Machines.Driver.{undriven, input, gate}
use Rattle.semantics.specs.Accounts.{Account, settled, goal, least}
use Rattle.semantics.proofs.Locality.{Sound}

module _ {M : Type 0} (topology : Topology) (a : Account M) (n : ℕ) where
  by_driver : Driver → ℕ
  by_driver d = elim d [ undriven ↦ 0 | input ↦ a.end n | gate ↦ a.front n + topology.lag n ]

  pub settled_input : IsInput topology n → settled topology a n ≡ a.end n
  unfolding by_driver
  settled_input is = ap by_driver is

  pub settled_gate : IsGate topology n → settled topology a n ≡ a.front n + topology.lag n
  unfolding by_driver
  settled_gate is = ap by_driver is

  pub settled_undriven : topology.driver n ≡ undriven → settled topology a n ≡ 0
  unfolding by_driver
  settled_undriven is = ap by_driver is

-- no line is driven by both
pub not_both : (topology : Topology) (n : ℕ) → IsInput topology n → IsGate topology n → ⊥
not_both topology n an_input a_gate = cc

-- every number is that of an input, of a gate, or of no line
pub cases_driver : (topology : Topology) (n : ℕ) → IsLine topology n ⊎ (topology.driver n ≡ undriven)
cases_driver topology n = told (topology.driver n) refl
  where
    told : (d : Driver) → topology.driver n ≡ d → IsLine topology n ⊎ (topology.driver n ≡ undriven)
    told undriven is = inr is
    told input is = inl (inl is)
    told gate is = inl (inr is)

-- the least of a list is no more than each, and one of them
pub fold_first : (t : ℕ) (ts : List ℕ) → fold min t ts ≤ t
fold_first t [] = omega arith
fold_first t (u ∷ us) = let below = fold_first (min t u) us in omega arith

-- some line of the list, and its settled time
pub record Attained (f : ℕ → ℕ) (ms : List ℕ) (t : ℕ) : Type 0 where
  pub line : ℕ
  pub among : Contains ms line
  pub is : f line ≡ t

module _ (f : ℕ → ℕ) where
  after : (m : ℕ) (ms : List ℕ) (t : ℕ) → Attained f ms t → Attained f (m ∷ ms) t
  after m ms t found = record { line = found.line; among = (suc found.among.0, omega (arith, found.among.1), found.among.2); is = found.is }

  here : (m : ℕ) (ms : List ℕ) (t : ℕ) → f m ≡ t → Attained f (m ∷ ms) t
  here m ms t is = record { line = m; among = (0, omega arith, refl); is = is }

  fold_attained : (t : ℕ) (ms : List ℕ) → (fold min t (map f ms) ≡ t) ⊎ Attained f ms (fold min t (map f ms))
  fold_attained t [] = inl refl
  fold_attained t (m ∷ ms) =
      ⊎_elim (λ kept. ⊎_elim (λ first. inl (kept ∙ first)) (λ second. inr (here m ms _ (sym (kept ∙ second)))) (lesser t (f m))) (λ found. inr (after m ms _ found))
      (fold_attained (min t (f m)) ms)
    where
      lesser : (a b : ℕ) → (min a b ≡ a) ⊎ (min a b ≡ b)
      lesser a b = grind arith

  least_attained : (ms : List ℕ) → 0 < length ms → Attained f ms (least (map f ms))
  least_attained [] some = absurd (omega arith)
  least_attained (m ∷ ms) some = ⊎_elim (λ first. here m ms _ (sym first)) (after m ms _) (fold_attained (f m) ms)

  least_each : (ms : List ℕ) (m : ℕ) → Contains ms m → least (map f ms) ≤ f m
  least_each [] m among = absurd (omega (arith, among.1))
  least_each (j ∷ js) m (zero, within, is) = subst (λ x. fold min (f j) (map f js) ≤ f x) is (fold_first (f j) (map f js))
  least_each (j ∷ js) m (suc k, within, is) = at_place (f j) js k m (omega arith) is
    where
      at_place : (t : ℕ) (js : List ℕ) (k m : ℕ) → k < length js → get_or js k m ≡ m → fold min t (map f js) ≤ f m
      at_place t [] k m within is = absurd (omega arith)
      at_place t (j ∷ js) zero m within is = let below = fold_first (min t (f j)) (map f js) in let same = ap f is in omega arith
      at_place t (j ∷ js) (suc k) m within is = at_place (min t (f j)) js k m (omega arith) is

module _ {M : Type 0} (topology : Topology) (a : Account M) (n : ℕ) where
  pub goal_each : (m : ℕ) → ReadsFrom topology n m → goal topology a n ≤ settled topology a m
  goal_each m read = least_each (settled topology a) (topology.reads n) m read

  pub goal_attained : Sound topology → IsGate topology n → Attained (settled topology a) (topology.reads n) (goal topology a n)
  goal_attained sound a_gate = least_attained (settled topology a) (topology.reads n) (sound.reads_some n a_gate)
