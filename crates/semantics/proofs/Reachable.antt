-- Whether an input reaches a line can be told by a test, and so a truncated walk from an input is a walk.
use Rattle.std.proofs.Common.{◌≡◌, ℕ, zero, suc, Bool, true, false, ◌||◌, refl, subst, ⊎_elim, arith}
use Rattle.std.proofs.lemmas.Bool.{cases_eq, or_cases, or_right}
use mathlib.Core.Bool.{Bool-set}
use mathlib.Core.Logic.{∥∥₁_elim}
use Rattle.netlist.specs.Gates.{Circuit}
use Rattle.netlist.specs.Walks.{Walk, Leads, Reached}
use Rattle.semantics.proofs.Looping.{to, to_passes, to_walks}

module _ (c : Circuit) (n : ℕ) where
  -- one of the lines 1 to k leads to line n
  some_to : ℕ → Bool
  some_to zero = false
  some_to (suc k) = to c (suc k) n || some_to k

  some_passes : (k : ℕ) → Leads c 1 k n → some_to k ≡ true
  unfolding some_to
  some_passes zero leads = absurd (omega (arith, leads.not_before, leads.not_after))
  some_passes (suc k) leads =
      ⊎_elim (λ same. rw (to_passes c (suc k) n (subst (λ i. Walk c i n) same leads.walk)) refl)
      (λ other. or_right (to c (suc k) n) (some_to k) (some_passes k (record { from = leads.from; not_before = leads.not_before; not_after = omega (arith, leads.not_after, other); walk = leads.walk })))
      (cases_eq leads.from (suc k))

  some_leads : (k : ℕ) → some_to k ≡ true → Leads c 1 k n
  unfolding some_to
  some_leads zero passed = cc
  some_leads (suc k) passed =
      ⊎_elim (λ last. record { from = suc k; not_before = omega arith; not_after = omega arith; walk = to_walks c (suc k) n last })
      (λ rest. let leads = some_leads k rest in record { from = leads.from; not_before = leads.not_before; not_after = omega (arith, leads.not_after); walk = leads.walk }) (or_cases (to c (suc k) n) (some_to k) passed)

  pub reached : ∥ Reached c n ∥₁ → Reached c n
  reached truncated = some_leads c.inputs (∥∥₁_elim truncated (Bool-set (some_to c.inputs) true) (some_passes c.inputs))
