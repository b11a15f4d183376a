-- Two sessions in two systems, and a relation between what their values mean.
use Rattle.std.proofs.Common.{◌≡◌, ℕ, Bool, false, Ok, subst}
use Rattle.std.specs.Prelude.{Result}
use Rattle.std.proofs.lemmas.Bool.{both_ways}
use Rattle.semantics.specs.Accounts.{Account}
use Rattle.semantics.specs.CircuitMachine.{machine}
use Rattle.semantics.specs.Comparisons.{LinesTied}
use Rattle.semantics.specs.Laws.{TiesLines}
use Rattle.semantics.specs.Machines.{Machine}
use Rattle.values.specs.Systems.{System}
use Rattle.engine.specs.Answers.{Valued}
use Rattle.engine.specs.Comparing.{Tying}
use Rattle.engine.specs.Lines.{Panel, room}
use Rattle.engine.specs.Standing.{machine_of}

-- the law for two sessions of one circuit
pub ties_both : {M N : Type 0} (system : System M) (other : System N) (R : M → N → Type 0) (p q : Panel) → p.circuit ≡ q.circuit → ((k j : ℕ) → TiesLines (machine system p.circuit k) (machine other p.circuit j) R) → TiesLines (machine_of system p) (machine_of other q) R
ties_both system other R p q same law = subst (λ c. TiesLines (machine_of system p) (machine other c (room q)) R) same (law (room p) (room q))

module _ {M N : Type 0} (s : Machine M) (q : Machine N) (R : M → N → Type 0) (a : Account M) (b : Account N) (n t : ℕ) where
  -- what is tied is not told to be untied
  pub never_untied : (r : Result Bool ℕ) → Tying s q R a b n t r → LinesTied s q R a b → r ≡ Ok false → ⊥
  never_untied r (Tying.first_refused refused) ties untied = cc
  never_untied r (Tying.second_refused first refused) ties untied = cc
  never_untied r (Tying.told {tied = tied} (Valued.told line from within) (Valued.told also since below) decides) ties untied =
      let is : tied ≡ false = cc in
      both_ways tied is (decides.1 (ties.values n t line within below))
