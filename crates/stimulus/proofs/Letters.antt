-- Records whose letter may not come, and empty ones.
use Rattle.std.proofs.Common.{◌≡◌, ℕ, eqb, List, [], ◌∷◌, sym, refl, ◌∙◌, subst}
use Rattle.std.proofs.lemmas.Bool.{cond-false, ne_eqb}
use Rattle.deck.specs.Faults.{told}
use Rattle.deck.specs.Records.{Failed}
use Rattle.deck.specs.Tests.{out_of_order}
use Rattle.deck.specs.declared.fault.Fault.{Fault}
use Rattle.deck.proofs.Failing.{failed_one}
use Rattle.stimulus.specs.Tests.{tests}
use Rattle.stimulus.specs.declared.reader.Phase.{Phase}
use Rattle.stimulus.specs.declared.reader.Phase.TheVariants.{Given, Done}

pub unexpected : (phase : Phase) (lines at : ℕ) (r : List ℕ) (f : Fault) → tests phase lines r ≡ out_of_order ∷ [] → told f ≡ record { number = 2; layer = 82; at = at; column = 1 } → Failed r at (tests phase lines r) f
unexpected phase lines at r f same is =
    subst (λ ts. Failed r at ts f) (sym same) (failed_one r at out_of_order [] f (record { fails = λ never. never; is = is }))

pub empty_record : (phase : Phase) (lines : ℕ) → tests phase lines [] ≡ out_of_order ∷ []
empty_record Given lines = refl
empty_record Done lines = refl

pub other_letter : (lines b : ℕ) (fields : List ℕ) → (b ≡ 70 → ⊥) → (b ≡ 72 → ⊥) → (b ≡ 69 → ⊥) → tests Given lines (b ∷ fields) ≡ out_of_order ∷ []
other_letter lines b fields no_feed no_hold no_end =
    cond-false (eqb b 70) _ _ (ne_eqb b 70 no_feed) ∙ cond-false (eqb b 72) _ _ (ne_eqb b 72 no_hold) ∙ cond-false (eqb b 69) _ _ (ne_eqb b 69 no_end)
