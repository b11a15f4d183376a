-- Meanings of the three systems can be compared.
use Rattle.std.proofs.Common.{◌≡◌, ℕ, zero, suc, ◌<◌, ◌≤◌, Bool, true, false, refl, ap, sym, ◌∙◌, ⊎_elim, arith}
use Rattle.std.specs.Prelude.{Decides}
use Rattle.std.specs.Cmp.{booleans_Decides}
use Rattle.std.proofs.Math.Bool.{beq}
use Rattle.std.proofs.Math.Path.{fun_ext}
use Rattle.std.proofs.lemmas.Bool.{cases_Bool, cases_eq}
use Rattle.std.proofs.lemmas.Bool.Decides.{not_from_Decides}
use Rattle.values.specs.declared.lane.Lane.{Lane}
use Rattle.values.specs.declared.ternary.Ternary.{Ternary}
use Rattle.values.specs.declared.ternary.Ternary.TheVariants.{Zero, One, X}
use Rattle.values.proofs.Words.{same_lane}

-- a test of equality
pub record Equality (M : Type 0) : Type 0 where
  pub same : M → M → Bool
  pub decides : (x y : M) → Decides (same x y) (x ≡ y)

abbrev pub equal_bits : Equality Bool
equal_bits = record { same = beq; decides = booleans_Decides }

unfoldable pub same_values : Ternary → Ternary → Bool
same_values Zero Zero = true
same_values One One = true
same_values X X = true
same_values _ _ = false

pub values_decided : (x y : Ternary) → Decides (same_values x y) (x ≡ y)
unfolding same_values
values_decided Zero Zero = (λ is. refl, λ is. refl)
values_decided Zero One = (λ is. cc, λ is. cc)
values_decided Zero X = (λ is. cc, λ is. cc)
values_decided One Zero = (λ is. cc, λ is. cc)
values_decided One One = (λ is. refl, λ is. refl)
values_decided One X = (λ is. cc, λ is. cc)
values_decided X Zero = (λ is. cc, λ is. cc)
values_decided X One = (λ is. cc, λ is. cc)
values_decided X X = (λ is. refl, λ is. refl)

abbrev pub equal_values : Equality Ternary
equal_values = record { same = same_values; decides = values_decided }

-- what a test decides can be told
pub compared : {M : Type 0} → Equality M → (x y : M) → Dec (x ≡ y)
compared e x y =
    ⊎_elim (λ is. yes ((e.decides x y).0 is)) (λ is. no (not_from_Decides (e.same x y) (e.decides x y) is)) (cases_Bool (e.same x y))

module _ (x y : Lane → Bool) where
  abbrev AlikeBelow : ℕ → Type 0
  AlikeBelow k = (lane : Lane) → lane.place < k → x lane ≡ y lane

  -- alike below a place, and in it
  and_here : (at : Lane) → AlikeBelow at.place → Dec (x at ≡ y at) → Dec (AlikeBelow (suc at.place))
  and_here at below (yes here) =
      yes (λ lane less. ⊎_elim (λ same. same_lane x lane at same ∙ (here ∙ sym (same_lane y lane at same))) (λ other. below lane (omega (arith, other))) (cases_eq lane.place at.place))
  and_here at below (no differs) = no (λ alike. differs (alike at (omega arith)))

  alike_below : (k : ℕ) → k ≤ 64 → Dec (AlikeBelow k)
  alike_below zero within = yes (λ lane less. absurd (omega arith))
  alike_below (suc k) within = next (alike_below k (omega arith))
    where
      next : Dec (AlikeBelow k) → Dec (AlikeBelow (suc k))
      next (yes below) = let at : Lane = record { place = k; in_word = omega arith } in and_here at below (compared equal_bits (x at) (y at))
      next (no differ) = no (λ alike. differ (λ lane less. alike lane (omega arith)))

  words_compared : Dec (AlikeBelow 64) → Dec (x ≡ y)
  words_compared (yes alike) = yes (fun_ext (λ lane. alike lane lane.in_word))
  words_compared (no differ) = no (λ same. differ (λ lane less. ap (λ f. f lane) same))

  pub lanes_compared : Dec (x ≡ y)
  lanes_compared = words_compared (alike_below 64 (omega arith))
