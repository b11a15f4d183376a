-- Sums over the numbers below a bound.
use Rattle.std.proofs.Common.{◌≡◌, ℕ, zero, suc, ◌+◌, ◌*◌, ◌<◌, ◌≤◌, subst, ⊎_elim, arith}
use Rattle.std.proofs.lemmas.Bool.{cases_eq}

unfoldable pub total : (ℕ → ℕ) → ℕ → ℕ
total f zero = 0
total f (suc k) = f k + total f k

pub total_most : (f : ℕ → ℕ) (most k : ℕ) → ((j : ℕ) → j < k → f j ≤ most) → total f k ≤ k * most
unfolding total
total_most f most zero each = omega arith
total_most f most (suc k) each = let last = each k (omega arith) in let rest = total_most f most k (λ j below. each j (omega arith)) in omega arith

module _ (f g : ℕ → ℕ) (no_more : (j : ℕ) → f j ≤ g j) where
  pub total_grows : (k : ℕ) → total f k ≤ total g k
  unfolding total
  total_grows zero = omega arith
  total_grows (suc k) = let m = no_more k in let t = total_grows k in omega arith

  pub total_more : (j k : ℕ) → j < k → f j < g j → total f k < total g k
  unfolding total
  total_more j zero within less = absurd (omega arith)
  total_more j (suc k) within less =
      ⊎_elim (λ same. let t = total_grows k in at_last same t) (λ other. let m = no_more k in let t = total_more j k (omega (arith, other)) less in omega arith) (cases_eq j k)
    where
      at_last : j ≡ k → total f k ≤ total g k → f k + total f k < g k + total g k
      at_last same t = let less' : f k < g k = subst (λ i. f i < g i) same less in omega arith
