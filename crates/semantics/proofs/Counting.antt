-- How many numbers below a bound pass a test, and the rank of a number.
use Rattle.std.proofs.Common.{◌≡◌, ℕ, zero, suc, ◌<◌, ◌≤◌, Bool, true, false, cond, ltb, refl, ⊎_elim, arith}
use Rattle.std.proofs.lemmas.Bool.{cases_Bool, ltb-true, lt-ltb, le-ltb}
use Rattle.semantics.proofs.Sums.{total, total_more}

one_if : Bool → ℕ
one_if b = cond b 1 0

-- how many numbers below a bound pass a test
pub counted : (ℕ → Bool) → ℕ → ℕ
counted p k = total (λ j. one_if (p j)) k

module _ (p q : ℕ → Bool) (passes_on : (j : ℕ) → p j ≡ true → q j ≡ true) where
  one_more : (j : ℕ) → one_if (p j) ≤ one_if (q j)
  unfolding one_if
  one_more j = ⊎_elim (λ is. let on = passes_on j is in rw (is, on) (omega arith)) (λ is. rw is (omega arith)) (cases_Bool (p j))

  pub some_more : (j k : ℕ) → j < k → p j ≡ false → q j ≡ true → counted p k < counted q k
  unfolding counted one_if
  some_more j k within fails passes = total_more (λ i. one_if (p i)) (λ i. one_if (q i)) one_more j k within (rw (fails, passes) (omega arith))

pub all_counted : (k : ℕ) → counted (λ j. true) k ≡ k
unfolding counted total one_if
all_counted zero = refl
all_counted (suc k) = let e = all_counted k in omega arith

pub none_counted : (k : ℕ) → counted (λ j. false) k ≡ 0
unfolding counted total one_if
none_counted zero = refl
none_counted (suc k) = let e = none_counted k in omega arith

module _ (f : ℕ → ℕ) (k : ℕ) where
  -- how many numbers below the bound have less than this one has
  pub rank : ℕ → ℕ
  rank n = counted (λ j. ltb (f j) (f n)) k

  pub rank_rises : (m n : ℕ) → m < k → f m < f n → rank m < rank n
  unfolding rank
  rank_rises m n within less =
      some_more (λ j. ltb (f j) (f m)) (λ j. ltb (f j) (f n)) (λ j passes. let below = ltb-true (f j) (f m) passes in lt-ltb (f j) (f n) (omega arith)) m k within (le-ltb (f m) (f m) (omega arith)) (lt-ltb (f m) (f n) less)

  -- a number is none of those that have less
  pub rank_bound : (n : ℕ) → n < k → rank n < k
  unfolding rank
  rank_bound n within =
      let fewer = some_more (λ j. ltb (f j) (f n)) (λ j. true) (λ j passes. refl) n k within (le-ltb (f n) (f n) (omega arith)) refl in
      let all = all_counted k in
      omega arith
