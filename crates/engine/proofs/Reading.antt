-- What is read from a list of changes: the value at a tick, and how long it stays.
use Rattle.std.proofs.Common.{◌≡◌, ℕ, zero, suc, ◌<◌, ◌≤◌, List, ◌∷◌, length, map, get_or, drop, ap, sym, ◌∙◌, ⊎_elim, arith}
use Rattle.std.proofs.lemmas.Bool.{cases_eq}
use Rattle.std.proofs.lemmas.List.{get_or_default, length-map}
use Rattle.semantics.specs.Machines.{Machine}
use Rattle.semantics.specs.Accounts.{Account, before, value, Stable}
use Rattle.semantics.specs.Changes.{StableOn, Changes}
use Rattle.semantics.specs.Changes.Changes.{none, next}

-- so many of the ticks come before another, and the others do not
pub record Splits (ts : List ℕ) (u count : ℕ) : Type 0 where
  pub within : count ≤ length ts
  pub first : (i d : ℕ) → i < count → get_or ts i d < u
  pub others : (i d : ℕ) → count ≤ i → i < length ts → u ≤ get_or ts i d

rest_splits : (t : ℕ) (ts : List ℕ) (u count : ℕ) → Splits (t ∷ ts) u (suc count) → Splits ts u count
rest_splits t ts u count h = record {
  within = let w = h.within in omega arith;
  first = λ i d below. h.first (suc i) d (omega arith);
  others = λ i d from below. h.others (suc i) d (omega arith) (omega arith);
}

module _ {Stable : ℕ → Type 0} where
  -- the ticks of a list of changes
  pub ticks_from : {to from : ℕ} {ts : List ℕ} → Changes Stable to from ts → (i d : ℕ) → i < length ts → from ≤ get_or ts i d
  ticks_from (none quiet) i d below = absurd (omega arith)
  ticks_from (next t_from t_to first changes rest) zero d below = t_from
  ticks_from (next t_from t_to first changes rest) (suc i) d below = let after = ticks_from rest i d (omega arith) in omega arith

  pub ticks_below : {to from : ℕ} {ts : List ℕ} → Changes Stable to from ts → (i d : ℕ) → i < length ts → get_or ts i d < to
  ticks_below (none quiet) i d below = absurd (omega arith)
  ticks_below (next t_from t_to first changes rest) zero d below = t_to
  ticks_below (next t_from t_to first changes rest) (suc i) d below = ticks_below rest i d (omega arith)

  pub ticks_rise : {to from : ℕ} {ts : List ℕ} → Changes Stable to from ts → (i j d : ℕ) → i ≤ j → j < length ts → get_or ts i d ≤ get_or ts j d
  ticks_rise (none quiet) i j d upto below = absurd (omega arith)
  ticks_rise (next t_from t_to first changes rest) zero zero d upto below = omega arith
  ticks_rise (next t_from t_to first changes rest) zero (suc j) d upto below = let after = ticks_from rest j d (omega arith) in omega arith
  ticks_rise (next t_from t_to first changes rest) (suc i) zero d upto below = absurd (omega arith)
  ticks_rise (next t_from t_to first changes rest) (suc i) (suc j) d upto below = ticks_rise rest i j d (omega arith) (omega arith)

  -- after the ticks that come before another the line is stable up to the next one
  pub stable_after : {to from : ℕ} {ts : List ℕ} (u count : ℕ) → from ≤ u → Changes Stable to from ts → Splits ts u count → StableOn Stable u (get_or ts count to)
  stable_after u zero reaches (none quiet) splits t t_from t_to = quiet t (omega arith) t_to
  stable_after u (suc count) reaches (none quiet) splits t t_from t_to = let w = splits.within in absurd (omega arith)
  stable_after u zero reaches (next t_from t_to first changes rest) splits t from to = first t (omega arith) to
  stable_after u (suc count) reaches (next {t = t} {ts = ts} t_from t_to first changes rest) splits v from to =
      let passed = splits.first 0 0 (omega arith) in stable_after u count (omega arith) rest (rest_splits t ts u count splits) v from to

  -- the changes from a later tick on
  pub changes_from : {to from : ℕ} {ts : List ℕ} (u count : ℕ) → from ≤ u → Changes Stable to from ts → Splits ts u count → Changes Stable to u (drop count ts)
  changes_from u zero reaches (none quiet) splits = none (λ t t_from t_to. quiet t (omega arith) t_to)
  changes_from u (suc count) reaches (none quiet) splits = let w = splits.within in absurd (omega arith)
  changes_from u zero reaches (next t_from t_to first changes rest) splits = next (splits.others 0 0 (omega arith) (omega arith)) t_to (λ t from to. first t (omega arith) to) changes rest
  changes_from u (suc count) reaches (next {t = t} {ts = ts} t_from t_to first changes rest) splits =
      let passed = splits.first 0 0 (omega arith) in changes_from u count (omega arith) rest (rest_splits t ts u count splits)

module _ {M : Type 0} (s : Machine M) (a : Account M) (n : ℕ) where
  -- where a line is stable it keeps its value
  pub steady : (from u : ℕ) → from ≤ u → StableOn (Stable s a n) from u → before s a n u ≡ before s a n from
  steady from zero reaches quiet = let none : zero ≡ from = omega arith in ap (before s a n) none
  steady from (suc u) reaches quiet =
      ⊎_elim (λ here. ap (before s a n) (sym here)) (λ later. quiet u (omega arith) (omega arith) ∙ steady from u (omega arith) (λ t t_from t_to. quiet t t_from (omega arith)))
      (cases_eq from (suc u))

  -- the value just before a tick is that of the last change before it, or that just before the first tick
  pub before_at : {to from : ℕ} {ts : List ℕ} (u count : ℕ) → from ≤ u → u ≤ to → Changes (Stable s a n) to from ts → Splits ts u count → before s a n u ≡ get_or (before s a n from ∷ map (value s a n) ts) count (before s a n from)
  before_at {from = from} u zero reaches within (none quiet) splits = steady from u reaches (λ t t_from t_to. quiet t t_from (omega arith))
  before_at u (suc count) reaches within (none quiet) splits = let w = splits.within in absurd (omega arith)
  before_at {from = from} u zero reaches within (next t_from t_to first changes rest) splits = let later = splits.others 0 0 (omega arith) (omega arith) in steady from u reaches (λ t from to. first t from (omega arith))
  before_at {from = from} u (suc count) reaches within (next {t = t} {ts = ts} t_from t_to first changes rest) splits =
      let passed = splits.first 0 0 (omega arith) in
      let few = splits.within in
      before_at u count (omega arith) within rest (rest_splits t ts u count splits)
      ∙ get_or_default (value s a n t ∷ map (value s a n) ts) count (value s a n t) (before s a n from) (omega (arith, length-map ts (value s a n)))
