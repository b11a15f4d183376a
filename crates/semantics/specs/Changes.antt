-- The ticks at which a line changes, as a list.
use Rattle.std.specs.Prelude.{◌≡◌, ℕ, suc, ◌<◌, ◌≤◌, List, [], ◌∷◌, length}

-- a line is stable at all ticks from `from` on, below `to`
abbrev pub StableOn : (ℕ → Type 0) → ℕ → ℕ → Type 0
StableOn Stable from to = (t : ℕ) → from ≤ t → t < to → Stable t

-- the list has just the ticks from `from` on, below `to`, at which the line is not stable, the earliest first
pub data Changes (Stable : ℕ → Type 0) (to : ℕ) : ℕ → List ℕ → Type 0 where
  none : {from : ℕ} → StableOn Stable from to → Changes Stable to from []
  next : {from t : ℕ} {ts : List ℕ} → from ≤ t → t < to → StableOn Stable from t → (Stable t → ⊥) → Changes Stable to (suc t) ts → Changes Stable to from (t ∷ ts)

-- there are at most k of them
pub record AtMost (k : ℕ) (Stable : ℕ → Type 0) (from to : ℕ) : Type 0 where
  pub ticks : List ℕ
  pub changes : Changes Stable to from ticks
  pub few : length ticks ≤ k

-- there are exactly k of them
pub record Exactly (k : ℕ) (Stable : ℕ → Type 0) (from to : ℕ) : Type 0 where
  pub ticks : List ℕ
  pub changes : Changes Stable to from ticks
  pub count : length ticks ≡ k
