-- Calls of a session, each with the answer that it has to give.
use Rattle.std.specs.Prelude.{◌≡◌, ℕ, List, [], ◌∷◌, map, Result}
use Rattle.semantics.specs.Accounts.{Account, value, KeptChanges}
use Rattle.semantics.specs.Distances.{Distance}
use Rattle.semantics.specs.Logs.{Ending, Run}
use Rattle.semantics.specs.Machines.{Machine}
use Rattle.semantics.specs.Moves.{Rest}
use Rattle.engine.specs.Answers.{Taking, Valued, Eventful, Stated, Feeding, Holding, Trimming}

-- A call with its answer, which tells a refusal by its number. The last three say what holds there: the kept changes of
-- a line, with their values; its distance; that all gates rest.
pub data Call (M : Type 0) : Type 0 where
  feed : (line tick : ℕ) → M → Result Unit ℕ → Call M
  hold : (line tick : ℕ) → Result Unit ℕ → Call M
  take : (line : ℕ) → Result ℕ ℕ → Call M
  run : (most takes : ℕ) → Ending → Call M
  trim : (tick : ℕ) → Result Unit ℕ → Call M
  value_at : (line tick : ℕ) → Result M ℕ → Call M
  event : (line k : ℕ) → Result (ℕ × M) ℕ → Call M
  state : (line : ℕ) → Result (ℕ × ℕ) ℕ → Call M
  changes : (line : ℕ) → List (ℕ × M) → Call M
  distance : (line far : ℕ) → Call M
  at_rest : Call M

module _ {M : Type 0} (s : Machine M) where
  -- in an account, the calls give their answers, one after another
  abbrev pub Gives : Account M → List (Call M) → Type 0
  Gives a [] = Unit {0}
  Gives a (feed n t v r ∷ calls) = (b : Account M) × Feeding s a n t v r b × Gives b calls
  Gives a (hold n t r ∷ calls) = (b : Account M) × Holding s a n t r b × Gives b calls
  Gives a (take n r ∷ calls) = (b : Account M) × Taking s a n r b × Gives b calls
  Gives a (run most takes ending ∷ calls) = (b : Account M) × Run s most a b takes ending × Gives b calls
  Gives a (trim t r ∷ calls) = (b : Account M) × Trimming s a t r b × Gives b calls
  Gives a (value_at n t r ∷ calls) = Valued s a n t r × Gives a calls
  Gives a (event n k r ∷ calls) = Eventful s a n k r × Gives a calls
  Gives a (state n r ∷ calls) = Stated s a n r × Gives a calls
  Gives a (changes n shown ∷ calls) = ((ticks : List ℕ) × KeptChanges s a n ticks × shown ≡ map (λ t. (t, value s a n t)) ticks) × Gives a calls
  Gives a (distance n far ∷ calls) = Distance s a n far × Gives a calls
  Gives a (at_rest ∷ calls) = Rest s a × Gives a calls
