-- Logs: the calls that a session accepted, its making first. A refused call is no part of a log.
use Rattle.std.specs.Prelude.{ℕ, zero, suc, ◌≤◌}
use Rattle.semantics.specs.Machines.{Machine}
use Rattle.semantics.specs.Accounts.{Account}
use Rattle.semantics.specs.Moves.{made, fed, held, taken, trimmed, CanFeed, CanHold, CanTake, CanTrim, CanMove, ComesFirst, Rest}

-- whether a run ended at rest, or more can be taken
pub data Ending : Type 0 where
  rest : Ending
  more : Ending

module _ {M : Type 0} (s : Machine M) where
  -- so many takes lead from one account to another, each of the gate that comes first
  pub data Takes : ℕ → Account M → Account M → Type 0 where
    none : {a : Account M} → Takes zero a a
    one_more : {k n front : ℕ} {a b : Account M} → ComesFirst s a n → CanTake s a n front → Takes k (taken a n front) b → Takes (suc k) a b

  -- A run makes takes until no gate can be taken, or until it has made the most that it was asked for and some front can still
  -- move. It tells how many it made, and how it ended.
  pub data Run (most : ℕ) (a b : Account M) : ℕ → Ending → Type 0 where
    to_rest : {count : ℕ} → Takes count a b → count ≤ most → Rest s b → Run most a b count rest
    to_count : {n : ℕ} → Takes most a b → CanMove s b n → Run most a b most more

  -- one accepted call
  pub data Step (a : Account M) : Account M → Type 0 where
    feed : {n t : ℕ} {v : M} → CanFeed s a n t v → Step a (fed a n t v)
    hold : {n t : ℕ} → CanHold s a n t → Step a (held a n t)
    take : {n front : ℕ} → CanTake s a n front → Step a (taken a n front)
    run : {most count : ℕ} {ending : Ending} {b : Account M} → Run most a b count ending → Step a b
    trim : {t : ℕ} → CanTrim s a t → Step a (trimmed a t)

  -- accepted calls, one after another
  pub data Steps (a : Account M) : Account M → Type 0 where
    none : Steps a a
    then : {b c : Account M} → Steps a b → Step b c → Steps a c

  -- a making and what came after it
  pub record Log (a : Account M) : Type 0 where
    pub start : ℕ → M
    pub steps : Steps (made start) a
