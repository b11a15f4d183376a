-- What sessions are compared by.
use Rattle.std.specs.Prelude.{◌≡◌, ℕ, List, Bool, Result, Ok, Err, Decides, map, take}
use Rattle.semantics.specs.Accounts.{Account}
use Rattle.semantics.specs.Machines.{Machine}
use Rattle.engine.specs.declared.session.Session.{Session}
use Rattle.engine.specs.Answers.{Valued, Eventful, Stated}
use Rattle.engine.specs.Lines.{room, extent}
use Rattle.engine.specs.Sessions.{lines_of}
use Rattle.engine.specs.Stores.{seen}

-- the store of a session: the records of its lines, with their ticks and what their values mean
abbrev pub store_of : {V M : Type 0} → (V → M) → Session V → List (ℕ × M)
store_of meaning s = map (seen meaning) (take (extent (lines_of s)) s.store.now)

-- two sessions have the same circuit, and room for as many changes of each line
pub record SameCircuitAndRoom {V : Type 0} (s q : Session V) : Type 0 where
  pub circuit : (lines_of s).circuit ≡ (lines_of q).circuit
  pub room : room (lines_of s) ≡ room (lines_of q)

-- asked for a value, a change or a state, both give the same answer
pub record AnswerAlike {M : Type 0} (s q : Machine M) (a b : Account M) : Type 0 where
  pub values : (n t : ℕ) (x y : Result M ℕ) → Valued s a n t x → Valued q b n t y → x ≡ y
  pub events : (n k : ℕ) (x y : Result (ℕ × M) ℕ) → Eventful s a n k x → Eventful q b n k y → x ≡ y
  pub states : (n : ℕ) (x y : Result (ℕ × ℕ) ℕ) → Stated s a n x → Stated q b n y → x ≡ y

-- Whether the values of a line at a tick are tied. Where a value is refused, so is this: for the first session, then for the
-- second.
pub data Tying {M N : Type 0} (s : Machine M) (q : Machine N) (R : M → N → Type 0) (a : Account M) (b : Account N) (n t : ℕ) : Result Bool ℕ → Type 0 where
  first_refused : {number : ℕ} → Valued s a n t (Err number) → Tying s q R a b n t (Err number)
  second_refused : {x : M} {number : ℕ} → Valued s a n t (Ok x) → Valued q b n t (Err number) → Tying s q R a b n t (Err number)
  told : {x : M} {y : N} {tied : Bool} → Valued s a n t (Ok x) → Valued q b n t (Ok y) → Decides tied (R x y) → Tying s q R a b n t (Ok tied)
