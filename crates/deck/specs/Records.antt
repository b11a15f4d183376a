-- A record taken apart, and the faults of its fields.
use Rattle.std.specs.Prelude.{◌≡◌, ℕ, ◌+◌, ◌*◌, ◌<◌, ◌≤◌, List, ◌∷◌, drop, slice_index}
use Rattle.deck.specs.Faults.{told}
use Rattle.deck.specs.Progress.{Expected}
use Rattle.deck.specs.Rows.{Row, text}
use Rattle.deck.specs.Tests.{Test, Passes, Shows, FirstFailed, fault_of, tests}
use Rattle.deck.specs.declared.fault.Fault.{Fault}
use Rattle.deck.specs.declared.«record».Record.{Record}

-- the bytes of the record
abbrev pub whole : Record → List ℕ
whole r = r.letter ∷ r.fields.now

-- the fault is that of the first of the tests that the record fails
pub record Failed (r : List ℕ) (at : ℕ) (ts : List Test) (f : Fault) : Type 0 where
  pub test : Test
  pub first : FirstFailed r ts test
  pub is : told f ≡ fault_of at test

-- the record fails the test, and the fault is the test's
pub record Refuted (r : List ℕ) (at : ℕ) (t : Test) (f : Fault) : Type 0 where
  pub fails : Passes r t → ⊥
  pub is : told f ≡ fault_of at t

-- the first numbers are those that a gate's record shows as the lines read
abbrev pub ReadsShown : List ℕ → ℕ → ℕ → List ℕ → Type 0
ReadsShown r lines count ns =
    (i : ℕ) → i < count → Shows r (15 + 4 * i) 4 (slice_index ns i) × (1 ≤ slice_index ns i) × (slice_index ns i ≤ lines)

-- the tests after that of the letter
abbrev pub fields_tests : Expected → ℕ → List Test
fields_tests e n = drop 1 (tests e n)

-- the fields of the record spell the row
abbrev pub Spells : Record → Row → Type 0
Spells r row = r.fields.now ≡ drop 1 (text row)
