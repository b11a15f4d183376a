-- The tests of a stimulus's record, in their order, and where it fails.
use Rattle.std.specs.Prelude.{◌≡◌, ℕ, cond, ◌==◌, List, [], ◌∷◌, ◌++◌}
use Rattle.deck.specs.Faults.{Told}
use Rattle.deck.specs.Outcomes.{FailsTest}
use Rattle.deck.specs.Tests.{Test, long, out_of_order, value_known, number_tests}
use Rattle.stimulus.specs.declared.reader.Phase.{Phase}
use Rattle.stimulus.specs.declared.reader.Phase.TheVariants.{Given, Done}

-- the line and the tick
abbrev pub place_tests : ℕ → List Test
place_tests lines = number_tests 2 4 1 lines ++ number_tests 6 10 0 4294967295

-- the length, the line, the tick, and the value of a feed
abbrev pub feed_tests : ℕ → List Test
feed_tests lines = long (17 ∷ []) ∷ (place_tests lines ++ (value_known ∷ []))

abbrev pub hold_tests : ℕ → List Test
hold_tests lines = long (15 ∷ []) ∷ place_tests lines

abbrev pub end_tests : List Test
end_tests = long (1 ∷ []) ∷ []

-- by the letter: F, H or E, and after the end none
abbrev pub tests : Phase → ℕ → List ℕ → List Test
tests Done lines r = out_of_order ∷ []
tests Given lines [] = out_of_order ∷ []
tests Given lines (b ∷ fields) = cond (b == 70) (feed_tests lines) (cond (b == 72) (hold_tests lines) (cond (b == 69) end_tests (out_of_order ∷ [])))

-- the end was taken, and no byte follows
abbrev pub Over : Phase → List ℕ → Type 0
Over phase bytes = (phase ≡ Done) × (bytes ≡ [])

-- a record is left, which is cut, or fails one of its tests
abbrev pub Fails : Phase → ℕ → ℕ → List ℕ → Told → Type 0
Fails phase lines at bytes f = (Over phase bytes → ⊥) × FailsTest (tests phase lines) at bytes f
