-- The line and the tick that a record shows.
use Rattle.std.proofs.Common.{◌≡◌, ℕ, ◌≤◌, List, ◌∷◌, ◌++◌, drop, ap, ◌∙◌, arith}
use Rattle.std.specs.List.{AllByRecursion}
use Rattle.std.proofs.ByRecursion.{All-append}
use Rattle.columns.specs.Spelling.{spelled}
use Rattle.deck.specs.Tests.{Passes, Shows, number_tests}
use Rattle.deck.proofs.Cutting.{cut}
use Rattle.deck.proofs.Failing.{number_pass}
use Rattle.stimulus.specs.Rows.{Named}
use Rattle.stimulus.specs.Tests.{place_tests}

module _ (letter : ℕ) (fields : List ℕ) (lines line tick : ℕ) (at_line : Shows (letter ∷ fields) 2 4 line × (1 ≤ line) × (line ≤ lines)) (at_tick : Shows (letter ∷ fields) 6 10 tick × (tick ≤ 4294967295)) where
  pub place_pass : AllByRecursion (Passes (letter ∷ fields)) (place_tests lines)
  place_pass =
      All-append (Passes (letter ∷ fields)) (number_tests 2 4 1 lines) (number_tests 6 10 0 4294967295) (number_pass _ 2 4 1 lines line at_line.0 (omega (arith, at_line.1), omega (arith, at_line.2)))
      (number_pass _ 6 10 0 4294967295 tick at_tick.0 (omega arith, omega (arith, at_tick.1)))

  pub split : fields ≡ spelled 4 line ++ (spelled 10 tick ++ drop 14 fields)
  split = cut fields _ 0 4 at_line.0.spelling ∙ ap (λ l. spelled 4 line ++ l) (cut fields _ 4 10 at_tick.0.spelling)

  pub named : Named lines line tick
  named = record { a_line = (omega (arith, at_line.1), omega (arith, at_line.2)); four_columns = at_line.0.fits; a_tick = omega (arith, at_tick.1) }
