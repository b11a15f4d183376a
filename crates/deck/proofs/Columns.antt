-- The columns of a record, cut from its fields.
use Rattle.std.proofs.Common.{◌≡◌, ℕ, suc, ◌-◌, List, ◌∷◌, take, drop, ap, arith}
use Rattle.deck.specs.Tests.{columns}

-- fields begin in column 2
pub columns_past_letter : (letter : ℕ) (fields : List ℕ) (column width k : ℕ) → column ≡ suc (suc k) → columns (letter ∷ fields) column width ≡ take width (drop k fields)
columns_past_letter letter fields column width k e =
    let start : column - 1 ≡ suc k = omega arith in
    ap (λ j. take width (drop j (letter ∷ fields))) start
