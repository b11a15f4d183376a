-- Cutting bytes at the first byte 10.
use Rattle.std.proofs.Common.{◌≡◌, ℕ, List, [], ◌∷◌, ◌++◌, refl}
use Rattle.deck.specs.Outcomes.{Unended}

-- bytes that hold a byte 10 do not go unended
pub ended : (r after : List ℕ) → Unended (r ++ (10 ∷ after)) → ⊥
ended [] after u = u.0 refl
ended (b ∷ r) after u = ended r after u.1

-- bytes are cut at their first byte 10 in one way
pub cut_one : (r q x y : List ℕ) → Unended r → Unended q → r ++ (10 ∷ x) ≡ q ++ (10 ∷ y) → (r ≡ q) × (x ≡ y)
cut_one [] [] x y u v e = (refl, cc)
cut_one [] (c ∷ q) x y u v e = absurd (v.0 (cc))
cut_one (b ∷ r) [] x y u v e = absurd (u.0 (cc))
cut_one (b ∷ r) (c ∷ q) x y u v e =
    let tails = cut_one r q x y u.1 v.1 (cc) in
    (cc, tails.1)
