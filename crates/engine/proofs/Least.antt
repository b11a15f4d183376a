-- The least of some ticks, taken one by one.
use Rattle.std.proofs.Common.{◌≡◌, ℕ, suc, ◌+◌, ◌<◌, ◌≤◌, min, List, [], ◌∷◌, length, map, take, get_or, ap, sym, ◌∙◌, arith}
use Rattle.std.specs.Prelude.{fold}
use Rattle.std.proofs.Math.Seq.{take-suc}
use Rattle.std.proofs.lemmas.List.{map-append}
use Rattle.std.proofs.lemmas.List.Sums.{fold-append}
use Rattle.semantics.proofs.Goals.{fold_first}

-- one more of them, which is told no further than the greatest
pub one_less : (f : ℕ → ℕ) (most : ℕ) (ms : List ℕ) (i : ℕ) → i < length ms → min (fold min most (map f (take i ms))) (min (f (get_or ms i 0)) most) ≡ fold min most (map f (take (i + 1) ms))
one_less f most ms i within =
    let more : i + 1 ≡ suc i = omega arith in
    let m = get_or ms i 0 in
    let below : fold min most (map f (take i ms)) ≤ most = fold_first most (map f (take i ms)) in
    let drops : min (fold min most (map f (take i ms))) (min (f m) most) ≡ min (fold min most (map f (take i ms))) (f m) = grind arith in
    drops
    ∙ sym (ap (λ xs. fold min most (map f xs)) (ap (λ j. take j ms) more ∙ take-suc ms i 0 within) ∙ (ap (fold min most) (map-append f (take i ms) (m ∷ [])) ∙ fold-append min most (map f (take i ms)) (f m ∷ [])))
