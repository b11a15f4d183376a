-- How many of a list's marks are set.
use Rattle.std.proofs.Common.{◌≡◌, ◌+◌, Bool, cond, List, [], ◌∷◌, map, count_by, sym, refl, ap, ◌∙◌}
use Rattle.std.proofs.lemmas.List.Sums.{sum_by-cons}

pub count_by-map : {X : Type 0} (f : X → Bool) (xs : List X) → count_by (λ mark. mark) (map f xs) ≡ count_by f xs
count_by-map f [] = refl
count_by-map f (x ∷ xs) =
    sum_by-cons (λ mark. cond mark 1 0) (f x) (map f xs) ∙ ap (λ n. cond (f x) 1 0 + n) (count_by-map f xs) ∙ sym (sum_by-cons (λ y. cond (f y) 1 0) x xs)
