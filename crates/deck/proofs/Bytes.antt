-- Bytes taken apart at the ends of records, and put together from them.
use Rattle.std.proofs.Common.{◌≡◌, ℕ, zero, suc, ◌<◌, Option, None, Some, MatchOption, List, [], ◌∷◌, ◌++◌, length, get_or, take, drop, sym, ap, ◌∙◌, subst, arith, append_assoc}
use Rattle.std.specs.List.{AllWithin, HoldsAt}
use Rattle.std.proofs.Math.Seq.{split_at, take-length}
use Rattle.deck.specs.Outcomes.{Unended}
use Rattle.deck.specs.Rows.{ended_each}

-- a record, its ending and what follows
pub at_ending : (bytes : List ℕ) (n : ℕ) → n < length bytes → get_or bytes n 0 ≡ 10 → bytes ≡ take n bytes ++ (10 ∷ drop (suc n) bytes)
at_ending bytes n within ends = split_at bytes n 0 within ∙ ap (λ b. take n bytes ++ (b ∷ drop (suc n) bytes)) ends

-- the first bytes, none of which ends a record
unended : (bytes : List ℕ) (n : ℕ) → AllWithin (λ b. b ≡ 10 → ⊥) bytes 0 n → Unended (take n bytes)
unended bytes zero all = tt
unended [] (suc n) all = tt
unended (b ∷ bs) (suc n) all = (all 0 0 (omega arith) (omega arith), unended bs n (λ k d low high. all (suc k) d (omega arith) (omega arith)))

-- where a search for the first ending comes to
pub first_ending : (bytes : List ℕ) (place : Option ℕ) → MatchOption place (AllWithin (λ b. b ≡ 10 → ⊥) bytes 0 (length bytes)) (λ n. (n < length bytes) × HoldsAt (λ b. b ≡ 10) bytes n × AllWithin (λ b. b ≡ 10 → ⊥) bytes 0 n) → MatchOption place (Unended bytes) (λ n. (n < length bytes) × (get_or bytes n 0 ≡ 10) × Unended (take n bytes))
first_ending bytes None all = subst Unended (take-length bytes) (unended bytes (length bytes) all)
first_ending bytes (Some n) (within, here, before) = (within, here 0, unended bytes n before)

-- one text more at the end
pub ended_more : {A : Type 0} (text : A → List ℕ) (xs : List A) (x : A) (rest : List ℕ) → ended_each text (xs ++ (x ∷ [])) ++ rest ≡ ended_each text xs ++ (text x ++ (10 ∷ rest))
ended_more text [] x rest = append_assoc (text x) (10 ∷ []) rest
ended_more text (y ∷ ys) x rest =
    append_assoc (text y) (10 ∷ ended_each text (ys ++ (x ∷ []))) rest
    ∙ ap (λ l. text y ++ (10 ∷ l)) (ended_more text ys x rest) ∙ sym (append_assoc (text y) (10 ∷ ended_each text ys) (text x ++ (10 ∷ rest)))
