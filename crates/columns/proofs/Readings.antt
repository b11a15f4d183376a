-- What is read after the blanks is the decimal of a number just where the whole text spells that number.
use Rattle.std.proofs.Common.{◌≡◌, ℕ, zero, suc, ◌-◌, ◌^◌, ◌<◌, ◌≤◌, List, [], ◌∷◌, ◌++◌, length, get_or, drop, replicate, Some, None, Result, decimal, Option, refl, sym, ap, ◌∙◌, add-zero, arith, get_or-drop, MatchOption}
use Rattle.std.specs.Option.{ok_or}
use Rattle.std.proofs.lemmas.List.{get_or-replicate}
use Rattle.std.proofs.lemmas.Grind.{common_steps}
use Rattle.columns.specs.declared.FieldError.{FieldError}
use Rattle.columns.specs.declared.FieldError.TheVariants.{Unreadable}
use Rattle.columns.specs.Spelling.{Means}
use Rattle.columns.proofs.Spelled.{after_blanks_same, decimal_no_blank, means_one}

-- a text whose first n bytes are blanks
pub blanks_front : (text : List ℕ) (n : ℕ) → n ≤ length text → ((k : ℕ) → k < n → get_or text k 0 ≡ 32) → text ≡ replicate n 32 ++ drop n text
blanks_front text zero within blank = refl
blanks_front [] (suc n) within blank = absurd (omega arith)
blanks_front (x ∷ xs) (suc n) within blank = λ i. blank 0 (omega arith) i ∷ blanks_front xs n (omega arith) (λ k h. blank (suc k) (omega arith)) i

-- what the reading of the bytes after the blanks gives
pub meaning : (out : Result ℕ FieldError) (found : Option ℕ) → out ≡ ok_or found Unreadable → (text : List ℕ) (r : ℕ) → text ≡ replicate r 32 ++ drop r text → (get_or text r 0 ≡ 32 → ⊥) → r < length text → (ds : List ℕ) → MatchOption found ((n : ℕ) → n < 2 ^ 64 → ds ≡ decimal n → ⊥) (λ n. (n < 2 ^ 64) × (ds ≡ decimal n)) → ds ≡ drop r text → Means text out
meaning out (Some n) gives text r front stops more ds is whole =
    let count : r ≡ length text - length (decimal n) = grind (arith, common_steps) in
    rw gives (is.0, grind (arith, common_steps))
meaning out None gives text r front stops more ds none whole =
    let stop : get_or (drop r text) 0 0 ≡ 32 → ⊥ = rw (get_or-drop, add-zero) stops in
    rw gives (
      λ n small is. none n small (whole ∙ after_blanks_same r _ (drop r text) (decimal n) stop (decimal_no_blank n small) (sym front ∙ is)),
      λ b. stops (ap (λ l. get_or l r 0) b ∙ get_or-replicate (length text) r 32 0 more),
    )

pub one_meaning : (text : List ℕ) (r : Result ℕ FieldError) → Means text r → record { means : Means text r; only : (f : Result ℕ FieldError) → Means text f → f ≡ r }
one_meaning text r m = record { means = m; only = λ f p. means_one text f r p m }
