-- A number in columns: what a field means, and what the tests of a field say.
use Rattle.std.proofs.Common.{◌≡◌, ℕ, ◌+◌, suc, ◌-◌, ◌^◌, ◌<◌, ◌≤◌, min, List, ◌∷◌, length, drop, replicate, decimal, Result, MatchResult, Ok, Err, sym, ap, ◌∙◌, subst, le_trans, lt_of_lt_of_le, arith, lit<, lit≤}
use native.Mathlib.Nat.{pow-le-pow_right}
use Rattle.std.proofs.lemmas.Fmt.{decimal_is_IsNumeral}
use Rattle.std.proofs.lemmas.Int.Digits.{digits_value-lt}
use Rattle.std.proofs.lemmas.List.{length-append, length-take, length-take-le, length-drop}
use Rattle.columns.specs.Spelling.{spelled, Means}
use Rattle.columns.specs.declared.FieldError.{FieldError}
use Rattle.columns.proofs.Spelled.{means_one, length-spelled, spelled_injective}
use Rattle.deck.specs.Tests.{columns, Shows}

-- a number whose spelling fits so many columns is below that power of ten
pub spelled_bound : (w n : ℕ) → n < 2 ^ 64 → length (spelled w n) ≡ w → n < 10 ^ w
spelled_bound w n small long =
    let parts = length-append (replicate (w - length (decimal n)) 32) (decimal n) in
    let fits : length (decimal n) ≤ w = omega arith in
    let reads = decimal_is_IsNumeral n small in
    lt_of_lt_of_le (subst (λ m. m < 10 ^ length (decimal n)) reads.1 (digits_value-lt 10 (decimal n) reads.0.1)) (pow-le-pow_right (lit< tt) fits)

pub narrow_small : (w n : ℕ) → w ≤ 19 → n < 10 ^ w → n < 2 ^ 64
narrow_small w n narrow fits = lt_of_lt_of_le fits (le_trans (pow-le-pow_right {n = 10} (lit< tt) narrow) (lit≤ {m = 10 ^ 19} {n = 2 ^ 64} tt))

-- what a field of so many columns means, and what its columns show
module _ (r : List ℕ) (column width : ℕ) (there : length (columns r column width) ≡ width) where
  shows_number : (n : ℕ) → Means (columns r column width) (Ok n) → Shows r column width n
  shows_number n m =
      let spelling : columns r column width ≡ spelled width n = m.1 ∙ ap (λ w. spelled w n) there in
      record { fits = spelled_bound width n m.0 (ap length (sym spelling) ∙ there); spelling = spelling }

  shown_means : (n : ℕ) → width ≤ 19 → Shows r column width n → Means (columns r column width) (Ok n)
  shown_means n narrow shown = (narrow_small width n narrow shown.fits, shown.spelling ∙ ap (λ w. spelled w n) (sym there))

  -- what is read is the number that the columns show, or they show none
  pub shown_or_none : (f : Result ℕ FieldError) → width ≤ 19 → Means (columns r column width) f → MatchResult f (λ n. Shows r column width n) (λ _. (n : ℕ) → Shows r column width n → ⊥)
  shown_or_none (Ok n) narrow m = shows_number n m
  shown_or_none (Err e) narrow m = λ n shown. let same = means_one (columns r column width) (Err e) (Ok n) m (shown_means n narrow shown) in cc

-- columns that lie within a record are as many as they should be
pub length-columns : (letter : ℕ) (fields : List ℕ) (column width : ℕ) → 2 ≤ column → column + width ≤ length fields + 2 → length (columns (letter ∷ fields) column width) ≡ width
length-columns letter fields column width past within =
    length-take-le width (drop (column - 1) (letter ∷ fields)) (rw (length-drop (column - 1) (letter ∷ fields)) (omega arith))

-- of a record that does not reach so far there are fewer columns
pub few_columns : (letter : ℕ) (fields : List ℕ) (column width : ℕ) → 2 ≤ column → 1 ≤ width → length fields + 2 < column + width → length (columns (letter ∷ fields) column width) < width
few_columns letter fields column width past some short =
    let rest = drop (column - 1) (letter ∷ fields) in
    let cut : length rest ≡ suc (length fields) - (column - 1) = length-drop (column - 1) (letter ∷ fields) in
    let few : length (columns (letter ∷ fields) column width) ≡ min width (length rest) = length-take width rest in
    omega arith

-- so they show no number
pub beyond_record : (r : List ℕ) (column width n : ℕ) → 1 ≤ width → width ≤ 19 → length (columns r column width) < width → Shows r column width n → ⊥
beyond_record r column width n some narrow few shown =
    let wide = ap length shown.spelling ∙ length-spelled width n shown.fits some (narrow_small width n narrow shown.fits) in omega arith

-- only one number is shown
pub shows_one : (r : List ℕ) (column width m n : ℕ) → width ≤ 19 → Shows r column width m → Shows r column width n → m ≡ n
shows_one r column width m n narrow a b =
    spelled_injective width m n (narrow_small width m narrow a.fits) (narrow_small width n narrow b.fits) (sym a.spelling ∙ b.spelling)
