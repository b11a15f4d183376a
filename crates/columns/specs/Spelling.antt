-- How a number is spelled in columns, and what each answer of a reading says of the columns.
use Rattle.std.specs.Prelude.{◌≡◌, ℕ, ◌-◌, ◌^◌, ◌<◌, List, ◌++◌, length, replicate, decimal, Result, Ok, Err, ◌≢◌}
use Rattle.columns.specs.declared.FieldError.{FieldError}
use Rattle.columns.specs.declared.FieldError.TheVariants.{Blank, Unreadable}

-- the decimal of n at the right of `width` columns, after blanks
abbrev pub spelled : ℕ → ℕ → List ℕ
spelled width n = replicate (width - length (decimal n)) 32 ++ decimal n

-- what a reading of the text answers: the number of 64 bits that it spells over all its columns, that it is blank, or that it is neither;
-- a decimal longer than the text makes a spelling that is longer too, so none of those is equal to it
abbrev pub Means : List ℕ → Result ℕ FieldError → Type 0
Means text (Ok n) = (n < 2 ^ 64) × (text ≡ spelled (length text) n)
Means text (Err Blank) = text ≡ replicate (length text) 32
Means text (Err Unreadable) = ((n : ℕ) → n < 2 ^ 64 → text ≢ spelled (length text) n) × (text ≢ replicate (length text) 32)
