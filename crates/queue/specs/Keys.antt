-- The lowest of some keys.
use Rattle.std.specs.Prelude.{ℕ, ◌<◌, ◌≤◌, List, length, slice_index, Some, None, Option}

-- a key of this size is none
abbrev pub no_key : ℕ
no_key = 4294967295

-- the place of the lowest key, the first where there are several; there is none where there is no key
abbrev pub First : List ℕ → Option ℕ → Type 0
First keys None = (i : ℕ) → i < length keys → no_key ≤ slice_index keys i
First keys (Some p) =
    (p < length keys) × (slice_index keys p < no_key) × ((i : ℕ) → i < length keys → slice_index keys p ≤ slice_index keys i) × ((i : ℕ) → i < p → slice_index keys p < slice_index keys i)
