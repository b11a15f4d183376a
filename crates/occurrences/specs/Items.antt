-- The places at which an item stands.
use Rattle.std.specs.Prelude.{◌≡◌, ℕ, ◌<◌, ◌≤◌, ◌≢◌, List, length, slice_index, slice_index_or, Some, None, Option}

-- below a place, the last one at which an item stands
abbrev pub LastBelow : List ℕ → ℕ → ℕ → Option ℕ → Type 0
LastBelow items item top None = (i : ℕ) → i < top → slice_index items i ≢ item
LastBelow items item top (Some p) = (p < top) × (slice_index items p ≡ item) × ((i : ℕ) → p < i → i < top → slice_index items i ≢ item)

-- of the items up to 1,024 the last places are found, and of no other
abbrev pub Last : List ℕ → ℕ → Option ℕ → Type 0
Last items item r = (item ≤ 1024 → LastBelow items item (length items) r) × (1024 < item → r ≡ None)

-- and of each place, the one before it with the same item
abbrev pub Before : List ℕ → ℕ → Option ℕ → Type 0
Before items place r =
    (place < length items → slice_index items place ≤ 1024 → LastBelow items (slice_index items place) place r) × (1024 < slice_index items place → r ≡ None) × (length items ≤ place → r ≡ None)

-- what is known of the places below one: of each item the last, and of each place the one before
abbrev pub LastFound : List ℕ → ℕ → List (Option ℕ) → Type 0
LastFound items top found = (length found ≡ 1025) × ((item : ℕ) → item ≤ 1024 → LastBelow items item top (slice_index_or found item None))

abbrev pub BeforeFound : List ℕ → ℕ → List (Option ℕ) → Type 0
BeforeFound items top found =
    (length found ≡ 1024) × ((p : ℕ) → p < top → slice_index items p ≤ 1024 → LastBelow items (slice_index items p) p (slice_index_or found p None)) × ((p : ℕ) → p < 1024 → 1024 < slice_index items p → slice_index_or found p None ≡ None)
