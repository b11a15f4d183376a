-- How a queue is kept: its keys are cut into blocks, and of each block the lowest key is known.
use Rattle.std.specs.Prelude.{◌≡◌, ℕ, ◌*◌, ◌<◌, ◌≤◌, ◌≢◌, List, length, take, drop, slice_index, Some, None, Option}
use Rattle.queue.specs.Keys.{no_key}

-- no key is lower, and it is one of them, unless it is none
pub record IsLowest (keys : List ℕ) (key : ℕ) : Type 0 where
  pub bounds : (i : ℕ) → i < length keys → key ≤ slice_index keys i
  pub reached : key ≢ no_key → (i : ℕ) × (i < length keys) × (slice_index keys i ≡ key)

-- the first place at which a key stands
abbrev pub PlaceOf : List ℕ → ℕ → Option ℕ → Type 0
PlaceOf keys key None = (i : ℕ) → i < length keys → slice_index keys i ≢ key
PlaceOf keys key (Some p) = (p < length keys) × (slice_index keys p ≡ key) × ((i : ℕ) → i < p → slice_index keys i ≢ key)

-- the keys of a block, of which each has 32
abbrev pub block : List ℕ → ℕ → List ℕ
block keys b = take 32 (drop (32 * b) keys)

abbrev pub LowestOfBlocks : List ℕ → List ℕ → Type 0
LowestOfBlocks keys found = (b : ℕ) → b < 32 → IsLowest (block keys b) (slice_index found b)
