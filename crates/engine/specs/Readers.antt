-- Which gates read a line; it serves the contracts of the engine's own functions.
use Rattle.std.specs.Prelude.{◌≡◌, ℕ, suc, ◌<◌, List, [], length, slice_index, slice_index_or}
use Rattle.netlist.specs.Gates.{Circuit}
use Rattle.netlist.specs.Walks.{reads}
use Rattle.semantics.specs.Circuits.{lines}

-- the lines that gates read at a place of those that they read, told line by line; 0 where none is read
abbrev pub ReadAt : Circuit → ℕ → List ℕ → Type 0
ReadAt c place told = (length told ≡ 1024) × ((i : ℕ) → i < lines c → slice_index told i ≡ slice_index (reads c (suc i)) place)

-- at each of the four places
abbrev pub AllRead : Circuit → List (List ℕ) → Type 0
AllRead c readers = (place : ℕ) → place < 4 → ReadAt c place (slice_index_or readers place [])
