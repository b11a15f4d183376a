-- Stores of records, cut into one part for each line.
use Rattle.std.specs.Prelude.{ℕ, ◌-◌, ◌*◌, List, take, drop}
use Rattle.events.specs.declared.record.EventRecord.{EventRecord}

-- the records of line n, where each line has so many
abbrev pub part : {X : Type 0} → ℕ → ℕ → List X → List X
part stride n store = take stride (drop ((n - 1) * stride) store)

-- what a record tells: a tick, and what its value means
abbrev pub seen : {V M : Type 0} → (V → M) → EventRecord V → ℕ × M
seen meaning r = (r.tick, meaning r.value)
