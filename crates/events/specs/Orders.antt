-- The order of events in time.
use Rattle.std.specs.Prelude.{◌≡◌, ℕ, ◌<◌, ◌≤◌, List, ◌∷◌, length, slice_index_or, slice_get}
use Rattle.std.specs.List.Sorted.{IsPartitionPoint}
use Rattle.events.specs.declared.record.EventRecord.{EventRecord}
use Rattle.events.specs.declared.events.Around.{Around}

-- the last event at or before the tick, which is the base if no change is, and the change that comes after it
pub record AreAround {E : Type 0} (base : EventRecord E) (changes : List (EventRecord E)) (tick : ℕ) (around : Around E) : Type 0 where
  pub count : ℕ
  pub within : count ≤ length changes
  pub parts : IsPartitionPoint (λ change. change.tick ≤ tick) (λ change. tick < change.tick) changes count
  pub last : slice_index_or (base ∷ changes) count base ≡ around.last
  pub next : slice_get changes count ≡ around.next
