-- What recording and dropping do to events: to the base and the kept changes, and to the free records after them.
use Rattle.std.specs.Prelude.{◌≡◌, ℕ, suc, ◌-◌, ◌<◌, ◌≤◌, Bool, true, false, List, [], ◌∷◌, ◌++◌, length, replicate, drop, slice_index_or}
use Rattle.std.specs.List.Sorted.{IsPartitionPoint}
use Rattle.events.specs.declared.record.EventRecord.{EventRecord}

module _ {E : Type 0} where
  -- What comes of recording that there is a value from a tick on: nothing where the last value is alike; else one change
  -- more, in the first spare record, if there is one.
  pub data Recorded (Alike : E → E → Type 0) (events free : List (EventRecord E)) (event : EventRecord E) : Bool → List (EventRecord E) → List (EventRecord E) → Type 0 where
    alike : Alike (slice_index_or events (length events - 1) event).value event.value → Recorded Alike events free event true events free
    full : (Alike (slice_index_or events (length events - 1) event).value event.value → ⊥) → free ≡ [] → Recorded Alike events free event false events free
    added : (Alike (slice_index_or events (length events - 1) event).value event.value → ⊥) → 0 < length free → Recorded Alike events free event true (events ++ event ∷ []) (drop 1 free)

  -- The changes below a tick are dropped. The base has the value just before it, and the records that come free are filled.
  pub record Dropped (tick : ℕ) (filler : EventRecord E) (events free events' free' : List (EventRecord E)) : Type 0 where
    pub count : ℕ
    pub within : count < length events
    pub parts : IsPartitionPoint (λ change. change.tick < tick) (λ change. tick ≤ change.tick) (drop 1 events) count
    pub changes : events' ≡ record { tick = tick; value = (slice_index_or events count filler).value } ∷ drop (suc count) events
    pub spare : free' ≡ replicate count filler ++ free
