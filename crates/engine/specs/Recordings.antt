-- Recording in a part of a store, and nowhere else; it serves the contracts of the engine's own functions.
use Rattle.std.specs.Prelude.{◌≡◌, ℕ, suc, ◌+◌, ◌-◌, Option, List, ◌∷◌, length, replicate, take, drop}
use Rattle.std.specs.List.Sorted.{IsNonDecreasingBy}
use Rattle.std.specs.Option.{is_some, unwrap_or}
use Rattle.events.specs.declared.record.EventRecord.{EventRecord}
use Rattle.events.specs.Recording.{Recorded, Dropped}

-- It was recorded that there is a value from a tick on, and told how many changes are kept then; or there was no room.
abbrev pub RecordedIn : {E : Type 0} → (E → E → Type 0) → ℕ → EventRecord E → List (EventRecord E) → Option ℕ → List (EventRecord E) → Type 0
RecordedIn Alike kept event old result new =
    Recorded Alike (take (suc kept) old) (drop (suc kept) old) event (is_some result)
    (take (suc (unwrap_or result kept)) new) (drop (suc (unwrap_or result kept)) new)

-- the changes below a tick are dropped, and so many stay
abbrev pub DroppedIn : {E : Type 0} → ℕ → EventRecord E → ℕ → List (EventRecord E) → ℕ → List (EventRecord E) → Type 0
DroppedIn tick filler kept old result new =
    IsNonDecreasingBy (λ change. change.tick) (drop 1 (take (suc kept) old)) → Dropped tick filler (take (suc kept) old) (drop (suc kept) old) (take (suc result) new) (drop (suc result) new)

-- records begun anew with a value at tick 0, and filled
abbrev pub begun : {E : Type 0} → List (EventRecord E) → E → E → List (EventRecord E)
begun old value filler = record { tick = 0; value = value } ∷ replicate (length old - 1) (record { tick = 0; value = filler })

-- only the records from a place on, and only so many, are others
pub record OnlyThere {X : Type 0} (place count : ℕ) (old new : List X) : Type 0 where
  pub same_length : length new ≡ length old
  pub before : take place new ≡ take place old
  pub after : drop (place + count) new ≡ drop (place + count) old
