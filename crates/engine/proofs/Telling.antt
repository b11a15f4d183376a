-- What is read from the records of a line that tell its changes.
use Rattle.std.proofs.Common.{◌≡◌, ℕ, suc, ◌<◌, ◌≤◌, List, ◌∷◌, length, map, take, drop, get_or, min, ap, sym, ◌∙◌, subst, ⊎_elim, arith, MatchOption, None, Some}
use Rattle.std.proofs.lemmas.Bool.{cases_lt}
use Rattle.std.proofs.lemmas.List.{get_or-map, length-map, take-map, get_or_past}
use Rattle.std.proofs.lemmas.Option.{slice_get-get_or, slice_get_within, get_or_from_slice_get}
use Rattle.std.proofs.lemmas.Simd.{map-map}
use Rattle.std.specs.Prelude.{Option, slice_get}
use Rattle.std.specs.List.Sorted.{IsNonDecreasingBy}
use Rattle.events.specs.declared.record.EventRecord.{EventRecord}
use Rattle.events.specs.declared.events.Around.{Around}
use Rattle.events.specs.Orders.{AreAround}
use Rattle.semantics.specs.Machines.{Machine}
use Rattle.semantics.specs.Accounts.{Account, before, value}
use Rattle.semantics.specs.Changes.{Changes}
use Rattle.engine.specs.Looks.{Glanced}
use Rattle.engine.specs.Stores.{seen}
use Rattle.engine.specs.Standing.{Tells}
use Rattle.engine.proofs.Reading.{Splits, ticks_rise, ticks_below, stable_after, before_at}

-- records tell the changes at some ticks
module _ {V M : Type 0} (meaning : V → M) (v : ℕ → M) (changes : List (EventRecord V)) (ts : List ℕ) (told : map (seen meaning) changes ≡ map (λ t. (t, v t)) ts) where
  pub as_many : length changes ≡ length ts
  as_many = sym (length-map changes (seen meaning)) ∙ (ap length told ∙ length-map ts (λ t. (t, v t)))

  pub each : (i : ℕ) (d : EventRecord V) (e : ℕ) → i < length changes → seen meaning (get_or changes i d) ≡ (get_or ts i e, v (get_or ts i e))
  each i d e within =
      sym (get_or-map (seen meaning) changes i d (seen meaning d) within)
      ∙ (ap (λ l. get_or l i (seen meaning d)) told ∙ get_or-map (λ t. (t, v t)) ts i e (seen meaning d) (omega (arith, as_many)))

  pub tick_at : (i : ℕ) (d : EventRecord V) (e : ℕ) → i < length changes → (get_or changes i d).tick ≡ get_or ts i e
  tick_at i d e within = ap (λ p. p.0) (each i d e within)

  -- what is split among the records is split among the ticks
  pub splits_at : (u count : ℕ) → count ≤ length changes → ((i : ℕ) (d : EventRecord V) → 0 ≤ i → i < count → (get_or changes i d).tick < u) → ((i : ℕ) (d : EventRecord V) → count ≤ i → i < length changes → u ≤ (get_or changes i d).tick) → EventRecord V → Splits ts u count
  splits_at u count few first others some = record {
    within = omega (arith, as_many);
    first = λ i d below. let is = tick_at i some d (omega arith) in let f = first i some (omega arith) below in omega arith;
    others = λ i d from below. let is = tick_at i some d (omega (arith, as_many)) in let f = others i some from (omega (arith, as_many)) in omega arith;
  }

  pub rising : {Stable : ℕ → Type 0} {to from : ℕ} → Changes Stable to from ts → IsNonDecreasingBy (λ change. change.tick) changes
  rising list i j d upto below =
      let one = tick_at i d 0 (omega arith) in let other = tick_at j d 0 below in let rise = ticks_rise list i j 0 upto (omega (arith, as_many)) in omega arith

module _ {V M : Type 0} (meaning : V → M) (s : Machine M) (filler : M) (a : Account M) (n to kept : ℕ) (part : List (EventRecord V)) (h : Tells s filler a n to kept (map (seen meaning) part)) (base : EventRecord V) (changes : List (EventRecord V)) (events : base ∷ changes ≡ take (suc kept) part) where
  told : map (seen meaning) (base ∷ changes) ≡ (a.trim, before s a n a.trim) ∷ map (λ t. (t, value s a n t)) h.ticks
  told = ap (map (seen meaning)) events ∙ (sym (take-map (seen meaning) (suc kept) part) ∙ h.shown)

  pub changes_told : map (seen meaning) changes ≡ map (λ t. (t, value s a n t)) h.ticks
  changes_told = ap (drop 1) told

  pub events_as_many : length changes ≡ kept
  events_as_many = as_many meaning (value s a n) changes h.ticks changes_told ∙ h.count

  pub in_order : IsNonDecreasingBy (λ change. change.tick) changes
  in_order = rising meaning (value s a n) changes h.ticks changes_told h.changes

  meanings_told : map (λ (r : EventRecord V). meaning r.value) (base ∷ changes) ≡ before s a n a.trim ∷ map (value s a n) h.ticks
  meanings_told =
      sym (map-map (λ (p : ℕ × M). p.1) (seen meaning) (base ∷ changes))
      ∙ (ap (map (λ (p : ℕ × M). p.1)) told ∙ ap (λ l. before s a n a.trim ∷ l) (map-map (λ (p : ℕ × M). p.1) (λ t. (t, value s a n t)) h.ticks))

  -- of the base and the changes the last before a tick tells the value just before it
  pub value_told : (u count : ℕ) (d : EventRecord V) → a.trim ≤ u → u ≤ to → Splits h.ticks u count → count ≤ length changes → meaning (get_or (base ∷ changes) count d).value ≡ before s a n u
  value_told u count d reaches within parts few =
      sym (get_or-map (λ (r : EventRecord V). meaning r.value) (base ∷ changes) count d (before s a n a.trim) (omega arith))
      ∙ (ap (λ l. get_or l count (before s a n a.trim)) meanings_told ∙ sym (before_at s a n u count reaches within h.changes parts))

  -- the last of all tells the value just before the tick up to which they are told
  pub last_told : (d : EventRecord V) → a.trim ≤ to → meaning (get_or (base ∷ changes) (length changes) d).value ≡ before s a n to
  last_told d reaches = value_told to (length changes) d reaches (omega arith) all (omega arith)
    where
      all : Splits h.ticks to (length changes)
      all = record { within = omega (arith, events_as_many, h.count); first = λ i d below. ticks_below h.changes i d (omega (arith, events_as_many, h.count)); others = λ i d from below. absurd (omega (arith, events_as_many, h.count)) }

  module _ (tick limit : ℕ) (around : Around V) (until : ℕ) (before_limit : tick < limit) (settled : limit ≤ to) (found : AreAround base changes tick around) where
    parts : Splits h.ticks (suc tick) found.count
    parts = splits_at meaning (value s a n) changes h.ticks changes_told (suc tick) found.count found.within (λ i d from below. let f = found.parts.0 i d from below in omega arith) (λ i d from below. let f = found.parts.1 i d from below in omega arith) base

    -- how far the line stays as it is
    record Stays : Type 0 where
      pub later : tick < until
      pub within : until ≤ limit
      pub no_change : until ≤ get_or h.ticks found.count to

    stays : (next : Option (EventRecord V)) → slice_get changes found.count ≡ next → MatchOption next (until ≡ limit) (λ r. until ≡ min r.tick limit) → Stays
    stays None none is =
        let past : length h.ticks ≤ found.count = ⊎_elim (λ some. absurd (nothing some)) (λ end. omega (arith, as_many meaning (value s a n) changes h.ticks changes_told)) (cases_lt found.count (length changes)) in
        let end = get_or_past h.ticks found.count to past in
        record { later = omega arith; within = omega arith; no_change = omega arith }
      where
        nothing : found.count < length changes → ⊥
        nothing some = let one = slice_get-get_or changes found.count base some in cc
    stays (Some r) one is =
        let some = slice_get_within changes found.count r one in
        let same : get_or changes found.count r ≡ r = get_or_from_slice_get changes found.count r r one in
        let here : r.tick ≡ get_or h.ticks found.count to = ap (λ (e : EventRecord V). e.tick) (sym same) ∙ tick_at meaning (value s a n) changes h.ticks changes_told found.count r to some in
        let after : tick < r.tick = subst (λ (e : EventRecord V). tick < e.tick) same (found.parts.1 found.count r (omega arith) some) in
        record { later = grind arith; within = grind arith; no_change = grind arith }

    pub glanced : MatchOption around.next (until ≡ limit) (λ r. until ≡ min r.tick limit) → a.trim ≤ tick → Glanced meaning s a n tick limit (record { value = around.last.value; until = until })
    glanced is reaches =
        let far = stays around.next found.next is in
        record {
          shown = ap (λ (r : EventRecord V). meaning r.value) (sym found.last) ∙ value_told (suc tick) found.count base (omega arith) (omega arith) parts found.within;
          later = far.later;
          within = far.within;
          steady = λ t from before. let more = far.no_change in stable_after (suc tick) found.count (omega arith) h.changes parts t from (omega arith);
        }
