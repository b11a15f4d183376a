-- What recording in a line's part comes to.
use Rattle.std.proofs.Common.{◌≡◌, ◌↔◌, ℕ, suc, ◌-◌, ◌<◌, ◌≤◌, ◌⊎◌, Bool, true, false, List, [], ◌∷◌, ◌++◌, length, map, take, drop, replicate, get_or, None, Some, refl, ap, sym, ◌∙◌, subst, inl, inr, ⊎_elim, arith}
use mathlib.Core.Path.{ap₂}
use Rattle.std.specs.Prelude.{Option}
use Rattle.std.specs.Option.{unwrap_or}
use Rattle.std.proofs.lemmas.List.{length-take-le, length-drop, length-append, take-append-drop, take-map, drop-map, map-append}
use Rattle.events.specs.declared.record.EventRecord.{EventRecord}
use Rattle.events.specs.Recording.{Recorded}
use Rattle.events.specs.Recording.Recorded.{alike, full, added}
use Rattle.semantics.specs.Machines.{Machine}
use Rattle.semantics.specs.Accounts.{Account, before, value, Stable, Overflows}
use Rattle.semantics.specs.Changes.{StableOn}
use Rattle.semantics.proofs.Listing.{one_more, onward}
use Rattle.engine.specs.Recordings.{RecordedIn}
use Rattle.engine.specs.Standing.{Tells}
use Rattle.engine.specs.Stores.{seen}
use Rattle.engine.proofs.Telling as Telling

module _ {E : Type 0} (Alike : E → E → Type 0) where
  -- the three ways to record
  pub record Quiet (events free : List (EventRecord E)) (event : EventRecord E) (result : Bool) (events' free' : List (EventRecord E)) : Type 0 where
    pub same : Alike (get_or events (length events - 1) event).value event.value
    pub told : result ≡ true
    pub shown : events' ≡ events
    pub spare : free' ≡ free

  pub record Refused (events free : List (EventRecord E)) (event : EventRecord E) (result : Bool) (events' free' : List (EventRecord E)) : Type 0 where
    pub other : Alike (get_or events (length events - 1) event).value event.value → ⊥
    pub told : result ≡ false
    pub none_free : free ≡ []
    pub shown : events' ≡ events
    pub spare : free' ≡ free

  pub record Added (events free : List (EventRecord E)) (event : EventRecord E) (result : Bool) (events' free' : List (EventRecord E)) : Type 0 where
    pub other : Alike (get_or events (length events - 1) event).value event.value → ⊥
    pub told : result ≡ true
    pub some_free : 0 < length free
    pub shown : events' ≡ events ++ event ∷ []
    pub spare : free' ≡ drop 1 free

  pub ways : {events free events' free' : List (EventRecord E)} {event : EventRecord E} {result : Bool} → Recorded Alike events free event result events' free' → Quiet events free event result events' free' ⊎ (Refused events free event result events' free' ⊎ Added events free event result events' free')
  ways (alike same) = inl (record { same = same; told = refl; shown = refl; spare = refl })
  ways (full other none) = inr (inl (record { other = other; told = refl; none_free = none; shown = refl; spare = refl }))
  ways (added other some) = inr (inr (record { other = other; told = refl; some_free = some; shown = refl; spare = refl }))

  -- what is refused alters nothing
  pub refused_stays : {events free events' free' : List (EventRecord E)} {event : EventRecord E} {result : Bool} → Recorded Alike events free event result events' free' → result ≡ false → (events' ≡ events) × (free' ≡ free)
  refused_stays (alike is) none = cc
  refused_stays (full other end) none = (refl, refl)
  refused_stays (added other some) none = cc

-- as many first elements of two lists are equal only if they are as many
pub same_count : {X : Type 0} (xs ys : List X) (j k : ℕ) → j < length xs → k < length ys → take (suc j) xs ≡ take (suc k) ys → j ≡ k
same_count xs ys j k j_within k_within same = omega (arith, ap length same, length-take-le (suc j) xs (omega arith), length-take-le (suc k) ys (omega arith))

module _ {V M : Type 0} (meaning : V → M) (Alike : V → V → Type 0) (compared : (x y : V) → Alike x y ↔ (meaning x ≡ meaning y)) (s : Machine M) (filler : M) (a : Account M) (n to : ℕ) (v : V) (is : meaning v ≡ value s a n to) (reaches : a.trim ≤ to) where
  abbrev event : EventRecord V
  event = record { tick = to; value = v }

  -- the line is told one tick further, or there is no room for the change that comes there
  pub data ToldOn (part part' : List (EventRecord V)) : Option ℕ → Type 0 where
    on : {k : ℕ} → Tells s filler a n (suc to) k (map (seen meaning) part') → ToldOn part part' (Some k)
    stopped : Overflows s a n to → part' ≡ part → ToldOn part part' None

  module _ (kept : ℕ) (part : List (EventRecord V)) (h : Tells s filler a n to kept (map (seen meaning) part)) (within : kept < length part) where
    -- the last event tells the value just before
    last_told : meaning (get_or (take (suc kept) part) (length (take (suc kept) part) - 1) event).value ≡ before s a n to
    last_told = of_part part h within
      where
        of_part : (part : List (EventRecord V)) → Tells s filler a n to kept (map (seen meaning) part) → kept < length part → meaning (get_or (take (suc kept) part) (length (take (suc kept) part) - 1) event).value ≡ before s a n to
        of_part [] h within = absurd (omega arith)
        of_part (base ∷ more) h within =
            let last : length (base ∷ take kept more) - 1 ≡ length (take kept more) = omega arith in
            ap (λ i. meaning (get_or (base ∷ take kept more) i event).value) last ∙ Telling.last_told meaning s filler a n to kept (base ∷ more) h base (take kept more) refl event reaches

    still : Alike (get_or (take (suc kept) part) (length (take (suc kept) part) - 1) event).value v → Stable s a n to
    still same = sym is ∙ (sym ((compared _ v).0 same) ∙ last_told)

    changed : (Alike (get_or (take (suc kept) part) (length (take (suc kept) part) - 1) event).value v → ⊥) → Stable s a n to → ⊥
    changed other quiet = other ((compared _ v).1 (last_told ∙ (sym quiet ∙ sym is)))

    quiet_at : Stable s a n to → StableOn (Stable s a n) to (suc to)
    quiet_at still t from below = let here : to ≡ t = omega arith in subst (Stable s a n) here still

    module _ (part' : List (EventRecord V)) (long : length part ≡ suc s.room) (long' : length part' ≡ suc s.room) where
      seen_shown : (k : ℕ) → take (suc k) (map (seen meaning) part') ≡ map (seen meaning) (take (suc k) part')
      seen_shown k = take-map (seen meaning) (suc k) part'

      told_quiet : (k : ℕ) → k < length part' → Stable s a n to → take (suc k) part' ≡ take (suc kept) part → drop (suc k) part' ≡ drop (suc kept) part → Tells s filler a n (suc to) k (map (seen meaning) part')
      told_quiet k k_within still shown spare =
          let count : k ≡ kept = same_count part' part k kept k_within within shown in
          record {
            ticks = h.ticks;
            changes = onward (omega arith) (quiet_at still) h.changes;
            count = h.count ∙ sym count;
            shown = seen_shown k ∙ (ap (map (seen meaning)) shown ∙ (sym (take-map (seen meaning) (suc kept) part) ∙ h.shown));
            spare = drop-map (seen meaning) (suc k) part' ∙ (ap (map (seen meaning)) spare ∙ (sym (drop-map (seen meaning) (suc kept) part) ∙ (h.spare ∙ ap (λ j. replicate (s.room - j) (0, filler)) (sym count))));
          }

      told_added : (k : ℕ) → k < length part' → (Stable s a n to → ⊥) → 0 < length (drop (suc kept) part) → take (suc k) part' ≡ take (suc kept) part ++ event ∷ [] → drop (suc k) part' ≡ drop 1 (drop (suc kept) part) → Tells s filler a n (suc to) k (map (seen meaning) part')
      told_added k k_within change some shown spare =
          let more : k ≡ suc kept = omega (arith, ap length shown, length-take-le (suc k) part' (omega arith), length-append (take (suc kept) part) (event ∷ []), length-take-le (suc kept) part (omega arith)) in
          let room : suc kept ≤ s.room = omega (arith, length-drop (suc kept) part) in
          let left : s.room - kept ≡ suc (s.room - k) = omega arith in
          record {
            ticks = h.ticks ++ to ∷ [];
            changes = one_more reaches change h.changes;
            count = omega (arith, length-append h.ticks (to ∷ []), h.count);
            shown = seen_shown k ∙ (ap (map (seen meaning)) shown ∙ (map-append (seen meaning) (take (suc kept) part) (event ∷ [])
                ∙ (ap₂ ◌++◌ (sym (take-map (seen meaning) (suc kept) part) ∙ h.shown) (ap (λ x. (to, x) ∷ []) is)
                ∙ ap (λ l. (a.trim, before s a n a.trim) ∷ l) (sym (map-append (λ t. (t, value s a n t)) h.ticks (to ∷ []))))));
            spare = drop-map (seen meaning) (suc k) part' ∙ (ap (map (seen meaning)) spare ∙ (sym (drop-map (seen meaning) 1 (drop (suc kept) part))
                ∙ (ap (drop 1) (sym (drop-map (seen meaning) (suc kept) part) ∙ (h.spare ∙ ap (λ j. replicate j (0, filler)) left)))));
          }

      told_full : drop (suc kept) part ≡ [] → (Stable s a n to → ⊥) → Overflows s a n to
      told_full none change = record { from_trim = reaches; changes = change; room_is_full = record { ticks = h.ticks; changes = h.changes; count = omega (arith, h.count, ap length none, length-drop (suc kept) part) } }

      pub told_on : (result : Option ℕ) → unwrap_or result kept < length part' → RecordedIn Alike kept event part result part' → ToldOn part part' result
      told_on None fits recorded = ⊎_elim (λ q. absurd (let e = q.told in cc)) (⊎_elim (λ r. stopped (told_full r.none_free (changed r.other)) (sym (take-append-drop (suc kept) part') ∙ (ap₂ ◌++◌ r.shown r.spare ∙ take-append-drop (suc kept) part))) (λ d. absurd (let e = d.told in cc))) (ways Alike recorded)
      told_on (Some k) fits recorded = ⊎_elim (λ q. on (told_quiet k fits (still q.same) q.shown q.spare)) (⊎_elim (λ r. absurd (let e = r.told in cc)) (λ d. on (told_added k fits (changed d.other) d.some_free d.shown d.spare))) (ways Alike recorded)
