-- What recording does to a list in lent records.
use Rattle.std.proofs.Common.{◌≡◌, ℕ, suc, ◌+◌, ◌-◌, ◌<◌, ◌≤◌, true, false, List, length, length-set, replicate, take, drop, ◌++◌, ◌∷◌, [], get_or, set, ap, sym, ◌∙◌, subst, arith}
use Rattle.std.proofs.Math.Seq.{take-suc-set, take-append_seam, drop-append_seam, paste}
use Rattle.std.proofs.lemmas.List.Edits.{paste_all, length-paste, drop-paste, take-paste}
use Rattle.std.proofs.lemmas.List.{get_or-take, length-take-le, get_or_default, drop-set-lt, drop-drop, drop_all, length-drop, length-replicate, drop-take}
use Rattle.events.specs.declared.record.EventRecord.{EventRecord}
use Rattle.events.specs.Recording.{Recorded}
use Rattle.events.specs.Recording.Recorded.{alike, full, added}

-- the last of the first elements
last_of_first : {X : Type 0} (xs : List X) (k : ℕ) (d e : X) → k < length xs → get_or (take (suc k) xs) (length (take (suc k) xs) - 1) d ≡ get_or xs k e
last_of_first xs k d e within =
    let count : length (take (suc k) xs) - 1 ≡ k = omega (arith, length-take-le (suc k) xs (omega arith)) in
    ap (λ i. get_or (take (suc k) xs) i d) count ∙ (get_or-take (suc k) xs k d (omega arith) ∙ get_or_default xs k d e within)

module _ {E : Type 0} (Alike : E → E → Type 0) (records : List (EventRecord E)) (k : ℕ) (old event : EventRecord E) (within : k < length records) where
  alike_last : (A : E → Type 0) → A (get_or records k old).value → A (get_or (take (suc k) records) (length (take (suc k) records) - 1) event).value
  alike_last A is = subst (λ (e : EventRecord E). A e.value) (sym (last_of_first records k event old within)) is

  alike_then : (A : E → Type 0) → A (get_or (take (suc k) records) (length (take (suc k) records) - 1) event).value → A (get_or records k old).value
  alike_then A is = subst (λ (e : EventRecord E). A e.value) (last_of_first records k event old within) is

  pub stays : Alike (get_or records k old).value event.value → Recorded Alike (take (suc k) records) (drop (suc k) records) event true (take (suc k) records) (drop (suc k) records)
  stays is = alike (alike_last (λ v. Alike v event.value) is)

  pub is_full : (Alike (get_or records k old).value event.value → ⊥) → k + 1 ≡ length records → Recorded Alike (take (suc k) records) (drop (suc k) records) event false (take (suc k) records) (drop (suc k) records)
  is_full other end = full (λ is. other (alike_then (λ v. Alike v event.value) is)) (drop_all (suc k) records (omega arith))

  pub grows : (Alike (get_or records k old).value event.value → ⊥) → (k + 1 ≡ length records → ⊥) → Recorded Alike (take (suc k) records) (drop (suc k) records) event true (take (suc (k + 1)) (set records (k + 1) event)) (drop (suc (k + 1)) (set records (k + 1) event))
  grows other more =
      let after : suc (k + 1) ≡ suc k + 1 = omega arith in
      let first : take (suc (k + 1)) (set records (k + 1) event) ≡ take (k + 1) records ++ event ∷ [] = take-suc-set records (k + 1) event (omega arith) in
      let here : take (k + 1) records ++ event ∷ [] ≡ take (suc k) records ++ event ∷ [] = let more : k + 1 ≡ suc k = omega arith in ap (λ i. take i records ++ event ∷ []) more in
      let rest : drop (suc (k + 1)) (set records (k + 1) event) ≡ drop 1 (drop (suc k) records) = drop-set-lt (suc (k + 1)) records (k + 1) event (omega arith) ∙ (ap (λ i. drop i records) after ∙ sym (drop-drop 1 (suc k) records)) in
      let free : 0 < length (drop (suc k) records) = omega (arith, length-drop (suc k) records) in
      subst (λ events. Recorded Alike (take (suc k) records) (drop (suc k) records) event true events (drop (suc (k + 1)) (set records (k + 1) event))) (sym (first ∙ here))
      (subst (Recorded Alike (take (suc k) records) (drop (suc k) records) event true (take (suc k) records ++ event ∷ [])) (sym rest) (added (λ is. other (alike_then (λ v. Alike v event.value) is)) free))

-- some changes are dropped from records of which k + 1 are in use
module _ {X : Type 0} (xs : List X) (k n : ℕ) (base filler : X) (few : n ≤ k) (within : k < length xs) where
  -- with the base, and the changes that stay moved next to it
  abbrev pub moved : List X
  moved = paste (set xs 0 base) 1 (drop (suc n) (set xs 0 base)) (k - n)

  -- with the records filled that come free
  abbrev pub filled : List X
  filled = paste moved (suc (k - n)) (replicate n filler) n

  based : length (set xs 0 base) ≡ length xs
  based = length-set xs 0 base

  rest : drop (suc n) (set xs 0 base) ≡ drop (suc n) xs
  rest = drop-set-lt (suc n) xs 0 base (omega arith)

  fits : k - n ≤ length (drop (suc n) (set xs 0 base))
  fits = omega (arith, length-drop (suc n) (set xs 0 base), based)

  same_length : length moved ≡ length xs
  same_length = length-paste (set xs 0 base) 1 (drop (suc n) (set xs 0 base)) (k - n) (omega (arith, based)) fits ∙ based

  as_parts : filled ≡ take (suc (k - n)) moved ++ (replicate n filler ++ drop (suc (k - n) + n) moved)
  as_parts = paste_all moved (suc (k - n)) (replicate n filler) n (sym (length-replicate n filler))

  begins : take (suc (k - n)) moved ≡ base ∷ drop (suc n) (take (suc k) xs)
  begins =
      let whole : suc n + (k - n) ≡ suc k = omega arith in
      let place : suc (k - n) ≡ 1 + (k - n) = omega arith in
      ap (λ i. take i moved) place
      ∙ (take-paste (set xs 0 base) 1 (drop (suc n) (set xs 0 base)) (k - n) (omega (arith, based)) fits
      ∙ (ap (λ front. front ++ take (k - n) (drop (suc n) (set xs 0 base))) (take-suc-set xs 0 base (omega arith))
      ∙ ap (λ changes. base ∷ changes) (ap (take (k - n)) rest ∙ (sym (drop-take (suc n) (k - n) xs) ∙ ap (λ i. drop (suc n) (take i xs)) whole))))

  stays_behind : drop (suc (k - n) + n) moved ≡ drop (suc k) xs
  stays_behind =
      let place : suc (k - n) ≡ 1 + (k - n) = omega arith in
      let whole : suc (k - n) + n ≡ suc k = omega arith in
      sym (drop-drop n (suc (k - n)) moved)
      ∙ (ap (drop n) (ap (λ i. drop i moved) place ∙ (drop-paste (set xs 0 base) 1 (drop (suc n) (set xs 0 base)) (k - n) (omega (arith, based)) fits ∙ ap (λ i. drop i (set xs 0 base)) (sym place)))
      ∙ (drop-drop n (suc (k - n)) (set xs 0 base) ∙ (ap (λ i. drop i (set xs 0 base)) whole ∙ drop-set-lt (suc k) xs 0 base (omega arith))))

  front_length : length (take (suc (k - n)) moved) ≡ suc (k - n)
  front_length = length-take-le (suc (k - n)) moved (omega (arith, same_length))

  pub shows : take (suc (k - n)) filled ≡ base ∷ drop (suc n) (take (suc k) xs)
  shows =
      ap (take (suc (k - n))) as_parts
      ∙ (ap (λ i. take i (take (suc (k - n)) moved ++ (replicate n filler ++ drop (suc (k - n) + n) moved))) (sym front_length)
      ∙ (take-append_seam (take (suc (k - n)) moved) (replicate n filler ++ drop (suc (k - n) + n) moved) ∙ begins))

  pub frees : drop (suc (k - n)) filled ≡ replicate n filler ++ drop (suc k) xs
  frees =
      ap (drop (suc (k - n))) as_parts
      ∙ (ap (λ i. drop i (take (suc (k - n)) moved ++ (replicate n filler ++ drop (suc (k - n) + n) moved))) (sym front_length)
      ∙ (drop-append_seam (take (suc (k - n)) moved) (replicate n filler ++ drop (suc (k - n) + n) moved) ∙ ap (λ behind. replicate n filler ++ behind) stays_behind))
