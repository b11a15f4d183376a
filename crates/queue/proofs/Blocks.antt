-- The lowest key of all is found by blocks, and a key that is set is one of its block's.
use Rattle.std.proofs.Common.{◌≡◌, ℕ, ◌+◌, ◌-◌, ◌*◌, ◌/◌, ◌%◌, ◌<◌, ◌≤◌, min, ◌⊎◌, List, [], ◌∷◌, ◌++◌, length, get_or, set, take, drop, Some, refl, ap, sym, ◌∙◌, subst, inl, inr, ⊎_elim, arith}
use Rattle.std.proofs.Math.Nat.{div-add-mod, mod-lt}
use Rattle.std.proofs.Math.Seq.{get_or-append_seam}
use Rattle.std.proofs.lemmas.Bool.{cases_eq, cases_lt}
use Rattle.std.proofs.lemmas.Grind.{get_or-set_at}
use Rattle.std.proofs.lemmas.List.{get_or-take, get_or-drop, get_or-set_other, get_or_append_left, length-append, length-take-le, length-drop, drop-set-lt, drop-set-add, take-set-le}
use Rattle.queue.specs.Blocks.{IsLowest, PlaceOf, block, LowestOfBlocks}
use Rattle.queue.specs.Keys.{no_key, First}

-- no key is none
pub lowest_of_none : IsLowest [] no_key
lowest_of_none = record { bounds = λ i within. absurd (omega arith); reached = λ some. absurd (some refl) }

-- one key more
pub lowest_more : (keys : List ℕ) (key low : ℕ) → IsLowest keys low → IsLowest (keys ++ (key ∷ [])) (min low key)
lowest_more keys key low h = record { bounds = bounds; reached = ⊎_elim kept other (lesser low key) }
  where
    lesser : (a b : ℕ) → (min a b ≡ a) ⊎ (min a b ≡ b)
    lesser a b = grind arith

    all : List ℕ
    all = keys ++ (key ∷ [])

    size : length all ≡ length keys + 1
    size = length-append keys (key ∷ [])

    before : (i : ℕ) → i < length keys → get_or all i 0 ≡ get_or keys i 0
    before i within = get_or_append_left keys (key ∷ []) 0 i within

    last : get_or all (length keys) 0 ≡ key
    last = get_or-append_seam keys key [] 0

    bounds : (i : ℕ) → i < length all → min low key ≤ get_or all i 0
    bounds i within =
        ⊎_elim (λ earlier. let old = h.bounds i earlier in let same = before i earlier in omega (arith, old, same))
        (λ later. let same = ap (λ k. get_or all k 0) (at_end i within later) in omega (arith, same, last)) (cases_lt i (length keys))
      where
        at_end : (i : ℕ) → i < length all → length keys ≤ i → i ≡ length keys
        at_end i within later = omega (arith, size)

    kept : min low key ≡ low → (min low key ≡ no_key → ⊥) → (i : ℕ) × (i < length all) × (get_or all i 0 ≡ min low key)
    kept is some =
        let old = h.reached (λ none. some (is ∙ none)) in
        (old.0, omega (arith, old.1, size), before old.0 old.1 ∙ (old.2 ∙ sym is))

    other : min low key ≡ key → (min low key ≡ no_key → ⊥) → (i : ℕ) × (i < length all) × (get_or all i 0 ≡ min low key)
    other is some = (length keys, omega (arith, size), last ∙ sym is)

-- each key is one of a block's
block_key : (keys : List ℕ) (b i : ℕ) → i < 32 → get_or (block keys b) i 0 ≡ get_or keys (32 * b + i) 0
block_key keys b i within = get_or-take 32 (drop (32 * b) keys) i 0 within ∙ get_or-drop (32 * b) keys i 0

block_length : (keys : List ℕ) (b : ℕ) → length keys ≡ 1024 → b < 32 → length (block keys b) ≡ 32
block_length keys b all within = length-take-le 32 (drop (32 * b) keys) (omega (arith, length-drop (32 * b) keys))

module _ (keys found : List ℕ) (all : length keys ≡ 1024) (blocks : length found ≡ 32) (right : LowestOfBlocks keys found) (least : ℕ) (lowest : IsLowest found least) where
  -- of the block of a place, the lowest key is no greater than the key there
  of_block : (b i : ℕ) → b < 32 → i < 32 → get_or found b 0 ≤ get_or keys (32 * b + i) 0
  of_block b i within inside =
      let each = (right b within).bounds i (omega (arith, block_length keys b all within)) in
      omega (arith, block_key keys b i inside, each)

  -- and the lowest of all is no greater than either
  pub each : (i : ℕ) → i < length keys → least ≤ get_or keys i 0
  each i within =
      let cut = div-add-mod i 32 in
      let inside : i % 32 < 32 = mod-lt i (omega arith) in
      let b : i / 32 < 32 = omega arith in
      let here = of_block (i / 32) (i % 32) b inside in
      let low = lowest.bounds (i / 32) (omega (arith, b)) in
      omega (arith, ap (λ k. get_or keys k 0) cut, here, low)

  module _ (b i : ℕ) (some : least < no_key) (in_blocks : PlaceOf found least (Some b)) (in_block : PlaceOf (block keys b) least (Some i)) where
    b_within : b < 32
    b_within = omega (arith, in_blocks.0)

    i_within : i < 32
    i_within = omega (arith, in_block.0, block_length keys b all b_within)

    is : get_or keys (32 * b + i) 0 ≡ least
    is = sym (block_key keys b i i_within) ∙ in_block.1

    -- keys before are greater
    before : (k : ℕ) → k < 32 * b + i → least < get_or keys k 0
    before k less =
        let cut = div-add-mod k 32 in
        let inside : k % 32 < 32 = mod-lt k (omega arith) in
        let within : k / 32 < 32 = omega (arith, less, b_within, i_within) in
        ⊎_elim (λ same. same_block k (k / 32) (k % 32) same inside cut less) (λ other. other_block k (k / 32) (k % 32) (omega (arith, other, cut, less, inside, i_within)) within inside cut) (cases_eq (k / 32) b)
      where
        same_block : (k c j : ℕ) → c ≡ b → j < 32 → 32 * c + j ≡ k → k < 32 * b + i → least < get_or keys k 0
        same_block k c j same inside cut less =
            let place : k ≡ 32 * b + j = omega arith in
            let key = block_key keys b j inside ∙ ap (λ p. get_or keys p 0) (sym place) in
            let low = each k (omega (arith, b_within, i_within)) in
            ⊎_elim (λ equal. absurd (in_block.2 j (omega arith) (key ∙ equal))) (λ differs. omega (arith, differs, low)) (cases_eq (get_or keys k 0) (least))

        other_block : (k c j : ℕ) → c < b → c < 32 → j < 32 → 32 * c + j ≡ k → least < get_or keys k 0
        other_block k c j earlier within inside cut =
            let low = lowest.bounds c (omega (arith, within)) in
            let here = of_block c j within inside in
            let place = ap (λ p. get_or keys p 0) cut in
            ⊎_elim (λ equal. absurd (in_blocks.2 c earlier equal)) (λ differs. omega (arith, differs, low, here, place)) (cases_eq (get_or found c 0) (least))

    pub first : First keys (Some (32 * b + i))
    first = (omega (arith, b_within, i_within), omega (arith, is, some), λ k inside. omega (arith, is, each k inside), λ k less. omega (arith, is, before k less))

-- a key that is set is one of its own block alone
other_block : (keys : List ℕ) (place key b : ℕ) → (b ≡ place / 32 → ⊥) → block (set keys place key) b ≡ block keys b
other_block keys place key b other =
    ⊎_elim (λ later. ap (take 32) (drop-set-lt (32 * b) keys place key (omega (arith, later))))
    (λ earlier.
    let r = place - 32 * b in
    let at : place ≡ 32 * b + r = omega arith in
    ap (λ p. block (set keys p key) b) at ∙ (ap (take 32) (drop-set-add (32 * b) keys r key) ∙ take-set-le 32 (drop (32 * b) keys) r key (omega arith)))
    (sides (cases_lt (place / 32) b))
  where
    cut : 32 * (place / 32) + place % 32 ≡ place
    cut = div-add-mod place 32

    rest : place % 32 < 32
    rest = mod-lt place (omega arith)

    sides : (place / 32 < b) ⊎ (b ≤ place / 32) → (place < 32 * b) ⊎ (32 * b + 32 ≤ place)
    sides (inl less) = inl (omega (arith, cut, rest))
    sides (inr more) = inr (omega (arith, cut, rest, other))

pub set_right : (keys found : List ℕ) (place key low : ℕ) → length found ≡ 32 → LowestOfBlocks keys found → IsLowest (block (set keys place key) (place / 32)) low → LowestOfBlocks (set keys place key) (set found (place / 32) low)
set_right keys found place key low blocks right lowest b inside =
    ⊎_elim (λ same. subst (IsLowest (block (set keys place key) b)) (sym (get_or-set_at found (place / 32) b low 0 same (omega (arith, inside, same)))) (subst (λ c. IsLowest (block (set keys place key) c) low) (sym same) lowest))
    (λ other. subst (IsLowest (block (set keys place key) b)) (sym (get_or-set_other found (place / 32) b low 0 other)) (subst (λ ks. IsLowest ks (get_or found b 0)) (sym (other_block keys place key b other)) (right b inside)))
    (cases_eq b (place / 32))
