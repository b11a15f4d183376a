-- The parts of a store.
use Rattle.std.proofs.Common.{◌≡◌, ℕ, suc, ◌+◌, ◌-◌, ◌*◌, ◌<◌, ◌≤◌, List, length, length-set, set, take, drop, ◌++◌, ◌∷◌, get_or, length-append, length-take-le, length-drop, ap, sym, ◌∙◌, subst, ⊎_elim, arith}
use mathlib.Core.Path.{ap₂}
use Rattle.std.proofs.Math.Nat.{mul-le-mul_right, suc-mul}
use Rattle.std.proofs.lemmas.Slice.{take-put_mid_below, drop-put_mid, between-put_mid}
use Rattle.std.proofs.lemmas.Bool.{cases_eq, cases_order}
use Rattle.std.proofs.lemmas.List.{take-take, drop_more, drop-take, drop-drop, take-append-drop, take-set-le, drop-set-lt, drop-set-add}
use Rattle.std.proofs.Math.Seq.{take-set-lt}
use borrow.Rule.Slice.PartMut.{put_mid}
use Rattle.engine.specs.Stores.{part}
use Rattle.engine.specs.Recordings.{OnlyThere}

-- a line's records end where there are still those of the lines after it
pub ends_within : (stride count n : ℕ) → 0 < n → n ≤ count → (n - 1) * stride + stride ≤ count * stride
ends_within stride count n some within =
    let whole : suc (n - 1) ≡ n = omega arith in
    subst (λ x. x ≤ count * stride) (suc-mul (n - 1) stride) (subst (λ m. m * stride ≤ count * stride) (sym whole) (mul-le-mul_right stride within))

-- a write to some records from a place on
module _ {X : Type 0} (place count : ℕ) (xs ys : List X) (within : place + count ≤ length xs) (as_many : length ys ≡ count) where
  there : OnlyThere place count xs (put_mid place count xs ys)
  there = record {
    same_length = omega (arith, as_many, length-append (take place xs) (ys ++ drop count (drop place xs)), length-append ys (drop count (drop place xs)), length-take-le place xs (omega arith), length-drop count (drop place xs), length-drop place xs);
    before = take-put_mid_below place count xs ys place (omega arith) (omega arith);
    after = drop-put_mid place count xs ys (place + count) (omega arith) (omega arith) as_many;
  }

  written : take count (drop place (put_mid place count xs ys)) ≡ ys
  written =
      let gap : place + count - place ≡ count = omega arith in
      subst (λ n. take n (drop place (put_mid place count xs ys)) ≡ ys) gap (between-put_mid place count xs ys (place + count) (omega arith) (as_many ∙ sym gap))

-- A line's part is written, between two places: the others stay, the part is what was written, and what was lent is what it was.
module _ {X : Type 0} (stride n at : ℕ) (store now : List X) (begins : at ≡ (n - 1) * stride) (within : at + stride ≤ length store) (same_length : length now ≡ length (take (at + stride - at) (drop at store))) where
  abbrev pub after_write : List X
  after_write = put_mid at (at + stride - at) store now

  width : at + stride - at ≡ stride
  width = omega arith

  pub lent : take (at + stride - at) (drop at store) ≡ part stride n store
  lent = ap (λ k. take k (drop at store)) width ∙ ap (λ a. take stride (drop a store)) begins

  pub now_length : length now ≡ stride
  now_length = same_length ∙ (ap (λ k. length (take k (drop at store))) width ∙ length-take-le stride (drop at store) (omega (arith, length-drop at store)))

  restated : (P : List X → Type 0) → P (put_mid ((n - 1) * stride) stride store now) → P after_write
  restated P is = subst (λ k. P (put_mid at k store now)) (sym width) (subst (λ a. P (put_mid a stride store now)) (sym begins) is)

  pub wrote_there : OnlyThere ((n - 1) * stride) stride store after_write
  wrote_there = restated (OnlyThere ((n - 1) * stride) stride store) (there ((n - 1) * stride) stride store now (omega (arith, begins)) now_length)

  pub wrote_part : part stride n after_write ≡ now
  wrote_part = restated (λ xs. part stride n xs ≡ now) (written ((n - 1) * stride) stride store now (omega (arith, begins)) now_length)

-- the first records of a part
pub part_events : {X : Type 0} (stride n kept : ℕ) (store : List X) (at : ℕ) (d : X) → at ≡ (n - 1) * stride → kept < stride → at + stride ≤ length store → get_or store at d ∷ take kept (drop (at + 1) store) ≡ take (suc kept) (part stride n store)
part_events stride n kept store at d same few within =
    sym (ap (λ a. take (suc kept) (take stride (drop a store))) (sym same) ∙ (take-take (suc kept) stride (drop at store) (omega arith) ∙ ap (take (suc kept)) (drop_more store at d (omega arith))))

-- where only one part is another
module _ {X : Type 0} (stride n : ℕ) (old new : List X) (some : 0 < n) (there : OnlyThere ((n - 1) * stride) stride old new) where
  earlier : (i : ℕ) → i + stride ≤ (n - 1) * stride → take stride (drop i new) ≡ take stride (drop i old)
  earlier i before = of_front new ∙ (ap (λ front. drop i (take (i + stride) front)) there.before ∙ sym (of_front old))
    where
      of_front : (xs : List X) → take stride (drop i xs) ≡ drop i (take (i + stride) (take ((n - 1) * stride) xs))
      of_front xs = sym (drop-take i stride xs) ∙ ap (drop i) (sym (take-take (i + stride) ((n - 1) * stride) xs before))

  pub later : (i : ℕ) → (n - 1) * stride + stride ≤ i → drop i new ≡ drop i old
  later i after = of_back new ∙ (ap (drop (i - ((n - 1) * stride + stride))) there.after ∙ sym (of_back old))
    where
      whole : (n - 1) * stride + stride + (i - ((n - 1) * stride + stride)) ≡ i
      whole = omega arith

      of_back : (xs : List X) → drop i xs ≡ drop (i - ((n - 1) * stride + stride)) (drop ((n - 1) * stride + stride) xs)
      of_back xs = sym (drop-drop (i - ((n - 1) * stride + stride)) ((n - 1) * stride + stride) xs ∙ ap (λ j. drop j xs) whole)

  -- the others stay
  pub part_else : (m : ℕ) → 0 < m → (m ≡ n → ⊥) → part stride m new ≡ part stride m old
  part_else m positive other = ⊎_elim (λ same. absurd (other same))
      (⊎_elim (λ before. earlier ((m - 1) * stride) (ends_within stride (n - 1) m positive (omega arith)))
      (λ after. ap (take stride) (later ((m - 1) * stride) (ends_within stride (m - 1) n some (omega arith)))))
      (cases_order m n)

  -- what is so of that part as it is, and of each other as it was, is so of all
  pub one_part : (P : ℕ → List X → Type 0) (m : ℕ) → 0 < m → (m ≡ n → P n (part stride n new)) → ((m ≡ n → ⊥) → P m (part stride m old)) → P m (part stride m new)
  one_part P m positive here there =
      ⊎_elim (λ is. subst (λ k. P k (part stride k new)) (sym is) (here is)) (λ other. subst (P m) (sym (part_else m positive other)) (there other))
      (cases_eq m n)

  -- where that part stays too, nothing is another
  pub same_store : part stride n new ≡ part stride n old → new ≡ old
  same_store same =
      whole new ∙ (ap₂ ◌++◌ there.before (ap₂ ◌++◌ same there.after) ∙ sym (whole old))
    where
      whole : (xs : List X) → xs ≡ take ((n - 1) * stride) xs ++ (part stride n xs ++ drop ((n - 1) * stride + stride) xs)
      whole xs =
          sym (take-append-drop ((n - 1) * stride) xs)
          ∙ ap (λ back. take ((n - 1) * stride) xs ++ back) (sym (take-append-drop stride (drop ((n - 1) * stride) xs)) ∙ ap (λ back. part stride n xs ++ back) (drop-drop stride ((n - 1) * stride) xs))

-- a part is as long as it should be
pub part_length : {X : Type 0} (stride count n : ℕ) (store : List X) → 0 < n → n ≤ count → count * stride ≤ length store → length (part stride n store) ≡ stride
part_length stride count n store some within holds =
    length-take-le stride (drop ((n - 1) * stride) store) (let ends = ends_within stride count n some within in omega (arith, length-drop ((n - 1) * stride) store))

pub there_on : {X : Type 0} (place count : ℕ) (old mid new : List X) → OnlyThere place count old mid → OnlyThere place count mid new → OnlyThere place count old new
there_on place count old mid new first second = record { same_length = second.same_length ∙ first.same_length; before = second.before ∙ first.before; after = second.after ∙ first.after }

-- a part whose first record is replaced
module _ {X : Type 0} (stride n at : ℕ) (store : List X) (x : X) (begins : at ≡ (n - 1) * stride) (some : 0 < stride) where
  pub set_there : OnlyThere ((n - 1) * stride) stride store (set store at x)
  set_there = record {
    same_length = length-set store at x;
    before = take-set-le ((n - 1) * stride) store at x (omega (arith, begins));
    after = drop-set-lt ((n - 1) * stride + stride) store at x (omega (arith, begins));
  }

  pub set_part : part stride n (set store at x) ≡ set (part stride n store) 0 x
  set_part =
      let place : at ≡ (n - 1) * stride + 0 = omega (arith, begins) in
      ap (λ i. part stride n (set store i x)) place
      ∙ (ap (take stride) (drop-set-add ((n - 1) * stride) store 0 x) ∙ take-set-lt stride (drop ((n - 1) * stride) store) 0 x some)
