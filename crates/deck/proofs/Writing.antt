-- The rows of a listing are written number by number over rows of blanks.
use Rattle.std.proofs.Common.{◌≡◌, ℕ, suc, ◌+◌, ◌≤◌, Bool, true, false, cond, leb, ◌↔◌, Result, Ok, Err, List, [], ◌∷◌, ◌++◌, length, take, drop, set, replicate, decimal, sym, refl, ap, ◌∙◌, append_assoc, arith}
use lib.ListN.{length-replicate}
use Rattle.std.proofs.lemmas.List.{take_at, drop_at, set_at, length-append}
use Rattle.std.specs.Result.{IsOk, OnOk, OnErr}
use Rattle.std.proofs.lemmas.Bool.Decides.{nat_tests}
use Rattle.std.proofs.lemmas.Bool.{leb-true, le-leb, cond-true, cond-false}
use Rattle.columns.specs.Spelling.{spelled}
use Rattle.columns.proofs.Spelled.{length-spelled_fit}
use Rattle.deck.specs.Faults.{in_columns}

-- k places from n on, written over
abbrev pub overwritten : ℕ → ℕ → List ℕ → List ℕ → List ℕ
overwritten n k xs ys = take n xs ++ (ys ++ drop k (drop n xs))

over_at : (front old back ys : List ℕ) (n k : ℕ) → length front ≡ n → length old ≡ k → overwritten n k (front ++ (old ++ back)) ys ≡ front ++ (ys ++ back)
over_at front old back ys n k before long =
    (λ i. take_at front (old ++ back) n before i ++ (ys ++ drop k (drop_at front (old ++ back) n before i))) ∙ ap (λ l. front ++ (ys ++ l)) (drop_at old back k long)

part_at : (front old back : List ℕ) (n k : ℕ) → length front ≡ n → length old ≡ k → take k (drop n (front ++ (old ++ back))) ≡ old
part_at front old back n k before long = ap (take k) (drop_at front (old ++ back) n before) ∙ take_at old back k long

-- what is written in columns that were blank
pub in_columns_is : {T E : Type 0} (w n : ℕ) (r : Result T E) (old new : List ℕ) → (IsOk r ↔ (length (decimal n) ≤ length old)) → OnOk r (new ≡ spelled (length old) n) → OnErr r (new ≡ old) → old ≡ replicate w 32 → new ≡ in_columns w n
in_columns_is w n (Ok _) old new fits spells keeps blank =
    let wide : length old ≡ w = ap length blank ∙ length-replicate {A = ℕ} w 32 in
    let room = fits.0 refl in
    spells ∙ ap (λ k. spelled k n) wide ∙ sym (cond-true (leb (length (decimal n)) w) _ _ (le-leb _ _ (omega arith)))
in_columns_is w n (Err _) old new fits spells keeps blank =
    let wide : length old ≡ w = ap length blank ∙ length-replicate {A = ℕ} w 32 in
    keeps ∙ blank ∙ sym (cond-false (leb (length (decimal n)) w) _ _ (grind (arith, nat_tests, fits.1)))

pub length-in_columns : (w n : ℕ) → length (in_columns w n) ≡ w
length-in_columns w n = go (leb (length (decimal n)) w) refl
  where
    go : (b : Bool) → leb (length (decimal n)) w ≡ b → length (cond b (spelled w n) (replicate w 32)) ≡ w
    go true e = length-spelled_fit w n (leb-true _ _ e)
    go false e = length-replicate {A = ℕ} w 32

-- a letter, three numbers in columns of these widths, and a tail
module _ (letter u v w : ℕ) (tail : List ℕ) where
  -- the row after the first number, and after the second
  abbrev pub row_one : List ℕ → List ℕ
  row_one a = letter ∷ (a ++ (replicate v 32 ++ (replicate w 32 ++ tail)))

  abbrev pub row_two : List ℕ → List ℕ → List ℕ
  row_two a b = overwritten (suc u) v (row_one a) b

  module _ (a : List ℕ) (first : length a ≡ u) where
    pub second_blank : take v (drop (suc u) (row_one a)) ≡ replicate v 32
    second_blank = part_at (letter ∷ a) (replicate v 32) (replicate w 32 ++ tail) (suc u) v (omega arith) (length-replicate {A = ℕ} v 32)

    module _ (b : List ℕ) (second : length b ≡ v) where
      row_two_is : row_two a b ≡ ((letter ∷ a) ++ b) ++ (replicate w 32 ++ tail)
      row_two_is =
          over_at (letter ∷ a) (replicate v 32) (replicate w 32 ++ tail) b (suc u) v (omega arith) (length-replicate {A = ℕ} v 32)
          ∙ sym (append_assoc (letter ∷ a) b (replicate w 32 ++ tail))

      front_long : length ((letter ∷ a) ++ b) ≡ suc u + v
      front_long = let long = length-append (letter ∷ a) b in omega arith

      pub room_for_third : suc u + v + w ≤ length (row_two a b)
      room_for_third =
          let whole = ap length row_two_is ∙ length-append ((letter ∷ a) ++ b) (replicate w 32 ++ tail) in
          let last = length-append (replicate w 32) tail in
          let blanks = length-replicate {A = ℕ} w 32 in
          let front = front_long in
          omega arith

      pub third_blank : take w (drop (suc u + v) (row_two a b)) ≡ replicate w 32
      third_blank = ap (λ l. take w (drop (suc u + v) l)) row_two_is ∙ part_at ((letter ∷ a) ++ b) (replicate w 32) tail (suc u + v) w front_long (length-replicate {A = ℕ} w 32)

      pub row_three_is : (d : List ℕ) → overwritten (suc u + v) w (row_two a b) d ≡ letter ∷ (a ++ (b ++ (d ++ tail)))
      row_three_is d =
          ap (λ l. overwritten (suc u + v) w l d) row_two_is ∙ over_at ((letter ∷ a) ++ b) (replicate w 32) tail d (suc u + v) w front_long (length-replicate {A = ℕ} w 32)
          ∙ append_assoc (letter ∷ a) b (d ++ tail)

-- the layer's letter, written last
pub layer_written : (a b d : List ℕ) (x : ℕ) → length a ≡ 4 → length b ≡ 5 → length d ≡ 4 → set (82 ∷ (a ++ (b ++ (d ++ (32 ∷ 32 ∷ 10 ∷ []))))) 15 x ≡ 82 ∷ (a ++ (b ++ (d ++ (32 ∷ x ∷ 10 ∷ []))))
layer_written a b d x four five four' =
    let front = 82 ∷ (a ++ (b ++ (d ++ (32 ∷ [])))) in
    let first = length-append a (b ++ (d ++ (32 ∷ []))) in
    let second = length-append b (d ++ (32 ∷ [])) in
    let third = length-append d (32 ∷ []) in
    let split : (ys : List ℕ) → front ++ ys ≡ 82 ∷ (a ++ (b ++ (d ++ (32 ∷ ys)))) = λ ys. ap (λ l. 82 ∷ l) (append_assoc a _ ys ∙ ap (λ l. a ++ l) (append_assoc b _ ys ∙ ap (λ l. b ++ l) (append_assoc d _ ys))) in
    ap (λ l. set l 15 x) (sym (split (32 ∷ 10 ∷ []))) ∙ set_at front 32 (10 ∷ []) x 15 (omega arith) ∙ split (x ∷ 10 ∷ [])
