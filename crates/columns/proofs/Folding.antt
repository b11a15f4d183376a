-- One turn of the loop over the digits of a number.
use Rattle.std.proofs.Common.{◌≡◌, ℕ, ◌+◌, ◌-◌, ◌*◌, ◌^◌, ◌<◌, ◌≤◌, List, [], ◌∷◌, length, get_or, take, drop, sym, ap, ◌∙◌, subst, arith}
use Rattle.std.specs.Str.Parse.{AllDigits, digits_value, digits_value_after}
use Rattle.std.specs.Int.{IsInRange}
use Rattle.std.specs.Char.{digit_value}
use Rattle.std.proofs.lemmas.Int.Digits.{digits_more}
use Rattle.std.proofs.lemmas.List.{drop_more, drop_all, take_all}
use Rattle.std.proofs.lemmas.Bool.Decides.{nat_tests}

digit_value_is : (c : ℕ) → IsInRange 48 57 c → digit_value c ≡ c - 48
digit_value_is c h = grind (arith, nat_tests)

value_grows : (n : ℕ) (ds : List ℕ) → n ≤ digits_value_after 10 n ds
value_grows n [] = omega arith
value_grows n (c ∷ cs) = omega (arith, value_grows (n * 10 + digit_value c) cs)

-- the first i bytes are digits, and the others after `total`, a number of 64 bits, give the value of all
pub record Folded (ds : List ℕ) (i total : ℕ) : Type 0 where
  pub digits : AllDigits 10 (take i ds)
  pub rest : digits_value_after 10 total (drop i ds) ≡ digits_value 10 ds
  pub fits : total < 2 ^ 64

module _ (ds : List ℕ) (i total : ℕ) (h : i < length ds) (d : IsInRange 48 57 (get_or ds i 0)) (so : Folded ds i total) where
  next : digits_value_after 10 (total * 10 + (get_or ds i 0 - 48)) (drop (i + 1) ds) ≡ digits_value 10 ds
  next =
      ap (λ x. digits_value_after 10 (total * 10 + x) (drop (i + 1) ds)) (sym (digit_value_is (get_or ds i 0) d))
      ∙ sym (ap (digits_value_after 10 total) (drop_more ds i 0 h))
      ∙ so.rest

  pub folded_more : (m : ℕ) → m ≡ total * 10 + (get_or ds i 0 - 48) → m < 2 ^ 64 → Folded ds (i + 1) m
  folded_more m is fits = record {
    digits = digits_more 10 ds i h so.digits (omega (arith, digit_value_is (get_or ds i 0) d));
    rest = ap (λ x. digits_value_after 10 x (drop (i + 1) ds)) is ∙ next;
    fits = fits;
  }

  -- what is read so far is no more than the whole
  pub folded_within : total * 10 + (get_or ds i 0 - 48) ≤ digits_value 10 ds
  folded_within = omega (arith, next, value_grows (total * 10 + (get_or ds i 0 - 48)) (drop (i + 1) ds))

pub folded_all : (ds : List ℕ) (i total : ℕ) → length ds ≤ i → Folded ds i total → (AllDigits 10 ds × (digits_value 10 ds < 2 ^ 64)) × (total ≡ digits_value 10 ds)
folded_all ds i total h so =
    let same : total ≡ digits_value 10 ds = sym (ap (digits_value_after 10 total) (drop_all i ds h)) ∙ so.rest in
    ((subst (AllDigits 10) (take_all i ds h) so.digits, omega (arith, so.fits)), same)
