-- Which bytes are the decimal of a number.
use Rattle.std.proofs.Common.{◌≡◌, ℕ, ◌^◌, ◌<◌, ◌≤◌, List, length, get_or, Option, Some, None, decimal, sym, ap, ◌∙◌, subst, arith, MatchOption}
use Rattle.std.specs.Option.{SomeIff}
use Rattle.std.specs.Str.Parse.{AllDigits, digits_value}
use Rattle.std.proofs.lemmas.Fmt.{decimal_is_IsNumeral, decimal_nonempty, decimal_digit, decimal-digits_value, first_decimal}
use Rattle.std.proofs.lemmas.Str.Parse.{numerals_by_value, tells_digits}
use Rattle.columns.proofs.Spelled.{digit_decimal}

-- a first byte and a length as a decimal has them: a digit, and 0 only where it stands alone
pub record Leads (ds : List ℕ) : Type 0 where
  pub some : 0 < length ds
  pub least : 48 ≤ get_or ds 0 0
  pub most : get_or ds 0 0 < 58
  pub alone : get_or ds 0 0 ≡ 48 → length ds < 2

leads : (n : ℕ) → n < 2 ^ 64 → Leads (decimal n)
leads n small =
    let some = decimal_nonempty n small in
    let digit = digit_decimal n 0 small some in
    record {
      some = some;
      least = omega arith;
      most = omega arith;
      alone = λ first. grind (arith, first_decimal n, ap length (decimal_digit 0 (omega arith)));
    }

-- bytes with another first byte or length are no decimal
pub no_number : (ds : List ℕ) → (Leads ds → ⊥) → (n : ℕ) → n < 2 ^ 64 → ds ≡ decimal n → ⊥
no_number ds other n small is = other (subst Leads (sym is) (leads n small))

-- of the others the value of the digits tells which are one
pub by_value : (ds : List ℕ) (r : Option ℕ) → Leads ds → SomeIff r (AllDigits 10 ds × (digits_value 10 ds < 2 ^ 64)) (digits_value 10 ds) → MatchOption r ((n : ℕ) → n < 2 ^ 64 → ds ≡ decimal n → ⊥) (λ n. (n < 2 ^ 64) × (ds ≡ decimal n))
by_value ds (Some x) lead h =
    (omega (arith, h.0.1, h.1), sym (ap decimal h.1 ∙ decimal-digits_value (numerals_by_value _ tells_digits) ds h.0.0 lead.some (λ first. omega (arith, lead.alone first, lead.some)) h.0.1))
by_value ds None lead h = λ n small is. h (subst (AllDigits 10) (sym is) (decimal_is_IsNumeral n small).0.1, omega (arith, ap (digits_value 10) is, (decimal_is_IsNumeral n small).1))
