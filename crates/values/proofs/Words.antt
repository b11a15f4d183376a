-- What the functions of words do to each of their bits, and that all bits are those of a word.
use Rattle.std.proofs.Common.{◌≡◌, Bool, true, false, not, ◌&&◌, ◌||◌, ℕ, zero, suc, ◌-◌, ◌^◌, ◌*◌, ◌<◌, ◌≤◌, min, max, ◌+◌, ◌%◌, refl, ap, sym, subst, ◌∙◌, arith, ◌==◌, bit_and, bit_or, w64, inl, inr}
use Rattle.std.specs.Prelude.{bit_xor}
use Rattle.std.specs.Int.{bit_at}
use Rattle.std.proofs.Math.Path.{fun_ext}
use Rattle.std.proofs.Math.Bridge.{le_prop}
use Rattle.std.proofs.lemmas.Nat.Bits.{bit_at_and, bit_at_or, bit_at_xor, bit_at_not, bit_at-lt, bit_at_cat_low, bit_at_cat_high, same_from_bits_below}
use Rattle.std.proofs.lemmas.Bool.{false≢true, cases_lt, cases_Bool}
use Rattle.std.proofs.Math.Nat.{pow-suc, sub_self}
use Rattle.values.specs.Systems.{differ}
use Rattle.values.specs.Lanes.{lanes, bits_of}
use Rattle.values.specs.declared.lane.Lane.{Lane}
use Rattle.values.specs.declared.lanes.Lanes.{Lanes}
use Rattle.values.proofs.Meanings.{Meant}

abbrev word : ℕ → Lanes
word n = record { 0 = n }

abbrev bits : ℕ → Lane → Bool
bits n = bits_of (word n)

-- what holds of the digits 0 and 1 holds of every digit
digits : (P : ℕ → Type 0) → P 0 → P 1 → (x : ℕ) → x < 2 → P x
digits P at_0 at_1 zero h = at_0
digits P at_0 at_1 (suc zero) h = at_1
digits P at_0 at_1 (suc (suc x)) h = absurd (omega (arith, h))

-- A function of words that makes each bit of the two bits in its place, as it makes them at each pair.
module _ (of_words : ℕ → ℕ → ℕ) (of_digits : ℕ → ℕ → ℕ) (of_bits : Bool → Bool → Bool) (each : (a b place : ℕ) → bit_at (of_words a b) place ≡ of_digits (bit_at a place) (bit_at b place)) where
  abbrev Agree : ℕ → ℕ → Type 0
  Agree x y = (of_digits x y == 1) ≡ of_bits (x == 1) (y == 1)

  bit_by_bit : Agree 0 0 → Agree 0 1 → Agree 1 0 → Agree 1 1 → (a b : ℕ) → bits (of_words a b) ≡ (λ lane. of_bits (bits a lane) (bits b lane))
  unfolding bits_of
  bit_by_bit at_00 at_01 at_10 at_11 a b = fun_ext (λ lane.
      let x = bit_at a lane.place in
      let y = bit_at b lane.place in
      let y_fits = bit_at-lt b lane.place in
      rw (each a b lane.place) (digits (λ d. Agree d y) (digits (Agree 0) at_00 at_01 y y_fits) (digits (Agree 1) at_10 at_11 y y_fits) x (bit_at-lt a lane.place)))

pub and_bits : (a b : ℕ) → bits (bit_and a b) ≡ lanes.and (bits a) (bits b)
and_bits = bit_by_bit bit_and min ◌&&◌ bit_at_and refl refl refl refl

pub or_bits : (a b : ℕ) → bits (bit_or a b) ≡ lanes.or (bits a) (bits b)
or_bits = bit_by_bit bit_or max ◌||◌ bit_at_or refl refl refl refl

pub xor_bits : (a b : ℕ) → bits (bit_xor a b) ≡ lanes.xor (bits a) (bits b)
xor_bits = bit_by_bit bit_xor (λ x y. (x + y) % 2) differ bit_at_xor refl refl refl refl

pub not_bits : (a : ℕ) → a < 2 ^ 64 → bits (2 ^ 64 - 1 - a) ≡ lanes.not (bits a)
unfolding bits_of
not_bits a h = fun_ext (λ lane. rw (bit_at_not w64 a lane.place h lane.in_word) (digits (λ x. (1 - x == 1) ≡ not (x == 1)) refl refl (bit_at a lane.place) (bit_at-lt a lane.place)))

same_digit : (x y : ℕ) → x < 2 → y < 2 → (x == 1) ≡ (y == 1) → x ≡ y
same_digit x y hx hy = digits (λ x. (x == 1) ≡ (y == 1) → x ≡ y) (digits (λ y. false ≡ (y == 1) → 0 ≡ y) (λ _. refl) (λ e. absurd (false≢true e)) y hy) (digits (λ y. true ≡ (y == 1) → 1 ≡ y) (λ e. absurd (false≢true (sym e))) (λ _. refl) y hy) x hx

-- words with the same bits are equal
pub same_word : (a b : ℕ) → a < 2 ^ 64 → b < 2 ^ 64 → bits a ≡ bits b → a ≡ b
unfolding bits_of
same_word a b ha hb e = same_from_bits_below 64 a b ha hb (λ place h. same_digit (bit_at a place) (bit_at b place) (bit_at-lt a place) (bit_at-lt b place) (ap (λ f. f (record { place = place; in_word = h })) e))

-- a number with the wanted bits in the lowest n lanes
record Built (wanted : Lane → Bool) (n : ℕ) : Type 0 where
  number : ℕ
  fits : number < 2 ^ n
  has : (lane : Lane) → lane.place < n → bits number lane ≡ wanted lane

-- lanes in one place are one lane
pub same_lane : (wanted : Lane → Bool) (a b : Lane) → a.place ≡ b.place → wanted a ≡ wanted b
same_lane wanted a b e = subst (λ n. (h : n < 64) → wanted a ≡ wanted (record { place = n; in_word = h })) e (λ h. ap (λ k. wanted (record { place = a.place; in_word = k })) (le_prop a.in_word h)) b.in_word

-- the bit of one lane more, as the highest digit
module _ (wanted : Lane → Bool) (top : Lane) (lower : Built wanted top.place) where
  with_top : (digit : ℕ) → digit < 2 → (digit == 1) ≡ wanted top → Built wanted (suc top.place)
  unfolding bits_of
  with_top digit small is =
      let n = top.place in
      let low = lower.number in
      record {
        number = digit * 2 ^ n + low;
        fits = rw (pow-suc 2 n) (digits (λ d. d * 2 ^ n + low < 2 ^ n * 2) (omega (arith, lower.fits)) (omega (arith, lower.fits)) digit small);
        has = λ lane below. elim (cases_lt lane.place n) [
          | inl under ↦ rw (bit_at_cat_low digit n low lane.place under) (lower.has lane under)
          | inr not_under ↦
              let at_top : lane.place ≡ n = omega (arith, below, not_under) in
              let lowest : bit_at digit (lane.place - n) ≡ digit = rw (at_top, sub_self n) (digits (λ d. bit_at d 0 ≡ d) refl refl digit small) in
              rw (bit_at_cat_high digit n low lane.place lower.fits not_under, lowest) (is ∙ same_lane wanted top lane (sym at_top))
        ];
      }

built : (wanted : Lane → Bool) (n : ℕ) → n ≤ 64 → Built wanted n
built wanted zero h = record { number = 0; fits = omega arith; has = λ lane below. absurd (omega (arith, below)) }
built wanted (suc n) h =
    let top : Lane = record { place = n; in_word = h } in
    let lower = built wanted n (omega (arith, h)) in
    elim (cases_Bool (wanted top)) [
      | inl is_1 ↦ with_top wanted top lower 1 (omega arith) (sym is_1)
      | inr is_0 ↦ with_top wanted top lower 0 (omega arith) (sym is_0)
    ]

-- whatever the bits, some word has them
pub every_word : (wanted : Lane → Bool) → Meant bits_of wanted
every_word wanted = let b = built wanted 64 (omega arith) in record { value = word b.number; is = fun_ext (λ lane. b.has lane lane.in_word) }
