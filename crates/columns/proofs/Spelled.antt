-- Spellings in columns: how long they are, what bytes they have, and that no two numbers share one.
use Rattle.std.proofs.Common.{◌≡◌, ℕ, zero, suc, ◌-◌, ◌^◌, ◌<◌, ◌≤◌, List, [], ◌++◌, length, get_or, drop, replicate, decimal, Result, Ok, Err, sym, refl, ap, ◌∙◌, append-nil, arith, length-append}
use lib.ListN.{length-replicate}
use Rattle.std.specs.Int.{IsInRange}
use Rattle.std.specs.List.{AllByRecursion}
use Rattle.std.proofs.lemmas.Fmt.{decimal_is_IsNumeral, decimal_nonempty, decimal_injective, length-decimal-le}
use Rattle.std.proofs.lemmas.Str.Parse.{digit_at}
use Rattle.std.proofs.ByRecursion.{All-append, All-from_get_or}
use Rattle.std.proofs.lemmas.List.{get_or-replicate}
use Rattle.columns.specs.Spelling.{spelled, Means}
use Rattle.columns.specs.declared.FieldError.{FieldError}
use Rattle.columns.specs.declared.FieldError.TheVariants.{Blank, Unreadable}

-- the bytes after the blanks do not depend on how many blanks there are said to be
pub after_blanks_same : (j k : ℕ) (xs ys : List ℕ) → (get_or xs 0 0 ≡ 32 → ⊥) → (get_or ys 0 0 ≡ 32 → ⊥) → replicate j 32 ++ xs ≡ replicate k 32 ++ ys → xs ≡ ys
after_blanks_same zero zero xs ys p q e = e
after_blanks_same zero (suc k) xs ys p q e = absurd (p (ap (λ l. get_or l 0 0) e))
after_blanks_same (suc j) zero xs ys p q e = absurd (q (sym (ap (λ l. get_or l 0 0) e)))
after_blanks_same (suc j) (suc k) xs ys p q e = after_blanks_same j k xs ys p q (ap (drop 1) e)

pub digit_decimal : (n i : ℕ) → n < 2 ^ 64 → i < length (decimal n) → IsInRange 48 57 (get_or (decimal n) i 0)
digit_decimal n i small h = digit_at (decimal n) i (decimal_is_IsNumeral n small).0.1 h

pub decimal_no_blank : (n : ℕ) → n < 2 ^ 64 → get_or (decimal n) 0 0 ≡ 32 → ⊥
decimal_no_blank n small e = omega (arith, digit_decimal n 0 small (decimal_nonempty n small))

pub spelled_injective : (w m n : ℕ) → m < 2 ^ 64 → n < 2 ^ 64 → spelled w m ≡ spelled w n → m ≡ n
spelled_injective w m n p q e = decimal_injective m n p q (after_blanks_same _ _ (decimal m) (decimal n) (decimal_no_blank m p) (decimal_no_blank n q) e)

pub length-spelled_fit : (w n : ℕ) → length (decimal n) ≤ w → length (spelled w n) ≡ w
length-spelled_fit w n h = simp (length-append, length-replicate) (omega arith)

pub length-spelled : (w n : ℕ) → n < 10 ^ w → 0 < w → n < 2 ^ 64 → length (spelled w n) ≡ w
length-spelled w n fits some small = length-spelled_fit w n (length-decimal-le w n some fits small)

pub spelled_no_newline : (w n : ℕ) → n < 2 ^ 64 → AllByRecursion (λ b. b ≡ 10 → ⊥) (spelled w n)
spelled_no_newline w n small =
    All-append (λ b. b ≡ 10 → ⊥) (replicate (w - length (decimal n)) 32) (decimal n)
    (All-from_get_or (λ b. b ≡ 10 → ⊥) _ 0 (λ i h e. omega (arith, get_or-replicate {A = ℕ} (w - length (decimal n)) i 32 0 (simp length-replicate at h))))
    (All-from_get_or (λ b. b ≡ 10 → ⊥) _ 0 (λ i h e. omega (arith, digit_decimal n i small h)))

spelled_or_blank : (text : List ℕ) (n : ℕ) → Means text (Ok n) → Means text (Err Blank) → ⊥
spelled_or_blank text n p b =
    let none : decimal n ≡ [] = after_blanks_same _ (length text) (decimal n) [] (decimal_no_blank n p.0) (λ z. omega arith) (sym p.1 ∙ b ∙ sym (append-nil _)) in
    omega (arith, decimal_nonempty n p.0, ap length none)

-- a text has one meaning
pub means_one : (text : List ℕ) (f g : Result ℕ FieldError) → Means text f → Means text g → f ≡ g
means_one text (Ok m) (Ok n) p q = ap Ok (spelled_injective (length text) m n p.0 q.0 (sym p.1 ∙ q.1))
means_one text (Ok m) (Err Blank) p q = absurd (spelled_or_blank text m p q)
means_one text (Ok m) (Err Unreadable) p q = absurd (q.0 m p.0 p.1)
means_one text (Err Blank) (Ok n) p q = absurd (spelled_or_blank text n q p)
means_one text (Err Blank) (Err Blank) p q = refl
means_one text (Err Blank) (Err Unreadable) p q = absurd (q.1 p)
means_one text (Err Unreadable) (Ok n) p q = absurd (p.0 n q.0 q.1)
means_one text (Err Unreadable) (Err Blank) p q = absurd (p.1 q)
means_one text (Err Unreadable) (Err Unreadable) p q = refl
