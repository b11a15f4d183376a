-- Evidence that is found by computing, where there is some.
use Rattle.std.proofs.Common.{◌≡◌, ℕ, zero, suc, Bool, true, false, eqb, Option, Some, None, refl, subst}
use Rattle.std.specs.Prelude.{is_some}
use Rattle.std.proofs.lemmas.Bool.{eqb-true}

pub found : {A : Type 0} (o : Option A) → is_some o ≡ true → A
found None is = cc
found (Some x) is = x

-- a test that is passed
abbrev pub passed : (b : Bool) → Option (b ≡ true)
passed true = Some refl
passed false = None

abbrev pub and_then : {A B : Type 0} → Option A → (A → Option B) → Option B
and_then None f = None
and_then (Some x) f = f x

abbrev pub or_else : {A : Type 0} → Option A → Option A → Option A
or_else None other = other
or_else (Some x) other = Some x

-- what is found of a number, where it is another's
abbrev pub at : (F : ℕ → Type 0) (number other : ℕ) → Option (F number) → Option (F other)
at F number other o = and_then (passed (eqb number other)) (λ same. and_then o (λ it. Some (subst F (eqb-true number other same) it)))

-- what is found of some number from 1 to one
abbrev pub up_to : {A : Type 0} → (ℕ → Option A) → ℕ → Option A
up_to f zero = None
up_to f (suc n) = or_else (f (suc n)) (up_to f n)
