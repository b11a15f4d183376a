-- The first of a list of tests that a record fails.
use Rattle.std.proofs.Common.{◌≡◌, ℕ, zero, suc, ◌+◌, ◌*◌, ◌<◌, ◌≤◌, List, [], ◌∷◌, ◌++◌, get_or, refl, subst, inl, inr, ⊎_elim, arith}
use Rattle.std.specs.List.{AllByRecursion}
use Rattle.std.proofs.ByRecursion.{All-append}
use Rattle.std.proofs.lemmas.Bool.{cases_lt}
use Rattle.deck.specs.Records.{Failed, Refuted, ReadsShown}
use Rattle.deck.specs.Tests.{Test, Passes, FirstFailed, Shows, reads_tests, number_tests, line_tests}
use Rattle.deck.specs.declared.fault.Fault.{Fault}

pub first_left : (r : List ℕ) (xs ys : List Test) (t : Test) → FirstFailed r xs t → FirstFailed r (xs ++ ys) t
first_left r [] ys t f = absurd f
first_left r (x ∷ xs) ys t f = ⊎_elim (λ here. inl here) (λ later. inr (later.0, first_left r xs ys t later.1)) f

pub first_right : (r : List ℕ) (xs ys : List Test) (t : Test) → AllByRecursion (Passes r) xs → FirstFailed r ys t → FirstFailed r (xs ++ ys) t
first_right r [] ys t pass f = f
first_right r (x ∷ xs) ys t pass f = inr (pass.0, first_right r xs ys t pass.1 f)

pub failed_left : (r : List ℕ) (at : ℕ) (xs ys : List Test) (f : Fault) → Failed r at xs f → Failed r at (xs ++ ys) f
failed_left r at xs ys f bad = record { test = bad.test; first = first_left r xs ys bad.test bad.first; is = bad.is }

pub failed_right : (r : List ℕ) (at : ℕ) (xs ys : List Test) (f : Fault) → AllByRecursion (Passes r) xs → Failed r at ys f → Failed r at (xs ++ ys) f
failed_right r at xs ys f pass bad = record { test = bad.test; first = first_right r xs ys bad.test pass bad.first; is = bad.is }

pub failed_one : (r : List ℕ) (at : ℕ) (t : Test) (ts : List Test) (f : Fault) → Refuted r at t f → Failed r at (t ∷ ts) f
failed_one r at t ts f bad = record { test = t; first = inl (refl, bad.fails); is = bad.is }

pub failed_after : (r : List ℕ) (at : ℕ) (t : Test) (ts : List Test) (f : Fault) → Passes r t → Failed r at ts f → Failed r at (t ∷ ts) f
failed_after r at t ts f pass bad = failed_right r at (t ∷ []) ts f (pass, tt) bad

pub number_pass : (r : List ℕ) (column width least most n : ℕ) → Shows r column width n → (least ≤ n) × (n ≤ most) → AllByRecursion (Passes r) (number_tests column width least most)
number_pass r column width least most n shown within = ((n, shown), ((n, shown, within.0, within.1), tt))

pub line_pass : (r : List ℕ) (column width n : ℕ) → Shows r column width n → AllByRecursion (Passes r) (line_tests column width n)
line_pass r column width n shown = ((n, shown), (shown, tt))

-- the lines that a gate reads pass their tests, or the first that does not gives the fault
pub reads_pass : (r : List ℕ) (lines count : ℕ) (ns : List ℕ) → ReadsShown r lines count ns → AllByRecursion (Passes r) (reads_tests lines count)
reads_pass r lines zero ns shown = tt
reads_pass r lines (suc k) ns shown =
    let here = shown k (omega arith) in
    All-append (Passes r) (reads_tests lines k) _ (reads_pass r lines k ns (λ i below. shown i (omega arith)))
    (number_pass r (15 + 4 * k) 4 1 lines (get_or ns k 0) here.0 (here.1, here.2))

pub reads_failed : (r : List ℕ) (at lines place count : ℕ) (f : Fault) → place < count → AllByRecursion (Passes r) (reads_tests lines place) → Failed r at (number_tests (15 + 4 * place) 4 1 lines) f → Failed r at (reads_tests lines count) f
reads_failed r at lines place zero f below pass bad = absurd (omega arith)
reads_failed r at lines place (suc k) f below pass bad =
    ⊎_elim (λ earlier. failed_left r at (reads_tests lines k) _ f (reads_failed r at lines place k f earlier pass bad))
    (λ here. let same : place ≡ k = omega arith in subst (λ j. Failed r at (reads_tests lines (suc j)) f) same (failed_right r at (reads_tests lines place) _ f pass bad))
    (cases_lt place k)
