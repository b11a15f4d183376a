-- What a layer passes on: the fault that it got, or its own in place of an error.
use Rattle.std.proofs.Common.{◌≡◌, IsErrAnd, Result, Ok, Err, sym, subst, MatchResult}
use Rattle.std.specs.Result.{result_or}
use Rattle.std.proofs.lemmas.Result.{err_from_is_err_and}

pub carried : {T E : Type 0} (r : Result T E) (f : E) (P : T → Type 0) (Q : E → Type 0) → IsErrAnd r (λ y. y ≡ f) → Q f → MatchResult r P Q
carried r f P Q by q =
    let out = err_from_is_err_and r by in
    subst (λ x. MatchResult x P Q) (sym out.1) (subst Q (sym out.2) q)

pub replaced : {T E F : Type 0} (got : Result T E) (f : F) (given : Result T F) (P : T → Type 0) (Q : F → Type 0) → given ≡ result_or got (Err f) → MatchResult got P (λ _. Q f) → MatchResult given P Q
replaced (Ok x) f given P Q is m = subst (λ r. MatchResult r P Q) (sym is) m
replaced (Err e) f given P Q is m = subst (λ r. MatchResult r P Q) (sym is) m
