-- Lists of changes, computed where it can be told whether a line is stable.
use Rattle.std.proofs.Common.{◌≡◌, ℕ, zero, suc, ◌+◌, ◌<◌, Bool, false, cond, List, [], ◌∷◌, subst, ⊎_elim, arith}
use Rattle.std.specs.Prelude.{Decides}
use Rattle.std.proofs.lemmas.Bool.{cases_Bool, cases_eq}
use Rattle.std.proofs.lemmas.Bool.Decides.{not_from_Decides}
use Rattle.semantics.specs.Changes.{Changes}
use Rattle.semantics.specs.Changes.Changes.{none, next}

module _ (quiet : ℕ → Bool) where
  -- of the first so many ticks from one on those at which the test fails
  abbrev pub listed : ℕ → ℕ → List ℕ
  listed zero from = []
  listed (suc k) from = cond (quiet from) (listed k (suc from)) (from ∷ listed k (suc from))

module _ {Stable : ℕ → Type 0} where
  -- a list that begins one tick earlier, where the line is stable
  begun : {to : ℕ} {ts : List ℕ} (from : ℕ) → Stable from → Changes Stable to (suc from) ts → Changes Stable to from ts
  begun {to = to} from still (none steady) = none (λ t t_from t_to. ⊎_elim (λ same. subst Stable same still) (λ other. steady t (omega (arith, other)) t_to) (cases_eq from t))
  begun from still (next t_from t_to first changes rest) =
      next (omega arith) t_to (λ u u_from u_to. ⊎_elim (λ same. subst Stable same still) (λ other. first u (omega (arith, other)) u_to) (cases_eq from u)) changes rest

module _ (Stable : ℕ → Type 0) (quiet : ℕ → Bool) (tells : (t : ℕ) → Decides (quiet t) (Stable t)) where
  pub loud : (t : ℕ) → quiet t ≡ false → Stable t → ⊥
  loud t is = not_from_Decides (quiet t) (tells t) is

  one_earlier : (to from : ℕ) (ts : List ℕ) → from < to → Changes Stable to (suc from) ts → Changes Stable to from (cond (quiet from) ts (from ∷ ts))
  one_earlier to from ts before rest =
      ⊎_elim (λ is. rw is (begun from ((tells from).0 is) rest)) (λ is. rw is (next {from = from} {t = from} (omega arith) before (λ t t_from t_to. absurd (omega arith)) (loud from is) rest)) (cases_Bool (quiet from))

  pub listed_changes : (k from : ℕ) → Changes Stable (from + k) from (listed quiet k from)
  listed_changes zero from = none (λ t t_from t_to. absurd (omega arith))
  listed_changes (suc k) from =
      let same : suc from + k ≡ from + suc k = omega arith in
      one_earlier (from + suc k) from (listed quiet k (suc from)) (omega arith) (subst (λ to. Changes Stable to (suc from) (listed quiet k (suc from))) same (listed_changes k (suc from)))
