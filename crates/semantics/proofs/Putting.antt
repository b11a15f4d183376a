-- A function of lines with another answer for one line.
use Rattle.std.proofs.Common.{◌≡◌, ℕ, ◌≤◌, cond, refl, ap, sym, subst, ⊎_elim, arith}
use Rattle.std.proofs.lemmas.Bool.{cases_eq, eq-eqb, ne_eqb}
use Rattle.semantics.specs.Moves.{put}

pub put_here : {X : Type 0} (f : ℕ → X) (n : ℕ) (x : X) → put f n x n ≡ x
put_here f n x = ap (λ b. cond b x (f n)) (eq-eqb n n refl)

pub put_there : {X : Type 0} (f : ℕ → X) (n : ℕ) (x : X) (m : ℕ) → (m ≡ n → ⊥) → put f n x m ≡ f m
put_there f n x m other = ap (λ b. cond b x (f m)) (ne_eqb m n other)

-- what holds of the new answer and of the old ones holds of each
pub put_where : {X : Type 0} (P : X → Type 0) (f : ℕ → X) (n : ℕ) (x : X) (m : ℕ) → P x → P (f m) → P (put f n x m)
put_where P f n x m new old =
    ⊎_elim (λ same. subst (λ k. P (put f n x k)) (sym same) (subst P (sym (put_here f n x)) new)) (λ other. subst P (sym (put_there f n x m other)) old) (cases_eq m n)

pub put_grows : (f : ℕ → ℕ) (n x : ℕ) → f n ≤ x → (m : ℕ) → f m ≤ put f n x m
put_grows f n x more m =
    ⊎_elim (λ same. subst (λ k. f k ≤ put f n x k) (sym same) (subst (λ y. f n ≤ y) (sym (put_here f n x)) more))
    (λ other. subst (λ y. f m ≤ y) (sym (put_there f n x m other)) (omega arith)) (cases_eq m n)
