-- How the function of a gate comes of the values of the lines that it reads, one by one.
use Rattle.std.proofs.Common.{◌≡◌, ℕ, zero, suc, ◌<◌, List, [], ◌∷◌, ◌++◌, ◌-◌, length, take, drop, map, get_or, refl, ap, sym, ◌∙◌, subst, ⊎_elim, arith, Contains}
use Rattle.std.specs.Prelude.{fold}
use Rattle.std.proofs.lemmas.List.{map-append, take_all}
use Rattle.std.proofs.lemmas.List.Sums.{fold-append}
use Rattle.std.proofs.lemmas.List.Elements.{Contains-append_cases}
use Rattle.netlist.specs.declared.kind.Kind.{Kind}
use Rattle.values.specs.Systems.{System}
use Rattle.gates.specs.Functions.{combined, finished}
use Rattle.semantics.specs.Machines.{Machine}
use Rattle.semantics.specs.Accounts.{Account, value, Stable}
use Rattle.semantics.specs.Changes.{StableOn}
use Rattle.engine.specs.declared.evaluation.Look.{Look}
use Rattle.engine.specs.Looks.{Glanced, Folded, Evaluated}

only_one : (x m : ℕ) → Contains (m ∷ []) x → m ≡ x
only_one x m (zero, within, is) = is
only_one x m (suc k, within, is) = absurd (omega arith)

module _ {V M : Type 0} (meaning : V → M) (s : Machine M) (a : Account M) (system : System M) (kind : Kind) (tick : ℕ) (first : Look V) where
  pub folded_none : tick < first.until → Folded meaning s a system kind [] tick first first
  folded_none later = record { folds = refl; later = later; within = omega arith; steady = λ m none. absurd (omega (arith, none.1)) }

  pub folded_more : (reads : List ℕ) (m : ℕ) (now next : Look V) (v : V) → Folded meaning s a system kind reads tick first now → Glanced meaning s a m tick now.until next → meaning v ≡ combined system kind (meaning now.value) (meaning next.value) → Folded meaning s a system kind (reads ++ m ∷ []) tick first (record { value = v; until = next.until })
  folded_more reads m now next v before glanced is =
      let values : List M = map (λ m. value s a m tick) reads in
      record {
        folds =
            is
            ∙ (ap (λ x. combined system kind x (meaning next.value)) before.folds
            ∙ (ap (combined system kind (fold (combined system kind) (meaning first.value) values)) glanced.shown
            ∙ (sym (fold-append (combined system kind) (meaning first.value) values (value s a m tick ∷ []))
            ∙ ap (fold (combined system kind) (meaning first.value)) (sym (map-append (λ m. value s a m tick) reads (m ∷ []))))));
        later = glanced.later;
        within = let far = glanced.within in let near = before.within in omega arith;
        steady = λ x among t from below.
            ⊎_elim (λ old. let far = glanced.within in before.steady x old t from (omega arith)) (λ new. subst (λ y. Stable s a y t) (only_one x m new) (glanced.steady t from below))
            (Contains-append_cases reads (m ∷ []) x among);
      }

  pub evaluated : (m : ℕ) (reads : List ℕ) (limit : ℕ) (all : Look V) (v : V) → Glanced meaning s a m tick limit first → Folded meaning s a system kind reads tick first all → meaning v ≡ finished system kind (meaning all.value) → Evaluated meaning s a system kind (m ∷ reads) tick limit (record { value = v; until = all.until })
  evaluated m reads limit all v glanced folded is = record {
    shown = is ∙ ap (finished system kind) (folded.folds ∙ ap (λ x. fold (combined system kind) x (map (λ m. value s a m tick) reads)) glanced.shown);
    later = folded.later;
    within = let far = glanced.within in let near = folded.within in omega arith;
    steady = λ x among. each x among;
  }
    where
      each : (x : ℕ) → Contains (m ∷ reads) x → StableOn (Stable s a x) (suc tick) all.until
      each x (zero, within, is) t from below = let far = folded.within in subst (λ y. Stable s a y t) is (glanced.steady t from (omega arith))
      each x (suc k, within, is) t from below = folded.steady x (k, omega arith, is) t from below

-- a list as its first element and the others
pub first_and_rest : (xs : List ℕ) → 0 < length xs → get_or xs 0 0 ∷ take (length xs - 1) (drop 1 xs) ≡ xs
first_and_rest [] some = absurd (omega arith)
first_and_rest (x ∷ xs) some = ap (λ ys. x ∷ ys) (take_all (suc (length xs) - 1) xs (omega arith))

pub of_rest : (xs : List ℕ) (m : ℕ) → Contains (take (length xs - 1) (drop 1 xs)) m → Contains xs m
of_rest [] m among = absurd (omega (arith, among.1))
of_rest (x ∷ xs) m among = let whole : take (suc (length xs) - 1) xs ≡ xs = take_all (suc (length xs) - 1) xs (omega arith) in later (subst (λ ys. Contains ys m) whole among)
  where
    later : Contains xs m → Contains (x ∷ xs) m
    later among = (suc among.0, omega (arith, among.1), among.2)
