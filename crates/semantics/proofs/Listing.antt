-- Lists of changes: there is one, and how it follows the ticks that it is taken from.
use Rattle.std.proofs.Common.{◌≡◌, ◌↔◌, ℕ, suc, ◌<◌, ◌≤◌, List, [], ◌∷◌, ◌++◌, length, refl, ap, sym, subst, ⊎_elim, arith}
use mathlib.Core.Path.{ap₂}
use Rattle.std.proofs.lemmas.Bool.{cases_lt, cases_order}
use Rattle.semantics.specs.Changes.{StableOn, Changes, AtMost, Exactly}
use Rattle.semantics.specs.Changes.Changes.{none, next}

module _ {Stable : ℕ → Type 0} where
  -- the first changes of two lists are one
  same_first : {from t u : ℕ} → from ≤ t → from ≤ u → StableOn Stable from t → StableOn Stable from u → (Stable t → ⊥) → (Stable u → ⊥) → t ≡ u
  same_first {t = t} {u = u} t_from u_from t_first u_first t_changes u_changes =
      ⊎_elim (λ same. same) (⊎_elim (λ earlier. absurd (t_changes (u_first t t_from earlier))) (λ later. absurd (u_changes (t_first u u_from later)))) (cases_order t u)

  -- there is one list
  pub one_list : {to from : ℕ} {ts us : List ℕ} → Changes Stable to from ts → Changes Stable to from us → ts ≡ us
  one_list (none steady) (none steady') = refl
  one_list (none steady) (next {t = u} u_from u_to first changes rest) = absurd (changes (steady u u_from u_to))
  one_list (next {t = t} t_from t_to first changes rest) (none steady) = absurd (changes (steady t t_from t_to))
  one_list {to = to} (next {t = t} {ts = ts} t_from t_to first changes rest) (next {t = u} {ts = us} u_from u_to first' changes' rest') =
      let same : t ≡ u = same_first t_from u_from first first' changes changes' in
      let rests : ts ≡ us = one_list rest (subst (λ x. Changes Stable to (suc x) us) (sym same) rest') in
      ap₂ ◌∷◌ same rests

  -- where the list ends later, and nothing changes between
  pub onward : {to later from : ℕ} {ts : List ℕ} → to ≤ later → StableOn Stable to later → Changes Stable to from ts → Changes Stable later from ts
  onward {to = to} {later = later} {from = from} grows quiet (none steady) = none longer
    where
      longer : StableOn Stable from later
      longer t t_from t_later = ⊎_elim (λ within. steady t t_from within) (λ beyond. quiet t beyond t_later) (cases_lt t to)
  onward grows quiet (next t_from t_to first changes rest) = next t_from (omega arith) first changes (onward grows quiet rest)

  -- with one change more at the end
  pub one_more : {to from : ℕ} {ts : List ℕ} → from ≤ to → (Stable to → ⊥) → Changes Stable to from ts → Changes Stable (suc to) from (ts ++ to ∷ [])
  one_more {to = to} {from = from} reaches here (none steady) = next reaches (omega arith) steady here (none nothing_after)
    where
      nothing_after : StableOn Stable (suc to) (suc to)
      nothing_after t t_from t_to = absurd (omega arith)
  one_more reaches here (next t_from t_to first changes rest) = next t_from (omega arith) first changes (one_more t_to here rest)

-- the part of a list that ends earlier, which is shorter if the line changes there
pub record Earlier (Stable : ℕ → Type 0) (to mid from : ℕ) (ts : List ℕ) : Type 0 where
  pub ticks : List ℕ
  pub changes : Changes Stable mid from ticks
  pub fewer : length ticks ≤ length ts
  pub fewer_still : (Stable mid → ⊥) → mid < to → from ≤ mid → length ticks < length ts

-- the part of a list that begins later
pub record Later (Stable : ℕ → Type 0) (to mid : ℕ) (ts : List ℕ) : Type 0 where
  pub ticks : List ℕ
  pub changes : Changes Stable to mid ticks
  pub fewer : length ticks ≤ length ts

module _ {Stable : ℕ → Type 0} where
  module _ {from t : ℕ} {ts : List ℕ} (to mid : ℕ) (t_from : from ≤ t) (first : StableOn Stable from t) (changes : Stable t → ⊥) where
    cut_after : t < mid → Earlier Stable to mid (suc t) ts → Earlier Stable to mid from (t ∷ ts)
    cut_after inside rest = record {
      ticks = t ∷ rest.ticks;
      changes = next t_from inside first changes rest.changes;
      fewer = omega (arith, rest.fewer);
      fewer_still = λ here before_end from_mid. let shorter = rest.fewer_still here before_end inside in omega arith;
    }

    cut_before : mid ≤ t → Earlier Stable to mid from (t ∷ ts)
    cut_before beyond = record {
      ticks = [];
      changes = none (λ u u_from u_mid. first u u_from (omega arith));
      fewer = omega arith;
      fewer_still = λ here before_end from_mid. omega arith;
    }

  pub earlier : {to from : ℕ} {ts : List ℕ} (mid : ℕ) → mid ≤ to → Changes Stable to from ts → Earlier Stable to mid from ts
  earlier mid within (none steady) = record {
    ticks = [];
    changes = none (λ t t_from t_mid. steady t t_from (omega arith));
    fewer = omega arith;
    fewer_still = λ changes before from_mid. absurd (changes (steady mid from_mid before));
  }
  earlier {to = to} mid within (next {t = t} t_from t_to first changes rest) =
      ⊎_elim (λ inside. cut_after to mid t_from first changes inside (earlier mid within rest)) (λ beyond. cut_before to mid t_from first changes beyond) (cases_lt t mid)

  passed : {to t : ℕ} {ts : List ℕ} (mid : ℕ) → Later Stable to mid ts → Later Stable to mid (t ∷ ts)
  passed mid found = record { ticks = found.ticks; changes = found.changes; fewer = omega (arith, found.fewer) }

  module _ {to t : ℕ} {ts : List ℕ} (from mid : ℕ) (t_to : t < to) (first : StableOn Stable from t) (changes : Stable t → ⊥) (rest : Changes Stable to (suc t) ts) where
    kept_whole : from ≤ mid → mid ≤ t → Later Stable to mid (t ∷ ts)
    kept_whole after stays = record {
      ticks = t ∷ ts;
      changes = next stays t_to (λ u u_from u_to. first u (omega arith) u_to) changes rest;
      fewer = omega arith;
    }

  pub later : {to from : ℕ} {ts : List ℕ} (mid : ℕ) → from ≤ mid → Changes Stable to from ts → Later Stable to mid ts
  later mid after (none steady) = record { ticks = []; changes = none (λ t t_from t_to. steady t (omega arith) t_to); fewer = omega arith }
  later {from = from} mid after (next {t = t} t_from t_to first changes rest) =
      ⊎_elim (λ past. passed mid (later mid past rest)) (kept_whole from mid t_to first changes rest after) (cases_lt t mid)

-- two lines that are stable at the same ticks have the same list
pub alike : {Stable Quiet : ℕ → Type 0} {to from : ℕ} {ts : List ℕ} → ((t : ℕ) → from ≤ t → t < to → Stable t ↔ Quiet t) → Changes Stable to from ts → Changes Quiet to from ts
alike same (none steady) = none (λ t t_from t_to. (same t t_from t_to).0 (steady t t_from t_to))
alike {from = from} same (next {t = t} t_from t_to first changes rest) =
    next t_from t_to (λ u u_from u_to. (same u u_from (omega arith)).0 (first u u_from u_to)) (λ quiet. changes ((same t t_from t_to).1 quiet)) (alike (λ u u_from u_to. same u (omega arith) u_to) rest)

module _ {Stable : ℕ → Type 0} where
  -- There is no room for a change where so many are kept, if the changes beyond it fit.
  pub no_room : {room from to : ℕ} (t : ℕ) → from ≤ t → (Stable t → ⊥) → Exactly room Stable from t → t < to → AtMost room Stable from to → ⊥
  no_room t reaches changes full before fits =
      let cut = earlier t (omega arith) fits.changes in
      let same : cut.ticks ≡ full.ticks = one_list cut.changes full.changes in
      let shorter = cut.fewer_still changes before reaches in
      omega (arith, ap length same, full.count, fits.few)
