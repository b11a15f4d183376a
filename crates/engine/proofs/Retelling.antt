-- Records that tell a line's changes in one account tell them in another, and further.
use Rattle.std.proofs.Common.{◌≡◌, ℕ, zero, suc, ◌<◌, ◌≤◌, List, ◌∷◌, map, refl, ap, sym, ◌∙◌, subst, arith}
use mathlib.Core.Path.{ap₂}
use Rattle.semantics.specs.Machines.{Machine}
use Rattle.semantics.specs.Accounts.{Account, initial, before, value, Stable}
use Rattle.semantics.specs.Changes.{StableOn, Changes}
use Rattle.semantics.specs.Changes.Changes.{none, next}
use Rattle.semantics.proofs.Listing.{alike, onward}
use Rattle.semantics.proofs.Invariants.{stable_alike}
use Rattle.engine.specs.Standing.{Tells}

-- the values at some changes
same_values : {M : Type 0} {Stable : ℕ → Type 0} (v w : ℕ → M) {to from : ℕ} {ts : List ℕ} → Changes Stable to from ts → ((u : ℕ) → u < to → v u ≡ w u) → map {B = ℕ × M} (λ t. (t, v t)) ts ≡ map (λ t. (t, w t)) ts
same_values v w (none quiet) same = refl
same_values v w (next {t = t} t_from t_to first changes rest) same = ap₂ ◌∷◌ (ap (λ x. (t, x)) (same t t_to)) (same_values v w rest same)

module _ {M : Type 0} (s : Machine M) (filler : M) (n to kept : ℕ) (records : List (ℕ × M)) where
  -- in an account with the same values below the tick
  pub retell : (a b : Account M) → b.trim ≡ a.trim → a.trim ≤ to → initial s a n ≡ initial s b n → ((u : ℕ) → u < to → value s a n u ≡ value s b n u) → Tells s filler a n to kept records → Tells s filler b n to kept records
  retell a b trims reaches begin same h = record {
    ticks = h.ticks;
    changes = subst (λ t. Changes (Stable s b n) to t h.ticks) (sym trims) (alike (λ u from before. stable_alike s a b n u begin (λ w upto. same w (omega arith))) h.changes);
    count = h.count;
    shown = h.shown ∙ ap₂ ◌∷◌ (ap₂ (λ t x. (t, x)) (sym trims) (just_before a.trim reaches ∙ ap (before s b n) (sym trims))) (same_values (value s a n) (value s b n) h.changes same);
    spare = h.spare;
  }
    where
      just_before : (u : ℕ) → u ≤ to → before s a n u ≡ before s b n u
      just_before zero upto = begin
      just_before (suc u) upto = same u (omega arith)

  -- where the line is stable, further
  pub tell_on : (a : Account M) (end : ℕ) → to ≤ end → StableOn (Stable s a n) to end → Tells s filler a n to kept records → Tells s filler a n end kept records
  tell_on a end further quiet h = record { ticks = h.ticks; changes = onward further quiet h.changes; count = h.count; shown = h.shown; spare = h.spare }
