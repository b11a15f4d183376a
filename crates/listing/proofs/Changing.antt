-- What a session answers of a line, and the rows that are made of it.
use Rattle.std.proofs.Common.{◌≡◌, ℕ, ◌+◌, ◌^◌, ◌<◌, List, [], ◌∷◌, ◌++◌, length, take, drop, take-append-drop, get_or, Ok, Err, sym, refl, ap, ◌∙◌, arith, append_assoc, append-nil}
use mathlib.Core.Path.{ap₂}
use Rattle.std.proofs.lemmas.Grind.{flat_map-append}
use Rattle.std.proofs.lemmas.List.{take_more}
use Rattle.std.proofs.lemmas.Option.{get_or_from_slice_get}
use Rattle.engine.specs.Answers.{Eventful, Stated}
use Rattle.semantics.specs.Accounts.{Account, settled, value, Stable}
use Rattle.semantics.specs.Changes.{AtMost}
use Rattle.semantics.specs.Distances.{Distance}
use Rattle.semantics.specs.Machines.{Machine, IsLine}
use Rattle.semantics.proofs.Listing.{one_list}
use Rattle.values.specs.declared.ternary.Ternary.{Ternary}
use Rattle.listing.specs.Listers.{Contents}
use Rattle.listing.specs.Listings.{change_rows, LineRows}
use Rattle.listing.specs.Rows.{line_row, change_row}

module _ (s : Machine Ternary) (a : Account Ternary) (n : ℕ) (ticks : List ℕ) (count k : ℕ) (contents : Contents s a n ticks count) (within : k < count) where
  -- the change of this number adds its row to those before
  pub event_row : (tick : ℕ) (v : Ternary) → Eventful s a n k (Ok (tick, v)) → change_rows s a n (take (k + 1) ticks) ≡ change_rows s a n (take k ticks) ++ change_row tick v
  event_row t _ (Eventful.told {ticks = us} line kept at) =
      let same : us ≡ ticks = one_list kept contents.kept in
      let here : get_or ticks k 0 ≡ t = ap (λ l. get_or l k 0) (sym same) ∙ get_or_from_slice_get us k t 0 at in
      let more : take (k + 1) ticks ≡ take k ticks ++ (t ∷ []) = take_more ticks k 0 (omega (arith, contents.so_many)) ∙ ap (λ u. take k ticks ++ (u ∷ [])) here in
      ap (change_rows s a n) more ∙ flat_map-append (λ u. change_row u (value s a n u)) (take k ticks) (t ∷ []) ∙ ap (λ l. change_rows s a n (take k ticks) ++ l) (append-nil (change_row t (value s a n t)))

  -- and those after it
  pub rows_split : (tick : ℕ) (v : Ternary) → Eventful s a n k (Ok (tick, v)) → change_rows s a n ticks ≡ change_rows s a n (take k ticks) ++ (change_row tick v ++ change_rows s a n (drop (k + 1) ticks))
  rows_split t v eventful =
      ap (change_rows s a n) (sym (take-append-drop (k + 1) ticks)) ∙ flat_map-append (λ u. change_row u (value s a n u)) (take (k + 1) ticks) (drop (k + 1) ticks)
      ∙ ap (λ l. l ++ change_rows s a n (drop (k + 1) ticks)) (event_row t v eventful)
      ∙ append_assoc (change_rows s a n (take k ticks)) (change_row t v) (change_rows s a n (drop (k + 1) ticks))

  -- there is such a change
  pub event_there : (number : ℕ) → Eventful s a n k (Err number) → ⊥
  event_there _ (Eventful.no_line none) = none contents.a_line
  event_there _ (Eventful.none_such {ticks = us} line kept few) = let same = ap length (one_list kept contents.kept) in omega (arith, contents.so_many)

module _ (s : Machine Ternary) (a : Account Ternary) (n : ℕ) where
  -- what a line's state tells
  pub record State (to kept : ℕ) : Type 0 where
    pub ticks : List ℕ
    pub contents : Contents s a n ticks kept
    pub settled_to : to ≡ settled s.topology a n

  pub state_told : (to kept : ℕ) → Stated s a n (Ok (to, kept)) → IsLine s.topology n → State to kept
  state_told _ _ (Stated.told {ticks = ticks} line kept) a_line = record { ticks = ticks; contents = record { a_line = a_line; kept = kept; so_many = refl }; settled_to = refl }

  pub state_there : (number : ℕ) → Stated s a n (Err number) → IsLine s.topology n → ⊥
  state_there _ (Stated.no_line none) a_line = none a_line

  -- the rows of a line, by what its state tells
  pub rows_are : (to kept : ℕ) (state : State to kept) (rows : List ℕ) → LineRows s a n rows → rows ≡ line_row n to kept ++ change_rows s a n state.ticks
  rows_are to kept state rows is =
      let ticks : is.ticks ≡ state.ticks = one_list is.kept state.contents.kept in
      is.are ∙ ap₂ (λ x k. line_row n x k ++ change_rows s a n is.ticks) (sym state.settled_to) (ap length ticks ∙ state.contents.so_many) ∙ ap (λ ts. line_row n to kept ++ change_rows s a n ts) ticks

  -- a line has rows, if its changes are few
  pub some_rows : Distance s a n (settled s.topology a n) → n < 10 ^ 4 → settled s.topology a n < 10 ^ 10 → AtMost s.room (Stable s a n) a.trim (settled s.topology a n) → s.room < 10 ^ 4 → (rows : List ℕ) × LineRows s a n rows
  some_rows distance narrow early fits small = (
    line_row n (settled s.topology a n) (length fits.ticks) ++ change_rows s a n fits.ticks,
    record {
      ticks = fits.ticks;
      distance = distance;
      kept = fits.changes;
      fit = (narrow, early, omega (arith, fits.few));
      are = refl;
    },
  )
