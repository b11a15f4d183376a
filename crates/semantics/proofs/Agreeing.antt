-- Alike accounts at rest agree, since a distance hangs on nothing but what they are alike in.
use Rattle.std.proofs.Common.{◌≡◌, ◌↔◌, ℕ, ◌+◌, ◌<◌, ◌≤◌, List, sym, subst, arith}
use Rattle.semantics.specs.Machines.{Machine, IsInput, IsLine}
use Rattle.semantics.specs.Changes.{Changes}
use Rattle.semantics.specs.Accounts.{Account, settled, initial, value, Stable, KeptChanges}
use Rattle.semantics.specs.Moves.{Rest}
use Rattle.semantics.specs.Distances.{Path, LimitedPath, Overfull}
use Rattle.semantics.specs.Comparisons.{Alike, Agree}
use Rattle.semantics.proofs.Goals.{settled_input}
use Rattle.semantics.proofs.Listing.{alike}
use Rattle.semantics.proofs.Locality.{Horizon, Local, Sound}
use Rattle.semantics.proofs.Invariants.{Invariant, settled_horizon, stable_alike}
use Rattle.semantics.proofs.Settling.{settled_is_distance}

module _ {M : Type 0} (s : Machine M) where
  alike_back : (a b : Account M) → Alike s a b → Alike s b a
  alike_back a b same = record {
    starts = λ n an_input. sym (same.starts n an_input);
    ends = λ n an_input. sym (same.ends n an_input);
    waveforms = λ n t an_input within. let e = same.ends n an_input in sym (same.waveforms n t an_input (omega arith));
    trims = sym same.trims;
  }

  -- the ticks below all paths are a horizon
  Below : Account M → ℕ → ℕ → Type 0
  Below a n t = (far : ℕ) → Path s a n far → t < far

  below_horizon : (a : Account M) → Horizon s.topology (Below a)
  unfolding Below
  below_horizon a = record {
    down = λ n t within far path. let w = within far path in omega arith;
    back = λ n m t a_gate read within far path. let w = within (far + s.topology.lag n) (Path.through a_gate read path) in omega arith;
  }

  module _ (sound : Sound s.topology) (local : Local s.topology s.rule) where
    module _ (a b : Account M) (same : Alike s a b) where
      -- alike accounts have equal values wherever a horizon keeps within the ends
      equal_within : (Within : ℕ → ℕ → Type 0) → Horizon s.topology Within → ((n t : ℕ) → IsInput s.topology n → Within n t → t < a.end n) → (n t : ℕ) → IsLine s.topology n → Within n t → value s a n t ≡ value s b n t
      equal_within Within horizon ends = local.carries.value a.start b.start a.waveform b.waveform same.starts Within horizon (λ n t an_input within. same.waveforms n t an_input (ends n t an_input within))

      initials_equal : (n : ℕ) → IsLine s.topology n → initial s a n ≡ initial s b n
      initials_equal = local.carries.initial a.start b.start same.starts

      equal_below_paths : (n t : ℕ) → IsLine s.topology n → Below a n t → value s a n t ≡ value s b n t
      unfolding Below
      equal_below_paths = equal_within (Below a) (below_horizon a) (λ n t an_input within. within (a.end n) (Path.from_input an_input))

      stable_below_paths : (n t : ℕ) → IsLine s.topology n → Below a n t → Stable s a n t ↔ Stable s b n t
      unfolding Below
      stable_below_paths n t line within = stable_alike s a b n t (initials_equal n line) (λ u upto. equal_below_paths n u line (λ far path. let w = within far path in omega arith))

      path_kept : {n far : ℕ} → Path s a n far → Path s b n far
      path_kept (Path.from_input {n = n} an_input) = subst (Path s b n) (sym (same.ends n an_input)) (Path.from_input an_input)
      path_kept (Path.through a_gate read path) = Path.through a_gate read (path_kept path)

    module _ (a b : Account M) (same : Alike s a b) where
      overfull_kept : (n stop : ℕ) → IsLine s.topology n → Overfull s a n stop → Overfull s b n stop
      unfolding Below
      overfull_kept n stop line over = record {
        overflows = record {
          from_trim = subst (λ x. x ≤ stop) same.trims over.overflows.from_trim;
          changes = λ still. over.overflows.changes ((stable_below_paths a b same n stop line over.early).1 still);
          room_is_full = record {
            ticks = over.overflows.room_is_full.ticks;
            changes =
                subst (λ from. Changes (Stable s b n) stop from over.overflows.room_is_full.ticks) same.trims
                (alike (λ t from to. stable_below_paths a b same n t line (λ far path. let w = over.early far path in omega arith)) over.overflows.room_is_full.changes);
            count = over.overflows.room_is_full.count;
          };
        };
        early = λ far path. over.early far (path_kept b a (alike_back a b same) path);
      }

      limited_kept : {n far : ℕ} → IsLine s.topology n → LimitedPath s a n far → LimitedPath s b n far
      limited_kept line (LimitedPath.from_input {n = n} an_input) = subst (LimitedPath s b n) (sym (same.ends n an_input)) (LimitedPath.from_input an_input)
      limited_kept line (LimitedPath.from_stop {n = n} {stop = stop} over) = LimitedPath.from_stop (overfull_kept n stop line over)
      limited_kept line (LimitedPath.through {m = m} {n = n} a_gate read path) = LimitedPath.through a_gate read (limited_kept (sound.reads_lines n m a_gate read) path)

    module _ (a b : Account M) (a_held : Invariant s a) (b_held : Invariant s b) (a_rest : Rest s a) (b_rest : Rest s b) (same : Alike s a b) where
      times_equal : (n : ℕ) → IsLine s.topology n → settled s.topology a n ≡ settled s.topology b n
      times_equal n line =
          let left = settled_is_distance s a a_held sound a_rest n line in
          let right = settled_is_distance s b b_held sound b_rest n line in
          let no_more = left.least (settled s.topology b n) (limited_kept b a (alike_back a b same) line right.reached) in
          let no_less = right.least (settled s.topology a n) (limited_kept a b same line left.reached) in
          omega arith

      values_equal : (n t : ℕ) → IsLine s.topology n → t < settled s.topology a n → value s a n t ≡ value s b n t
      values_equal = equal_within a b same (λ n t. t < settled s.topology a n) (settled_horizon s a a_held) (λ n t an_input within. let e = settled_input s.topology a n an_input in omega arith)

      kept_equal : (n : ℕ) (ts : List ℕ) → IsLine s.topology n → KeptChanges s a n ts → KeptChanges s b n ts
      kept_equal n ts line kept =
          subst (λ from. Changes (Stable s b n) (settled s.topology b n) from ts) same.trims
          (subst (λ to. Changes (Stable s b n) to a.trim ts) (times_equal n line) (alike (λ t from to. stable_alike s a b n t (initials_equal a b same n line) (λ u upto. values_equal n u line (omega arith))) kept))

      pub agree : Agree s a b
      agree = record { settled_times = times_equal; initial_values = initials_equal a b same; values = values_equal; kept_changes = kept_equal }
