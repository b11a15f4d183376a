-- Every call keeps what holds in every log, and what is settled stays.
use Rattle.std.proofs.Common.{◌≡◌, ℕ, zero, suc, ◌+◌, ◌<◌, ◌≤◌, cond, ltb, [], refl, ap, sym, ◌∙◌, subst, ⊎_elim, arith}
use Rattle.std.proofs.lemmas.Bool.{cases_eq, lt-ltb, le-ltb}
use Rattle.semantics.specs.Machines.{Machine, IsInput, IsGate, IsLine, ReadsFrom}
use Rattle.semantics.specs.Changes.{StableOn, AtMost}
use Rattle.semantics.specs.Changes.Changes.{none}
use Rattle.semantics.specs.Accounts.{Account, settled, initial, value, before, Stable}
use Rattle.semantics.specs.Comparisons.{Stays}
use Rattle.semantics.specs.Moves.{put, made, fed, held, taken, trimmed, CanFeed, CanHold, CanTake, CanTrim}
use Rattle.semantics.specs.Logs.{Takes, Run, Step, Steps, Log}
use Rattle.semantics.proofs.Goals.{settled_input, settled_gate, cases_driver, goal_each}
use Rattle.semantics.proofs.Listing.{onward, later, alike}
use Rattle.semantics.proofs.Locality.{Local}
use Rattle.semantics.proofs.Invariants.{Invariant, stays_itself, stays_on, settled_horizon, stable_alike, settled_grows, settled_same, fits_undriven, stable_beyond}
use Rattle.semantics.proofs.Putting.{put_here, put_there, put_where, put_grows}

-- the record of what holds after a call, and what stays
pub record Goes {M : Type 0} (s : Machine M) (a b : Account M) : Type 0 where
  pub held : Invariant s b
  pub stays : Stays s a b

module _ {M : Type 0} (s : Machine M) where
  -- a list of changes fits where a line is settled further, if it is stable there
  fits_on : (a : Account M) (n to later : ℕ) → to ≤ later → StableOn (Stable s a n) to later → AtMost s.room (Stable s a n) a.trim to → AtMost s.room (Stable s a n) a.trim later
  fits_on a n to later grows quiet fits = record { ticks = fits.ticks; changes = onward grows quiet fits.changes; few = fits.few }

  pub hold_goes : (a : Account M) (n t : ℕ) → Invariant s a → CanHold s a n t → Goes s a (held a n t)
  hold_goes a n t h c = record { held = after; stays = record { settled_times = grows; initial_values = λ m line. refl; values = λ m u line within. refl } }
    where
      ends : (m : ℕ) → a.end m ≤ (held a n t).end m
      ends = put_grows a.end n t c.not_past

      grows : (m : ℕ) → settled s.topology a m ≤ settled s.topology (held a n t) m
      grows = settled_grows s a (held a n t) ends (λ m. omega arith)

      after : Invariant s (held a n t)
      after = record {
        follows = λ m j a_gate read. let f = h.follows m j a_gate read in let g = grows j in omega arith;
        fits = λ m. fits_on a m (settled s.topology a m) (settled s.topology (held a n t) m) (grows m) (stable_beyond s a (held a n t) h (λ k. refl) m) (h.fits m);
        input_reaches = λ m an_input. let e = ends m in let r = h.input_reaches m an_input in omega arith;
        front_reaches = h.front_reaches;
        ends_in_time = λ m an_input. put_where (λ end. end ≤ 2000000000) a.end n t m c.in_time (h.ends_in_time m an_input);
        input_keeps = λ m u an_input from. let e = ends m in h.input_keeps m u an_input (omega arith);
      }

  pub take_goes : (a : Account M) (n front : ℕ) → Invariant s a → CanTake s a n front → Goes s a (taken a n front)
  take_goes a n front h c = record { held = after; stays = record { settled_times = grows; initial_values = λ m line. refl; values = λ m u line within. refl } }
    where
      fronts : (m : ℕ) → a.front m ≤ (taken a n front).front m
      fronts = put_grows a.front n front (omega (arith, c.onward))

      grows : (m : ℕ) → settled s.topology a m ≤ settled s.topology (taken a n front) m
      grows = settled_grows s a (taken a n front) (λ m. omega arith) fronts

      follows_on : (m j : ℕ) → IsGate s.topology m → ReadsFrom s.topology m j → (taken a n front).front m ≤ settled s.topology a j
      follows_on m j a_gate read =
          ⊎_elim (λ same. subst (λ k. put a.front n front k ≤ settled s.topology a j) (sym same) (at_line (subst (λ k. ReadsFrom s.topology k j) same read)))
          (λ other. subst (λ x. x ≤ settled s.topology a j) (sym (put_there a.front n front m other)) (h.follows m j a_gate read)) (cases_eq m n)
        where
          at_line : ReadsFrom s.topology n j → put a.front n front n ≤ settled s.topology a j
          at_line read = let e = put_here a.front n front in let g = goal_each s.topology a n j read in omega (arith, c.not_beyond)

      fits_after : (m : ℕ) → AtMost s.room (Stable s a m) a.trim (settled s.topology (taken a n front) m)
      fits_after m = ⊎_elim (λ same. subst (λ k. AtMost s.room (Stable s a k) a.trim (settled s.topology (taken a n front) k)) (sym same) at_line) (λ other. subst (AtMost s.room (Stable s a m) a.trim) (elsewhere other) (h.fits m)) (cases_eq m n)
        where
          at_line : AtMost s.room (Stable s a n) a.trim (settled s.topology (taken a n front) n)
          at_line = subst (AtMost s.room (Stable s a n) a.trim) (sym (settled_gate s.topology (taken a n front) n c.a_gate ∙ ap (λ x. x + s.topology.lag n) (put_here a.front n front))) c.fits

          elsewhere : (m ≡ n → ⊥) → settled s.topology a m ≡ settled s.topology (taken a n front) m
          elsewhere other = settled_same s a (taken a n front) m refl (sym (put_there a.front n front m other))

      after : Invariant s (taken a n front)
      after = record {
        follows = λ m j a_gate read. let f = follows_on m j a_gate read in let g = grows j in omega arith;
        fits = fits_after;
        input_reaches = h.input_reaches;
        front_reaches = λ m a_gate. let f = fronts m in let r = h.front_reaches m a_gate in omega arith;
        ends_in_time = h.ends_in_time;
        input_keeps = h.input_keeps;
      }

  pub trim_goes : (a : Account M) (t : ℕ) → Invariant s a → CanTrim s a t → Goes s a (trimmed a t)
  trim_goes a t h c = record {
    held = record {
      follows = h.follows;
      fits = λ n. let rest = later t c.not_past (h.fits n).changes in record { ticks = rest.ticks; changes = rest.changes; few = omega (arith, rest.fewer, (h.fits n).few) };
      input_reaches = c.ends_reach;
      front_reaches = c.fronts_reach;
      ends_in_time = h.ends_in_time;
      input_keeps = h.input_keeps;
    };
    stays = record { settled_times = λ n. omega arith; initial_values = λ n line. refl; values = λ n u line within. refl };
  }

module _ {M : Type 0} (a : Account M) (n t : ℕ) (v : M) where
  pub unchanged_below : (u : ℕ) → u < t → (fed a n t v).waveform n u ≡ a.waveform n u
  unchanged_below u below = ap (λ f. f u) (put_here a.waveform n (λ u. cond (ltb u t) (a.waveform n u) v)) ∙ ap (λ b. cond b (a.waveform n u) v) (lt-ltb u t below)

  pub new_from : (u : ℕ) → t ≤ u → (fed a n t v).waveform n u ≡ v
  new_from u from = ap (λ f. f u) (put_here a.waveform n (λ u. cond (ltb u t) (a.waveform n u) v)) ∙ ap (λ b. cond b (a.waveform n u) v) (le-ltb u t from)

  unchanged_else : (m u : ℕ) → (m ≡ n → ⊥) → (fed a n t v).waveform m u ≡ a.waveform m u
  unchanged_else m u other = ap (λ f. f u) (put_there a.waveform n (λ u. cond (ltb u t) (a.waveform n u) v) m other)

module _ {M : Type 0} (s : Machine M) (local : Local s.topology s.rule) (a : Account M) (n t : ℕ) (v : M) (h : Invariant s a) (c : CanFeed s a n t v) where
  feed_ends : (m : ℕ) → a.end m ≤ (fed a n t v).end m
  feed_ends = put_grows a.end n (t + 1) (omega (arith, c.not_past))

  feed_grows : (m : ℕ) → settled s.topology a m ≤ settled s.topology (fed a n t v) m
  feed_grows = settled_grows s a (fed a n t v) feed_ends (λ m. omega arith)

  -- waveforms are equal below the ends
  feed_waveforms : (m u : ℕ) → IsInput s.topology m → u < settled s.topology a m → a.waveform m u ≡ (fed a n t v).waveform m u
  feed_waveforms m u an_input within =
      ⊎_elim (λ same. subst (λ k. a.waveform k u ≡ (fed a n t v).waveform k u) (sym same) (sym (unchanged_below a n t v u (below same)))) (λ other. sym (unchanged_else a n t v m u other))
      (cases_eq m n)
    where
      below : m ≡ n → u < t
      below same = let e = settled_input s.topology a m an_input in let end : a.end m ≡ a.end n = ap a.end same in omega (arith, c.not_past)

  feed_stays : Stays s a (fed a n t v)
  feed_stays = record {
    settled_times = feed_grows;
    initial_values = λ m line. refl;
    values = λ m u line within. local.carries.value a.start a.start a.waveform (fed a n t v).waveform (λ k an_input. refl) (λ k w. w < settled s.topology a k) (settled_horizon s a h) feed_waveforms m u line within;
  }

  -- an input's waveforms are its values
  given : (b : Account M) (m u : ℕ) → IsInput s.topology m → value s b m u ≡ b.waveform m u
  given b m u an_input = local.input_given b.start b.waveform m u an_input

  feed_keeps : (m u : ℕ) → IsInput s.topology m → (fed a n t v).end m ≤ u → Stable s (fed a n t v) m u
  feed_keeps m u an_input from = ⊎_elim (λ same. subst (λ k. Stable s (fed a n t v) k u) (sym same) (at_line u (past same))) elsewhere (cases_eq m n)
    where
      past : m ≡ n → t < u
      past same = let e = put_here a.end n (t + 1) in let moved : (fed a n t v).end m ≡ (fed a n t v).end n = ap (fed a n t v).end same in omega arith

      at_line : (u : ℕ) → t < u → Stable s (fed a n t v) n u
      at_line zero after = absurd (omega arith)
      at_line (suc u) after =
          given (fed a n t v) n (suc u) c.an_input ∙ (new_from a n t v (suc u) (omega arith) ∙ sym (given (fed a n t v) n u c.an_input ∙ new_from a n t v u (omega arith)))

      elsewhere : (m ≡ n → ⊥) → Stable s (fed a n t v) m u
      elsewhere other =
          (stable_alike s a (fed a n t v) m u refl (λ w upto. given a m w an_input ∙ (sym (unchanged_else a n t v m w other) ∙ sym (given (fed a n t v) m w an_input)))).0
          (let e = feed_ends m in h.input_keeps m u an_input (omega arith))

  feed_fits : (m : ℕ) → AtMost s.room (Stable s (fed a n t v) m) a.trim (settled s.topology (fed a n t v) m)
  feed_fits m = ⊎_elim line_fits (fits_undriven s (fed a n t v) m) (cases_driver s.topology m)
    where
      at_line : AtMost s.room (Stable s (fed a n t v) n) a.trim (settled s.topology (fed a n t v) n)
      at_line = subst (AtMost s.room (Stable s (fed a n t v) n) a.trim) (sym (settled_input s.topology (fed a n t v) n c.an_input ∙ put_here a.end n (t + 1))) c.fits

      elsewhere : IsLine s.topology m → (m ≡ n → ⊥) → AtMost s.room (Stable s (fed a n t v) m) a.trim (settled s.topology (fed a n t v) m)
      elsewhere line other =
          let same : settled s.topology a m ≡ settled s.topology (fed a n t v) m = settled_same s a (fed a n t v) m (sym (put_there a.end n (t + 1) m other)) refl in
          let fits = h.fits m in
          subst (AtMost s.room (Stable s (fed a n t v) m) a.trim) same
          (record {
            ticks = fits.ticks;
            changes = alike (λ u from to. stable_alike s a (fed a n t v) m u refl (λ w upto. feed_stays.values m w line (omega arith))) fits.changes;
            few = fits.few;
          })

      line_fits : IsLine s.topology m → AtMost s.room (Stable s (fed a n t v) m) a.trim (settled s.topology (fed a n t v) m)
      line_fits line = ⊎_elim (λ same. subst (λ k. AtMost s.room (Stable s (fed a n t v) k) a.trim (settled s.topology (fed a n t v) k)) (sym same) at_line) (elsewhere line) (cases_eq m n)

  pub feed_goes : Goes s a (fed a n t v)
  feed_goes = record {
    held = record {
      follows = λ m j a_gate read. let f = h.follows m j a_gate read in let g = feed_grows j in omega arith;
      fits = feed_fits;
      input_reaches = λ m an_input. let e = feed_ends m in let r = h.input_reaches m an_input in omega arith;
      front_reaches = h.front_reaches;
      ends_in_time = λ m an_input. put_where (λ end. end ≤ 2000000000) a.end n (t + 1) m (omega (arith, c.in_time)) (h.ends_in_time m an_input);
      input_keeps = feed_keeps;
    };
    stays = feed_stays;
  }

module _ {M : Type 0} (s : Machine M) (local : Local s.topology s.rule) where
  -- a line that has had one value only is stable
  stable_at : (a : Account M) (n t : ℕ) (x : M) → initial s a n ≡ x → ((u : ℕ) → u ≤ t → value s a n u ≡ x) → Stable s a n t
  stable_at a n zero x begin same = same zero (omega arith) ∙ sym begin
  stable_at a n (suc t) x begin same = same (suc t) (omega arith) ∙ sym (same t (omega arith))

  made_keeps : (start : ℕ → M) (n t : ℕ) → IsInput s.topology n → Stable s (made start) n t
  made_keeps start n t an_input = stable_at (made start) n t (start n) (local.input_begins start n an_input) (λ u upto. local.input_given start (λ m w. start m) n u an_input)

  pub made_stable : (start : ℕ → M) (n : ℕ) → IsLine s.topology n → StableOn (Stable s (made start) n) 0 (settled s.topology (made start) n)
  made_stable start n line t from within =
      ⊎_elim (made_keeps start n t)
      (λ a_gate.
      let e = settled_gate s.topology (made start) n a_gate in
      stable_at (made start) n t (s.rule.initial start n) refl (λ u upto. local.gate_waits start (λ m w. start m) n u a_gate (omega arith)))
      line

  pub made_held : (start : ℕ → M) → Invariant s (made start)
  made_held start = record {
    follows = λ n m a_gate read. omega arith;
    fits = λ n. ⊎_elim (λ line. record { ticks = []; changes = none (made_stable start n line); few = omega arith }) (fits_undriven s (made start) n) (cases_driver s.topology n);
    input_reaches = λ n an_input. omega arith;
    front_reaches = λ n a_gate. omega arith;
    ends_in_time = λ n an_input. omega arith;
    input_keeps = λ n t an_input from. made_keeps start n t an_input;
  }

  pub takes_go : {k : ℕ} {a b : Account M} → Invariant s a → Takes s k a b → Goes s a b
  takes_go {a = a} h Takes.none = record { held = h; stays = stays_itself s a }
  takes_go {a = a} {b = b} h (Takes.one_more {n = n} {front = front} first can rest) =
      let once = take_goes s a n front h can in
      let on = takes_go once.held rest in
      record { held = on.held; stays = stays_on s a (taken a n front) b once.stays on.stays }

  step_goes : {a b : Account M} → Invariant s a → Step s a b → Goes s a b
  step_goes {a = a} h (Step.feed {n = n} {t = t} {v = v} can) = feed_goes s local a n t v h can
  step_goes {a = a} h (Step.hold {n = n} {t = t} can) = hold_goes s a n t h can
  step_goes {a = a} h (Step.take {n = n} {front = front} can) = take_goes s a n front h can
  step_goes h (Step.run (Run.to_rest takes within rests)) = takes_go h takes
  step_goes h (Step.run (Run.to_count takes left)) = takes_go h takes
  step_goes {a = a} h (Step.trim {t = t} can) = trim_goes s a t h can

  pub steps_go : {a b : Account M} → Invariant s a → Steps s a b → Goes s a b
  steps_go {a = a} h Steps.none = record { held = h; stays = stays_itself s a }
  steps_go {a = a} h (Steps.then {b = b} {c = c} before step) =
      let first = steps_go h before in
      let second = step_goes first.held step in
      record { held = second.held; stays = stays_on s a b c first.stays second.stays }

  pub log_held : {a : Account M} → Log s a → Invariant s a
  log_held log = (steps_go (made_held log.start) log.steps).held
