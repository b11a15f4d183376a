-- What becomes of an input that is held or fed.
use Rattle.std.proofs.Common.{◌≡◌, ◌↔◌, ℕ, suc, ◌+◌, ◌-◌, ◌*◌, ◌<◌, ◌≤◌, List, length, map, None, Some, refl, sym, ◌∙◌, subst, inl, arith}
use Rattle.std.specs.Prelude.{Option}
use Rattle.std.specs.Option.{unwrap_or}
use Rattle.events.specs.declared.record.EventRecord.{EventRecord}
use Rattle.netlist.specs.declared.progress.Progress.{Progress}
use Rattle.semantics.specs.Accounts.{Account, settled, value, Stable, Overflows}
use Rattle.semantics.specs.Changes.{Changes, AtMost}
use Rattle.semantics.specs.Circuits.{lines, topology}
use Rattle.semantics.specs.Laws.{InOrder}
use Rattle.semantics.specs.Logs.{Step, Steps}
use Rattle.semantics.specs.Machines.{Machine, IsInput, IsLine}
use Rattle.semantics.specs.Moves.{fed, held, CanFeed, CanHold}
use Rattle.semantics.proofs.Goals.{settled_input, not_both}
use Rattle.semantics.proofs.Invariants.{settled_same}
use Rattle.semantics.proofs.Keeping.{feed_goes, log_held, unchanged_below, new_from}
use Rattle.semantics.proofs.Listing.{no_room}
use Rattle.semantics.proofs.Putting.{put_here, put_there}
use Rattle.semantics.proofs.Ruling.{rule_local}
use Rattle.semantics.proofs.Wiring.{input_range, line_range}
use Rattle.values.specs.Systems.{System}
use Rattle.engine.specs.Lines.{Panel, Holds}
use Rattle.engine.specs.Panels.{moved}
use Rattle.engine.specs.Recordings.{RecordedIn, OnlyThere}
use Rattle.engine.specs.Standing.{Tells, machine_of, Stands}
use Rattle.engine.specs.Stores.{part, seen}
use Rattle.engine.proofs.Books.{Sure, in_order, trim_reached}
use Rattle.engine.proofs.Moving.{shows_moved}
use Rattle.engine.proofs.Parts.{part_length}
use Rattle.engine.proofs.Recordings.{ToldOn, told_on}
use Rattle.engine.proofs.Retelling.{retell, tell_on}

module _ {V M : Type 0} (meaning : V → M) (system : System M) (p : Panel) (store : List (EventRecord V)) (a : Account M) (is : Sure p) (h : Stands meaning system p store a) (n t : ℕ) (an_input : IsInput (topology p.circuit) n) (not_past : a.end n ≤ t) where
  abbrev s : Machine M
  s = machine_of system p

  order : InOrder (machine_of system p) a
  order = in_order meaning system p store a is h

  abbrev line : IsLine (topology p.circuit) n
  line = inl an_input

  -- the line is told up to the tick, where the input keeps its last value
  told : Tells (machine_of system p) system.start a n t (p.progress n).kept (map (seen meaning) (part p.stride n store))
  told =
      let end : settled (topology p.circuit) a n ≡ a.end n = settled_input (topology p.circuit) a n an_input in
      tell_on (machine_of system p) system.start n (settled (topology p.circuit) a n) (p.progress n).kept (map (seen meaning) (part p.stride n store)) a t (omega arith)
      (λ u from before. order.last_value_kept n u an_input (omega arith)) (h.shows.records n line)

  module _ (in_time : t ≤ 2000000000) where
    pub can_hold : CanHold (machine_of system p) a n t
    can_hold = record { an_input = an_input; not_past = not_past; in_time = in_time }

    pub held_stands : Stands meaning system (moved p n (record { tick = t; kept = (p.progress n).kept })) store (held a n t)
    held_stands =
        let b : Account M = held a n t in
        let x : Progress = record { tick = t; kept = (p.progress n).kept } in
        let there : OnlyThere ((n - 1) * p.stride) p.stride store store = record { same_length = refl; before = refl; after = refl } in
        let end : settled (topology p.circuit) b n ≡ t = settled_input (topology p.circuit) b n an_input ∙ put_here a.end n t in
        record {
          log = record { start = h.log.start; steps = Steps.then h.log.steps (Step.hold can_hold) };
          shows = shows_moved meaning system p store store a b n x h.shows line there
              (record {
                ends = λ i. sym (put_here a.end n t);
                fronts = λ a_gate. absurd (not_both (topology p.circuit) n an_input a_gate);
                records = subst (λ to. Tells (machine_of system p) system.start b n to (p.progress n).kept (map (seen meaning) (part p.stride n store))) (sym end) (record { ticks = told.ticks; changes = told.changes; count = told.count; shown = told.shown; spare = told.spare });
              })
              (record {
                trim = refl;
                ends = λ m other. sym (put_there a.end n t m other);
                fronts = λ m other. refl;
                records = λ m kept rs a_line other tells. again m kept rs other tells;
              });
        }
      where
        again : (m kept : ℕ) (rs : List (ℕ × M)) → (m ≡ n → ⊥) → Tells (machine_of system p) system.start a m (settled (topology p.circuit) a m) kept rs → Tells (machine_of system p) system.start (held a n t) m (settled (topology p.circuit) (held a n t) m) kept rs
        again m kept rs other tells =
            subst (λ to. Tells (machine_of system p) system.start (held a n t) m to kept rs) (settled_same (machine_of system p) a (held a n t) m (sym (put_there a.end n t m other)) refl)
            (record { ticks = tells.ticks; changes = tells.changes; count = tells.count; shown = tells.shown; spare = tells.spare })

  module _ (v : M) where
    abbrev b : Account M
    b = fed a n t v

    given : (c : Account M) (u : ℕ) → value (machine_of system p) c n u ≡ c.waveform n u
    given c u = (rule_local system p.circuit is.wired).input_given c.start c.waveform n u an_input

    -- the values before the tick stay
    fed_told : Tells (machine_of system p) system.start (fed a n t v) n t (p.progress n).kept (map (seen meaning) (part p.stride n store))
    fed_told =
        retell (machine_of system p) system.start n t (p.progress n).kept (map (seen meaning) (part p.stride n store)) a (fed a n t v) refl (let r = order.trim_within_ends n an_input in omega arith) refl
        (λ u before. given a u ∙ sym (given (fed a n t v) u ∙ unchanged_below a n t v u before)) told

    pub new_value : value (machine_of system p) (fed a n t v) n t ≡ v
    new_value = given (fed a n t v) t ∙ new_from a n t v t (omega arith)

    -- there is no room for the change that this makes
    pub feed_refused : Overflows (machine_of system p) (fed a n t v) n t → AtMost (machine_of system p).room (Stable (machine_of system p) (fed a n t v) n) a.trim (t + 1) → ⊥
    feed_refused over fits = no_room t over.from_trim over.changes over.room_is_full (omega arith) fits

    module _ (new : List (EventRecord V)) (there : OnlyThere ((n - 1) * p.stride) p.stride store new) (in_time : t ≤ 1999999999) (k : ℕ) (fits : k < p.stride) (tells : Tells (machine_of system p) system.start (fed a n t v) n (suc t) k (map (seen meaning) (part p.stride n new))) where
      next : suc t ≡ t + 1
      next = omega arith

      pub can_feed : CanFeed (machine_of system p) a n t v
      can_feed = record {
        an_input = an_input;
        not_past = not_past;
        in_time = in_time;
        fits = record { ticks = tells.ticks; changes = subst (λ to. Changes (Stable (machine_of system p) (fed a n t v) n) to a.trim tells.ticks) next tells.changes; few = omega (arith, tells.count) };
      }

      pub fed_stands : Stands meaning system (moved p n (record { tick = t + 1; kept = k })) new (fed a n t v)
      fed_stands =
          let x : Progress = record { tick = t + 1; kept = k } in
          let end : settled (topology p.circuit) (fed a n t v) n ≡ t + 1 = settled_input (topology p.circuit) (fed a n t v) n an_input ∙ put_here a.end n (t + 1) in
          record {
            log = record { start = h.log.start; steps = Steps.then h.log.steps (Step.feed can_feed) };
            shows = shows_moved meaning system p store new a (fed a n t v) n x h.shows line there
                (record {
                  ends = λ i. sym (put_here a.end n (t + 1));
                  fronts = λ a_gate. absurd (not_both (topology p.circuit) n an_input a_gate);
                  records = subst (λ to. Tells (machine_of system p) system.start (fed a n t v) n to k (map (seen meaning) (part p.stride n new))) (next ∙ sym end) tells;
                })
                (record {
                  trim = refl;
                  ends = λ m other. sym (put_there a.end n (t + 1) m other);
                  fronts = λ m other. refl;
                  records = λ m kept rs a_line other told. again m kept rs a_line other told;
                });
          }
        where
          again : (m kept : ℕ) (rs : List (ℕ × M)) → IsLine (topology p.circuit) m → (m ≡ n → ⊥) → Tells (machine_of system p) system.start a m (settled (topology p.circuit) a m) kept rs → Tells (machine_of system p) system.start (fed a n t v) m (settled (topology p.circuit) (fed a n t v) m) kept rs
          again m kept rs a_line other told =
              let held = log_held (machine_of system p) (rule_local system p.circuit is.wired) h.log in
              let goes = feed_goes (machine_of system p) (rule_local system p.circuit is.wired) a n t v held can_feed in
              let reach = trim_reached meaning system p store a is h m a_line in
              subst (λ to. Tells (machine_of system p) system.start (fed a n t v) m to kept rs) (settled_same (machine_of system p) a (fed a n t v) m (sym (put_there a.end n (t + 1) m other)) refl)
              (retell (machine_of system p) system.start m (settled (topology p.circuit) a m) kept rs a (fed a n t v) refl reach (goes.stays.initial_values m a_line) (λ u within. goes.stays.values m u a_line within) told)

    reaches : a.trim ≤ t
    reaches = let r = order.trim_within_ends n an_input in omega arith

    -- the value is recorded
    module _ (Alike : V → V → Type 0) (compared : (x y : V) → Alike x y ↔ (meaning x ≡ meaning y)) (new : List (EventRecord V)) (there : OnlyThere ((n - 1) * p.stride) p.stride store new) (holds : Holds p store) (kept_fits : (p.progress n).kept < p.stride) (value : V) (same : meaning value ≡ v) where
      abbrev Told : Option ℕ → Type 0
      Told result = ToldOn meaning Alike compared (machine_of system p) system.start (fed a n t v) n t value (same ∙ sym new_value) reaches (part p.stride n store) (part p.stride n new) result

      abbrev Records : Option ℕ → Type 0
      Records result = RecordedIn Alike (p.progress n).kept (record { tick = t; value = value }) (part p.stride n store) result (part p.stride n new)

      recorded : (result : Option ℕ) → unwrap_or result (p.progress n).kept < p.stride → Records result → Told result
      recorded result fits records =
          let range = input_range p.circuit n an_input in
          let few = line_range p.circuit n line in
          let whole : length (part p.stride n store) ≡ suc (p.stride - 1) = omega (arith, part_length p.stride (lines p.circuit) n store (omega (arith, range.0)) few holds) in
          let whole_new : length (part p.stride n new) ≡ suc (p.stride - 1) = omega (arith, part_length p.stride (lines p.circuit) n new (omega (arith, range.0)) few (let h = holds in omega (arith, there.same_length))) in
          told_on meaning Alike compared (machine_of system p) system.start (fed a n t v) n t value (same ∙ sym new_value) reaches (p.progress n).kept (part p.stride n store) fed_told (omega (arith, whole)) (part p.stride n new) whole whole_new result (omega (arith, whole_new)) records

      -- so there is no room, or the line is told one tick further
      pub overflows : (result : Option ℕ) → result ≡ None → unwrap_or result (p.progress n).kept < p.stride → Records result → Overflows (machine_of system p) (fed a n t v) n t
      overflows result is fits records = by_result (subst Told is (recorded result fits records))
        where
          by_result : Told None → Overflows (machine_of system p) (fed a n t v) n t
          by_result (ToldOn.stopped over stays) = over

      pub tells_on : (result : Option ℕ) (k : ℕ) → result ≡ Some k → unwrap_or result (p.progress n).kept < p.stride → Records result → Tells (machine_of system p) system.start (fed a n t v) n (suc t) k (map (seen meaning) (part p.stride n new))
      tells_on result k is fits records = by_result (subst Told is (recorded result fits records))
        where
          by_result : Told (Some k) → Tells (machine_of system p) system.start (fed a n t v) n (suc t) k (map (seen meaning) (part p.stride n new))
          by_result (ToldOn.on tells) = tells
