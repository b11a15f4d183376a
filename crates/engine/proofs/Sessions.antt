-- Sessions that are the same, and sessions without lines.
use Rattle.std.proofs.Common.{◌≡◌, ℕ, List, Ok, Err, OnErr, MutBor, refl, ap, sym, ◌∙◌, subst, inl, inr, arith}
use Rattle.std.proofs.Math.Bridge.{le_prop}
use Rattle.std.specs.Prelude.{Result}
use borrow.Rule.Slice.Mut.{set_vals}
use Rattle.events.specs.declared.record.EventRecord.{EventRecord}
use Rattle.netlist.specs.declared.refusal.Refusal.{Refusal}
use Rattle.semantics.specs.Accounts.{Account}
use Rattle.semantics.specs.Circuits.{lines}
use Rattle.semantics.specs.Logs.{Ending, Takes, Run, Step, Steps}
use Rattle.semantics.specs.Machines.{Machine, IsLine}
use Rattle.semantics.specs.Moves.{made, trimmed}
use Rattle.values.specs.Systems.{System}
use Rattle.engine.specs.Answers.{Taking, Valued, Eventful, Stated, Feeding, Holding, Trimming}
use Rattle.engine.specs.Sessions.{lines_of, HasNoLines, machine_in, StandsFor}
use Rattle.engine.proofs.Books.{of_line}
use Rattle.engine.specs.declared.lines.Lines.{Lines}
use Rattle.engine.specs.declared.session.Session.{Session}
use Rattle.engine.specs.Lines.{Panel, panel, Holds}
use Rattle.engine.specs.Standing.{machine_of, Shows, Stands}

module _ {V : Type 0} where
  abbrev of : (l : Lines) (m : MutBor (List (EventRecord V))) → Holds (panel l) m.now → Session V
  of l m p = record { lines = l; store = m; fits = p }

  -- a session is its lines and its store
  pub same_session : (s s' : Session V) → s'.lines ≡ s.lines → s'.store ≡ s.store → s' ≡ s
  same_session s s' same_lines same_store =
      subst (λ (l : Lines). (p : Holds (panel l) s'.store.now) → of l s'.store p ≡ s) (sym same_lines)
      (λ p. subst (λ (m : MutBor (List (EventRecord V))). (q : Holds (panel s.lines) m.now) → of s.lines m q ≡ s) (sym same_store) (λ q. ap (of s.lines s.store) (le_prop q s.fits)) p)
      s'.fits

  -- a refused call leaves the session as it was
  pub untouched : {X : Type 0} (r : Result X Refusal) (s s' : Session V) (store : List (EventRecord V)) → s'.store ≡ set_vals store s.store → OnErr r ((s'.lines ≡ s.lines) × (store ≡ s.store.now)) → OnErr r (s' ≡ s)
  untouched (Ok x) s s' store is same = tt
  untouched (Err x) s s' store is same = same_session s s' same.0 (is ∙ ap (λ xs. set_vals xs s.store) same.1)

-- where there are no lines, every account of the trim tick is shown
module _ {V M : Type 0} (meaning : V → M) (system : System M) (p : Panel) (none : lines p.circuit ≡ 0) where
  no_line : (n : ℕ) → IsLine (machine_of system p).topology n → ⊥
  no_line n is_line = let range = of_line p n is_line in omega (arith, range.0, range.1, none)

  pub empty_shows : (store : List (EventRecord V)) (a : Account M) → p.trim ≡ a.trim → Shows meaning system p store a
  empty_shows store a same = record {
    trim = same;
    ends = λ n an_input. absurd (no_line n (inl an_input));
    fronts = λ n a_gate. absurd (no_line n (inr a_gate));
    records = λ n is_line. absurd (no_line n is_line);
  }

  pub empty_made : (store : List (EventRecord V)) → p.trim ≡ 0 → Stands meaning system p store (made (λ n. system.start))
  empty_made store untrimmed = record { log = record { start = λ n. system.start; steps = Steps.none }; shows = empty_shows store (made (λ n. system.start)) untrimmed }

-- An account for which a session without lines stands: nothing was given.
pub record Nothing {V M : Type 0} (meaning : V → M) (system : System M) (s : Session V) : Type 0 where
  pub account : Account M
  pub stands : StandsFor meaning system s account
  pub no_line : (n : ℕ) → IsLine (machine_in system s).topology n → ⊥

pub nothing_given : {V M : Type 0} (meaning : V → M) (system : System M) (s : Session V) → HasNoLines s → Nothing meaning system s
nothing_given meaning system s none = record {
  account = trimmed (made (λ n. system.start)) (lines_of s).trim;
  stands = record {
    log = record {
      start = λ n. system.start;
      steps = Steps.then Steps.none (Step.trim (record { not_past = omega arith; ends_reach = λ n an_input. absurd (no_line meaning system (lines_of s) none n (inl an_input)); fronts_reach = λ n a_gate. absurd (no_line meaning system (lines_of s) none n (inr a_gate)) }));
    };
    shows = empty_shows meaning system (lines_of s) none s.store.now (trimmed (made (λ n. system.start)) (lines_of s).trim) refl;
  };
  no_line = no_line meaning system (lines_of s) none;
}

-- what calls answer where there are no lines
module _ {M : Type 0} (s : Machine M) (a : Account M) (none : (n : ℕ) → IsLine s.topology n → ⊥) where
  pub none_fed : {n t : ℕ} {v : M} {r : Result Unit ℕ} {b : Account M} → Feeding s a n t v r b → r ≡ Err 12
  none_fed (Feeding.no_input other) = refl
  none_fed {n = n} (Feeding.past is before) = absurd (none n (inl is))
  none_fed {n = n} (Feeding.late is from after) = absurd (none n (inl is))
  none_fed {n = n} (Feeding.full is from upto more) = absurd (none n (inl is))
  none_fed {n = n} (Feeding.accepted can) = absurd (none n (inl can.an_input))

  pub none_held : {n t : ℕ} {r : Result Unit ℕ} {b : Account M} → Holding s a n t r b → r ≡ Err 12
  none_held (Holding.no_input other) = refl
  none_held {n = n} (Holding.past is before) = absurd (none n (inl is))
  none_held {n = n} (Holding.late is from after) = absurd (none n (inl is))
  none_held {n = n} (Holding.accepted can) = absurd (none n (inl can.an_input))

  pub none_taken : {n : ℕ} {r : Result ℕ ℕ} {b : Account M} → Taking s a n r b → r ≡ Err 12
  none_taken (Taking.no_gate other) = refl
  none_taken {n = n} (Taking.idle is at) = absurd (none n (inr is))
  none_taken {n = n} (Taking.full is below over) = absurd (none n (inr is))
  none_taken {n = n} (Taking.accepted can) = absurd (none n (inr can.a_gate))

  pub none_trimmed : {t : ℕ} {r : Result Unit ℕ} {b : Account M} → Trimming s a t r b → r ≡ Err 15
  none_trimmed (Trimming.no_lines all) = refl
  none_trimmed (Trimming.past {n = n} is before) = absurd (none n is)
  none_trimmed (Trimming.beyond_end is from after) = refl
  none_trimmed (Trimming.beyond_front is from after) = refl
  none_trimmed (Trimming.accepted {n = n} is can) = absurd (none n is)

  pub none_valued : {n t : ℕ} {r : Result M ℕ} → Valued s a n t r → r ≡ Err 12
  none_valued (Valued.no_line other) = refl
  none_valued {n = n} (Valued.past is before) = absurd (none n is)
  none_valued {n = n} (Valued.unsettled is from beyond) = absurd (none n is)
  none_valued {n = n} (Valued.told is from within) = absurd (none n is)

  pub none_eventful : {n k : ℕ} {r : Result (ℕ × M) ℕ} → Eventful s a n k r → r ≡ Err 12
  none_eventful (Eventful.no_line other) = refl
  none_eventful {n = n} (Eventful.none_such is kept few) = absurd (none n is)
  none_eventful {n = n} (Eventful.told is kept at) = absurd (none n is)

  pub none_stated : {n : ℕ} {r : Result (ℕ × ℕ) ℕ} → Stated s a n r → r ≡ Err 12
  none_stated (Stated.no_line other) = refl
  none_stated {n = n} (Stated.told is kept) = absurd (none n is)

  no_takes : {k : ℕ} {b : Account M} → Takes s k a b → k ≡ 0
  no_takes Takes.none = refl
  no_takes (Takes.one_more {n = n} first can rest) = absurd (none n (inr can.a_gate))

  pub none_run : {most count : ℕ} {ending : Ending} {b : Account M} → Run s most a b count ending → (count ≡ 0) × (ending ≡ Ending.rest)
  none_run (Run.to_rest takes within rests) = (no_takes takes, refl)
  none_run (Run.to_count {n = n} takes can) = absurd (none n (inr can.a_gate))
