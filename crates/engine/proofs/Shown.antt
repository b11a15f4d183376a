-- Two accounts for which the same lines and records stand rest alike.
use Rattle.std.proofs.Common.{◌≡◌, ℕ, suc, ◌+◌, ◌-◌, ◌<◌, ◌≤◌, List, ◌∷◌, map, drop, get_or, refl, ap, sym, ◌∙◌, subst, ⊎_elim, arith, inr}
use Rattle.std.proofs.lemmas.Bool.{cases_lt}
use Rattle.std.proofs.lemmas.List.{map-id}
use Rattle.std.proofs.lemmas.Simd.{map-map}
use Rattle.events.specs.declared.record.EventRecord.{EventRecord}
use Rattle.netlist.specs.Walks.{reads}
use Rattle.semantics.specs.Accounts.{Account, before, value, Stable, settled, goal, Overflows}
use Rattle.semantics.specs.Changes.{Changes}
use Rattle.semantics.specs.Changes.Changes.{none, next}
use Rattle.semantics.specs.Circuits.{gate_of_line}
use Rattle.semantics.specs.Machines.{Machine, IsGate, IsLine}
use Rattle.semantics.specs.Moves.{Rests}
use Rattle.semantics.proofs.Goals.{goal_each, settled_gate}
use Rattle.semantics.proofs.Ruling.{gates_equal}
use Rattle.semantics.proofs.Wiring.{sound}
use Rattle.values.specs.Systems.{System}
use Rattle.engine.specs.Lines.{Panel}
use Rattle.engine.specs.Stores.{part, seen}
use Rattle.engine.specs.Standing.{Tells, machine_of, Stands}
use Rattle.engine.proofs.Books.{Sure, in_order, settled_told, goal_told}
use Rattle.engine.proofs.Following.{one_delay_later}
use Rattle.engine.proofs.Motions as Motions
use Rattle.engine.proofs.Reading.{steady}

-- what pairs of ticks and values tell
firsts : {M : Type 0} (v : ℕ → M) (ts : List ℕ) → map (λ (p : ℕ × M). p.0) (map (λ t. (t, v t)) ts) ≡ ts
firsts {M = M} v ts = map-map (λ (p : ℕ × M). p.0) (λ t. (t, v t)) ts ∙ map-id ts

seconds : {M : Type 0} (v : ℕ → M) (ts : List ℕ) → map (λ (p : ℕ × M). p.1) (map (λ t. (t, v t)) ts) ≡ map v ts
seconds {M = M} v ts = map-map (λ (p : ℕ × M). p.1) (λ t. (t, v t)) ts

module _ {M : Type 0} (s : Machine M) (a b : Account M) (n : ℕ) where
  -- with the same changes and the same values there, and at first, a line has the same values
  same_before : {to from : ℕ} {ts : List ℕ} → Changes (Stable s a n) to from ts → Changes (Stable s b n) to from ts → before s a n from ≡ before s b n from → map (value s a n) ts ≡ map (value s b n) ts → (u : ℕ) → from ≤ u → u ≤ to → before s a n u ≡ before s b n u
  same_before {from = from} (none quiet) (none quiet') same values u reaches within =
      steady s a n from u reaches (λ t t_from t_to. quiet t t_from (omega arith)) ∙ (same ∙ sym (steady s b n from u reaches (λ t t_from t_to. quiet' t t_from (omega arith))))
  same_before {from = from} (next {t = t} t_from t_to first changes rest) (next t_from' t_to' first' changes' rest') same values u reaches within =
      ⊎_elim (λ later. same_before rest rest' (ap (λ l. get_or l 0 (value s a n t)) values) (ap (drop 1) values) u later within)
      (λ sooner. steady s a n from u reaches (λ v v_from v_to. first v v_from (omega arith)) ∙ (same ∙ sym (steady s b n from u reaches (λ v v_from v_to. first' v v_from (omega arith)))))
      (cases_lt t u)

  module _ (filler : M) (to kept : ℕ) (records : List (ℕ × M)) (h : Tells s filler a n to kept records) (h' : Tells s filler b n to kept records) where
    shown_same : ◌≡◌ {A = List (ℕ × M)} ((a.trim, before s a n a.trim) ∷ map (λ t. (t, value s a n t)) h.ticks) ((b.trim, before s b n b.trim) ∷ map (λ t. (t, value s b n t)) h'.ticks)
    shown_same = sym h.shown ∙ h'.shown

    pub trims : a.trim ≡ b.trim
    trims = ap (λ (l : List (ℕ × M)). (get_or {A = ℕ × M} l 0 (a.trim, before s a n a.trim)).0) shown_same

    ticks : h'.ticks ≡ h.ticks
    ticks = sym (firsts (value s b n) h'.ticks) ∙ (ap (λ (l : List (ℕ × M)). map (λ (p : ℕ × M). p.0) (drop 1 l)) (sym shown_same) ∙ firsts (value s a n) h.ticks)

    values : map (value s a n) h.ticks ≡ map (value s b n) h.ticks
    values =
        sym (seconds (value s a n) h.ticks)
        ∙ (ap (λ (l : List (ℕ × M)). map (λ (p : ℕ × M). p.1) (drop 1 l)) shown_same ∙ (seconds (value s b n) h'.ticks ∙ ap (map (value s b n)) ticks))

    at_trim : before s a n a.trim ≡ before s b n a.trim
    at_trim = ap (λ (l : List (ℕ × M)). (get_or {A = ℕ × M} l 0 (a.trim, before s a n a.trim)).1) shown_same ∙ ap (before s b n) (sym trims)

    pub same_told : (u : ℕ) → a.trim ≤ u → u ≤ to → before s a n u ≡ before s b n u
    same_told = same_before h.changes (subst (λ ts. Changes (Stable s b n) to a.trim ts) ticks (subst (λ from. Changes (Stable s b n) to from h'.ticks) (sym trims) h'.changes)) at_trim values

module _ {V M : Type 0} (meaning : V → M) (system : System M) (p : Panel) (store : List (EventRecord V)) (is : Sure p) (a b : Account M) (h : Stands meaning system p store a) (h' : Stands meaning system p store b) where
  abbrev s : Machine M
  s = machine_of system p

  same_settled : (n : ℕ) → IsLine s.topology n → settled s.topology b n ≡ settled s.topology a n
  same_settled n line = sym (settled_told meaning system p store b h'.shows n line) ∙ settled_told meaning system p store a h.shows n line

  -- each line has the same values below its settled time
  of_line : (n : ℕ) → IsLine s.topology n → (u : ℕ) → a.trim ≤ u → u ≤ settled s.topology a n → before s a n u ≡ before s b n u
  of_line n line =
      let records = map (seen meaning) (part p.stride n store) in
      let kept = (p.progress n).kept in
      same_told s a b n system.start (settled s.topology a n) kept records (h.shows.records n line) (subst (λ to. Tells s system.start b n to kept records) (same_settled n line) (h'.shows.records n line))

  module _ (n : ℕ) (a_gate : IsGate s.topology n) where
    fronts : a.front n ≡ b.front n
    fronts = sym (h.shows.fronts n a_gate) ∙ h'.shows.fronts n a_gate

    goals : goal s.topology a n ≡ goal s.topology b n
    goals = sym (goal_told meaning system p store a is h n a_gate (reads p.circuit n) refl) ∙ goal_told meaning system p store b is h' n a_gate (reads p.circuit n) refl

    trim_is : a.trim ≡ b.trim
    trim_is = sym h.shows.trim ∙ h'.shows.trim

    -- the tick at which the line may change next
    abbrev at : ℕ
    at = a.front n + (gate_of_line p.circuit n).delay

    abbrev at_b : ℕ
    at_b = b.front n + (gate_of_line p.circuit n).delay

    module _ (below : a.front n < goal s.topology a n) where
      same_value : value s a n at ≡ value s b n at
      same_value =
          let reach = (in_order meaning system p store a is h).trim_within_fronts n a_gate in
          one_delay_later system p.circuit is.wired (p.stride - 1) a n a_gate (a.front n)
          ∙ (gates_equal system (gate_of_line p.circuit n).kind (λ m. value s a m (a.front n)) (λ m. value s b m (a.front n)) (reads p.circuit n) (λ m read. of_line m ((sound p.circuit is.wired).reads_lines n m a_gate read) (suc (a.front n)) (omega arith) (let each = goal_each s.topology a n m read in omega (arith, each, below)))
          ∙ sym (one_delay_later system p.circuit is.wired (p.stride - 1) b n a_gate (a.front n)))

      same_last : before s a n at ≡ before s b n at
      same_last = of_line n (inr a_gate) at (Motions.reaches meaning system p store a is h n a_gate) (let to = settled_gate s.topology a n a_gate in omega arith)

      overflows_alike : Overflows s a n at → Overflows s b n at_b
      overflows_alike over = record {
        from_trim = Motions.reaches meaning system p store b is h' n a_gate;
        changes = λ still. over.changes (same_value ∙ (subst (λ t. value s b n t ≡ before s b n t) (sym same_at) still ∙ sym same_last));
        room_is_full = record { ticks = other.ticks; changes = other.changes; count = other.count ∙ (sym (Motions.kept_are meaning system p store a is h n a_gate over.room_is_full.ticks over.room_is_full.changes) ∙ over.room_is_full.count) };
      }
        where
          same_at : at ≡ at_b
          same_at = ap (λ f. f + (gate_of_line p.circuit n).delay) fronts

          other : Tells s system.start b n at_b (p.progress n).kept (map (seen meaning) (part p.stride n store))
          other = Motions.told meaning system p store b is h' n a_gate

    pub rests_alike : Rests s a n → Rests s b n
    rests_alike (Rests.idle at_goal) = Rests.idle (sym fronts ∙ (at_goal ∙ goals))
    rests_alike (Rests.full below over) = Rests.full (omega (arith, below, fronts, goals)) (overflows_alike below over)
