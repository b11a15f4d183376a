-- Whether a gate's front can move.
use Rattle.std.proofs.Common.{◌≡◌, ℕ, suc, ◌+◌, ◌-◌, ◌<◌, ◌≤◌, List, ◌∷◌, length, map, take, get_or, ap, sym, ◌∙◌, subst, inr, arith}
use Rattle.events.specs.declared.record.EventRecord.{EventRecord}
use Rattle.gates.specs.Functions.{gate_function}
use Rattle.semantics.specs.Accounts.{Account, goal, before, value, Stable}
use Rattle.semantics.specs.Changes.{Changes}
use Rattle.semantics.specs.Circuits.{topology, gate_of_line}
use Rattle.semantics.specs.Machines.{Machine, IsGate}
use Rattle.semantics.specs.Moves.{CanMove, Rests}
use Rattle.semantics.proofs.Goals.{settled_gate}
use Rattle.semantics.proofs.Listing.{one_list}
use Rattle.values.specs.Systems.{System}
use Rattle.engine.specs.declared.evaluation.Look.{Look}
use Rattle.engine.specs.Lines.{Panel}
use Rattle.engine.specs.Looks.{Evaluated}
use Rattle.engine.specs.Standing.{Tells, machine_of, Stands}
use Rattle.engine.specs.Stores.{part, seen}
use Rattle.engine.proofs.Books.{Sure, in_order}
use Rattle.engine.proofs.Following.{one_delay_later}
use Rattle.engine.proofs.Stepping.{same_reads}
use Rattle.engine.proofs.Telling.{last_told}

module _ {V M : Type 0} (meaning : V → M) (system : System M) (p : Panel) (store : List (EventRecord V)) (a : Account M) (is : Sure p) (h : Stands meaning system p store a) (n : ℕ) (a_gate : IsGate (topology p.circuit) n) where
  abbrev s : Machine M
  s = machine_of system p

  -- the tick at which the line may change next
  abbrev next : ℕ
  next = a.front n + (gate_of_line p.circuit n).delay

  pub told : Tells s system.start a n next (p.progress n).kept (map (seen meaning) (part p.stride n store))
  told = subst (λ to. Tells s system.start a n to (p.progress n).kept (map (seen meaning) (part p.stride n store))) (settled_gate (topology p.circuit) a n a_gate) (h.shows.records n (inr a_gate))

  pub reaches : a.trim ≤ next
  reaches = let r = (in_order meaning system p store a is h).trim_within_fronts n a_gate in omega arith

  -- as many changes are kept as there are
  pub kept_are : (ticks : List ℕ) → Changes (Stable s a n) next a.trim ticks → length ticks ≡ (p.progress n).kept
  kept_are ticks changes = ap length (one_list changes told.changes) ∙ told.count

  pub idle : goal (topology p.circuit) a n ≤ a.front n → Rests s a n
  idle past = let within = (in_order meaning system p store a is h).fronts_within_goals n a_gate in Rests.idle (omega arith)

  module _ (below : a.front n < goal (topology p.circuit) a n) where
    pub roomy : (p.progress n).kept + 1 < p.stride → CanMove s a n
    roomy some = record { a_gate = a_gate; below = below; room = λ over. let full = over.room_is_full in absurd (omega (arith, kept_are full.ticks full.changes, full.count)) }

    pub quiet : Stable s a n next → CanMove s a n
    quiet still = record { a_gate = a_gate; below = below; room = λ over. over.changes still }

    pub full : p.stride ≤ (p.progress n).kept + 1 → (p.progress n).kept < p.stride → (Stable s a n next → ⊥) → Rests s a n
    full none fits changes = Rests.full below (record { from_trim = reaches; changes = changes; room_is_full = record { ticks = told.ticks; changes = told.changes; count = omega (arith, told.count) } })

    -- the value that comes next, and the last
    module _ (look : Look V) (seen_here : Evaluated meaning s a system (gate_of_line p.circuit n).kind (gate_of_line p.circuit n).reads (a.front n) (goal (topology p.circuit) a n) look) (base : EventRecord V) (changes : List (EventRecord V)) (events : base ∷ changes ≡ take (suc (p.progress n).kept) (part p.stride n store)) where
      comes_next : meaning look.value ≡ value s a n next
      comes_next =
          seen_here.shown
          ∙ sym (one_delay_later system p.circuit is.wired (p.stride - 1) a n a_gate (a.front n) ∙ ap (λ ms. gate_function system (gate_of_line p.circuit n).kind (map (λ m. value s a m (a.front n)) ms)) (same_reads p.circuit n a_gate))

      last_is : (last : EventRecord V) → last ≡ get_or (base ∷ changes) (length changes) base → meaning last.value ≡ before s a n next
      last_is last same = ap (λ (r : EventRecord V). meaning r.value) same ∙ last_told meaning s system.start a n next (p.progress n).kept (part p.stride n store) told base changes events base reaches

      pub still : (last : EventRecord V) → last ≡ get_or (base ∷ changes) (length changes) base → meaning look.value ≡ meaning last.value → Stable s a n next
      still last same equal = sym comes_next ∙ (equal ∙ last_is last same)

      pub moved : (last : EventRecord V) → last ≡ get_or (base ∷ changes) (length changes) base → (meaning look.value ≡ meaning last.value → ⊥) → Stable s a n next → ⊥
      moved last same other steady = other (comes_next ∙ (steady ∙ sym (last_is last same)))
