-- What is seen of lines at a tick; it serves the contracts of the engine's own functions.
use Rattle.std.specs.Prelude.{◌≡◌, ℕ, suc, ◌+◌, ◌<◌, ◌≤◌, Bool, true, false, ◌⊎◌, List, map, fold, Contains}
use Rattle.netlist.specs.declared.kind.Kind.{Kind}
use Rattle.values.specs.Systems.{System}
use Rattle.gates.specs.Functions.{combined, gate_function}
use Rattle.events.specs.declared.record.EventRecord.{EventRecord}
use Rattle.semantics.specs.Accounts.{Account, value, Stable, Overflows}
use Rattle.semantics.specs.Changes.{StableOn}
use Rattle.semantics.specs.Circuits.{gate_of_line}
use Rattle.semantics.specs.Machines.{Machine}
use Rattle.semantics.specs.Moves.{taken}
use Rattle.engine.specs.Lines.{Panel}
use Rattle.engine.specs.Standing.{machine_of, Shows}
use Rattle.engine.specs.declared.evaluation.Look.{Look}

module _ {V M : Type 0} (meaning : V → M) (s : Machine M) (a : Account M) where
  -- a line has a value at a tick, and is stable after it up to another, which is not beyond a limit
  pub record Glanced (n tick limit : ℕ) (look : Look V) : Type 0 where
    pub shown : meaning look.value ≡ value s a n tick
    pub later : tick < look.until
    pub within : look.until ≤ limit
    pub steady : StableOn (Stable s a n) (suc tick) look.until

  -- a gate's function of the values of some lines at a tick, and how far all of them are stable after it
  pub record Evaluated (system : System M) (kind : Kind) (reads : List ℕ) (tick limit : ℕ) (look : Look V) : Type 0 where
    pub shown : meaning look.value ≡ gate_function system kind (map (λ m. value s a m tick) reads)
    pub later : tick < look.until
    pub within : look.until ≤ limit
    pub steady : (m : ℕ) → Contains reads m → StableOn (Stable s a m) (suc tick) look.until

  -- what comes of folding the values of more lines at a tick into a value
  pub record Folded (system : System M) (kind : Kind) (reads : List ℕ) (tick : ℕ) (before after : Look V) : Type 0 where
    pub folds : meaning after.value ≡ fold (combined system kind) (meaning before.value) (map (λ m. value s a m tick) reads)
    pub later : tick < after.until
    pub within : after.until ≤ before.until
    pub steady : (m : ℕ) → Contains reads m → StableOn (Stable s a m) (suc tick) after.until

-- What a step of a gate comes to: its front moves on, but not beyond its goal; or a change comes for which there is no room.
pub data Stepped {V M : Type 0} (meaning : V → M) (system : System M) (p : Panel) (a : Account M) (n goal : ℕ) (p' : Panel) (store' : List (EventRecord V)) : Bool → Type 0 where
  onward : {until : ℕ} → a.front n < until → until ≤ goal → Shows meaning system p' store' (taken a n until) → Stepped meaning system p a n goal p' store' true
  stopped : Overflows (machine_of system p) a n (a.front n + (gate_of_line p.circuit n).delay) → Shows meaning system p' store' a → Stepped meaning system p a n goal p' store' false

-- A gate's front has moved on to its goal, or to where a change comes for which there is no room.
pub record Followed {V M : Type 0} (meaning : V → M) (system : System M) (p : Panel) (a : Account M) (n goal : ℕ) (p' : Panel) (store' : List (EventRecord V)) : Type 0 where
  pub front : ℕ
  pub onward : a.front n ≤ front
  pub within : front ≤ goal
  pub shows : Shows meaning system p' store' (taken a n front)
  pub stops : (front ≡ goal) ⊎ Overflows (machine_of system p) a n (front + (gate_of_line p.circuit n).delay)
