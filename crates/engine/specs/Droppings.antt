-- Lines whose changes are dropped one after another; it serves the contracts of the engine's own functions.
use Rattle.std.specs.Prelude.{◌≡◌, ℕ, ◌<◌, ◌≤◌, List, map}
use Rattle.events.specs.declared.record.EventRecord.{EventRecord}
use Rattle.semantics.specs.Accounts.{Account, settled}
use Rattle.semantics.specs.Circuits.{topology}
use Rattle.semantics.specs.Machines.{IsLine}
use Rattle.semantics.specs.Moves.{trimmed}
use Rattle.values.specs.Systems.{System}
use Rattle.engine.specs.Lines.{Panel}
use Rattle.engine.specs.Standing.{Tells, machine_of}
use Rattle.engine.specs.Stores.{part, seen}

-- the lines up to one are told from a tick on, and those after it as before; all have come as far as before
pub record Dropping {V M : Type 0} (meaning : V → M) (system : System M) (p : Panel) (a : Account M) (t k : ℕ) (q : Panel) (store : List (EventRecord V)) : Type 0 where
  pub ticks : (m : ℕ) → (q.progress m).tick ≡ (p.progress m).tick
  pub done : (m : ℕ) → IsLine (topology p.circuit) m → m ≤ k → Tells (machine_of system p) system.start (trimmed a t) m (settled (topology p.circuit) a m) (q.progress m).kept (map (seen meaning) (part q.stride m store))
  pub left : (m : ℕ) → IsLine (topology p.circuit) m → k < m → Tells (machine_of system p) system.start a m (settled (topology p.circuit) a m) (q.progress m).kept (map (seen meaning) (part q.stride m store))
