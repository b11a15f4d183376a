use Rattle.std.proofs.Common.{ℕ, ◌≤◌}
use Rattle.semantics.specs.Accounts.{Account, settled}
use Rattle.semantics.specs.Circuits.{topology}
use Rattle.semantics.specs.Machines.{IsLine}
use Rattle.engine.specs.Droppings.{Dropping}
use Rattle.engine.specs.Lines.{panel}
use Rattle.engine.specs.Standing.{Stands, Keeps}
use Rattle.engine.proofs.trimming.drop_all.Given as goal

abbrev pub invariant-loop-place : goal.invariant-loop-place
invariant-loop-place g l =
    let meaning = g.V.ValueSystem.meaning in
    let system = g.V.ValueSystem.system in
    record {
      keeps : Keeps (panel l.initial.lines) (panel l.lines) l.initial.store l.store;
      drops : (a : Account g.V.ValueSystem.Sense) → Stands meaning system (panel l.initial.lines) l.initial.store a → a.trim ≤ l.tick → ((n : ℕ) → IsLine (topology (panel l.initial.lines).circuit) n → l.tick ≤ settled (topology (panel l.initial.lines).circuit) a n) → Dropping meaning system (panel l.initial.lines) a l.tick l.place (panel l.lines) l.store;
    }
