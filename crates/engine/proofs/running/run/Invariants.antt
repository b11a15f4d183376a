use Rattle.std.proofs.Common.{◌-◌, ◌≤◌}
use Rattle.semantics.specs.Accounts.{Account}
use Rattle.engine.specs.Lines.{panel}
use Rattle.engine.specs.Standing.{machine_of, Stands, Keeps}
use Rattle.engine.proofs.Runs.{UnderQueue}
use Rattle.engine.proofs.running.run.Given as goal

abbrev pub invariant-loop-place : goal.invariant-loop-place
invariant-loop-place g l =
    let meaning = g.V.ValueSystem.meaning in
    let system = g.V.ValueSystem.system in
    record {
      few : l.takes ≤ l.most;
      keeps : Keeps (panel l.initial.lines) (panel l.lines) l.initial.store l.store;
      under : (a : Account g.V.ValueSystem.Sense) → Stands meaning system (panel l.initial.lines) l.initial.store a → UnderQueue meaning system (machine_of system (panel l.initial.lines)) a l.takes (panel l.lines) l.store l.queue;
    }

abbrev pub decreases-loop-place : goal.decreases-loop-place
decreases-loop-place g l = l.most - l.takes
