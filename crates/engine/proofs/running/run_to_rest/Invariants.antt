use Rattle.std.proofs.Common.{◌*◌, ◌≤◌}
use Rattle.semantics.specs.Accounts.{Account}
use Rattle.engine.specs.Lines.{panel}
use Rattle.engine.specs.Standing.{Stands, Keeps}
use Rattle.engine.proofs.Runs.{FullRuns}
use Rattle.engine.proofs.running.run_to_rest.Given as goal

abbrev pub invariant-loop-runs : goal.invariant-loop-runs
invariant-loop-runs g l =
    let meaning = g.V.ValueSystem.meaning in
    let system = g.V.ValueSystem.system in
    let p = panel l.initial.lines in
    record {
      few : l.takes ≤ l.runs * 4294967295;
      keeps : Keeps p (panel l.lines) l.initial.store l.store;
      full : (a : Account g.V.ValueSystem.Sense) → Stands meaning system p l.initial.store a → FullRuns meaning system p a l.runs l.takes (panel l.lines) l.store;
    }
