use Rattle.std.proofs.Common.{ℕ, ◌<◌, ◌≤◌, take, Contains}
use Rattle.semantics.specs.Accounts.{Account, settled}
use Rattle.engine.specs.Lines.{panel}
use Rattle.engine.specs.Looks.{Folded}
use Rattle.engine.specs.Standing.{machine_of, Shows}
use Rattle.engine.proofs.evaluation.fold.Given as goal

abbrev pub invariant-loop-line : goal.invariant-loop-line
invariant-loop-line g l =
    let meaning = g.V.ValueSystem.meaning in
    let system = g.V.ValueSystem.system in
    (a : Account g.V.ValueSystem.Sense) → Shows meaning system (panel l.lines) l.store a → a.trim ≤ l.tick → l.tick < l.fn.first.until → ((m : ℕ) → Contains l.reads m → l.fn.first.until ≤ settled (machine_of system (panel l.lines)).topology a m) → Folded meaning (machine_of system (panel l.lines)) a system l.kind (take l.line-index l.reads) l.tick l.fn.first (record { value = l.value; until = l.until })
