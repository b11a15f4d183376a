use Rattle.std.proofs.Common.{◌≡◌, ℕ, ◌+◌, ◌-◌, ◌*◌, ◌≤◌, Contains}
use Rattle.netlist.specs.Walks.{reads}
use Rattle.semantics.specs.Accounts.{Account, settled}
use Rattle.semantics.specs.Circuits.{topology}
use Rattle.engine.specs.Lines.{panel}
use Rattle.engine.specs.Panels.{moved, last_tick}
use Rattle.engine.specs.Standing.{Shows}
use Rattle.engine.specs.Recordings.{OnlyThere}
use Rattle.engine.proofs.Ways.{OnWay}
use Rattle.engine.proofs.taking.follow.Given as goal

abbrev pub invariant-loop-lines : goal.invariant-loop-lines
invariant-loop-lines g l =
    let meaning = g.V.ValueSystem.meaning in
    let system = g.V.ValueSystem.system in
    record {
      moves_one : panel l.lines ≡ moved (panel l.initial.lines) l.line ((panel l.lines).progress l.line);
      only_there : OnlyThere ((l.line - 1) * l.initial.lines.stride) l.initial.lines.stride l.initial.store l.store;
      follows : (a : Account g.V.ValueSystem.Sense) → Shows meaning system (panel l.initial.lines) l.initial.store a → a.trim ≤ a.front l.line → a.front l.line ≤ l.goal → l.goal + l.row.gate.delay ≤ last_tick → ((m : ℕ) → Contains (reads (panel l.initial.lines).circuit l.line) m → l.goal ≤ settled (topology (panel l.initial.lines).circuit) a m) → OnWay meaning system a l.line l.goal (panel l.lines) l.store;
    }

abbrev pub decreases-loop-lines : goal.decreases-loop-lines
decreases-loop-lines g l = l.goal - ((panel l.lines).progress l.line).tick
