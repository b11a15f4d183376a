use Rattle.std.proofs.Common.{◌≡◌, ℕ, suc, ◌<◌, length, get_or}
use Rattle.netlist.specs.Closed.{circuit}
use Rattle.netlist.specs.Walks.{reads}
use Rattle.engine.proofs.readers.reads_at.Given as goal

abbrev pub invariant-loop-line : goal.invariant-loop-line
invariant-loop-line l = record {
  long : length l.reads ≡ 1024;
  read : (i : ℕ) → i < l.line → get_or l.reads i 0 ≡ get_or (reads (circuit l.netlist) (suc i)) l.place 0;
}
