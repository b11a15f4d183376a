use Rattle.std.proofs.Common.{◌-◌, get_or}
use Rattle.engine.specs.Lines.{panel}
use Rattle.engine.specs.Standing.{Keeps}
use Rattle.engine.proofs.Bases.{BegunTo}
use Rattle.engine.proofs.making.begin_all.Given as goal

abbrev pub invariant-loop-place : goal.invariant-loop-place
invariant-loop-place g l =
    let p = panel l.lines in
    record {
      keeps : Keeps p p l.initial.store l.store;
      begun : BegunTo g.V.ValueSystem.START p.stride (λ n. get_or l.starts (n - 1) g.V.ValueSystem.START) p.circuit l.store l.place;
    }
