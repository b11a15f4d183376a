use Rattle.std.proofs.Common.{ℕ, List}
use Rattle.events.specs.declared.record.EventRecord.{EventRecord}
use Rattle.engine.specs.Lines.{panel}
use Rattle.engine.specs.Makings.{base, AllBegun, RightTo}
use Rattle.engine.specs.Standing.{Keeps}
use Rattle.engine.proofs.making.settle_all.Given as goal

abbrev pub invariant-loop-passes : goal.invariant-loop-passes
invariant-loop-passes g l =
    let p = panel l.lines in
    let START = g.V.ValueSystem.START in
    let begins : List (EventRecord g.row.V.Denot) → ℕ → g.V.ValueSystem.Sense = λ store n. g.V.ValueSystem.meaning (base START l.lines.stride store n) in
    record {
      keeps : Keeps p p l.initial.store l.store;
      begun : AllBegun START l.lines.stride l.initial.store p.circuit → AllBegun START l.lines.stride l.store p.circuit;
      right : (start : ℕ → g.V.ValueSystem.Sense) → RightTo g.V.ValueSystem.system p.circuit start 0 (begins l.initial.store) → RightTo g.V.ValueSystem.system p.circuit start l.passes (begins l.store);
    }
