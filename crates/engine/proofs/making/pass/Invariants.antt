use Rattle.std.proofs.Common.{◌≡◌, ℕ, List, false}
use Rattle.events.specs.declared.record.EventRecord.{EventRecord}
use Rattle.engine.specs.Lines.{panel}
use Rattle.engine.specs.Makings.{base, AllBegun, RightTo}
use Rattle.engine.specs.Standing.{Keeps}
use Rattle.engine.proofs.Beginnings.{PassedTo}
use Rattle.engine.proofs.making.pass.Given as goal

abbrev pub invariant-loop-place : goal.invariant-loop-place
invariant-loop-place g l =
    let p = panel l.lines in
    let START = g.V.ValueSystem.START in
    let begins : List (EventRecord g.row.V.Denot) → ℕ → g.V.ValueSystem.Sense = λ store n. g.V.ValueSystem.meaning (base START l.lines.stride store n) in
    record {
      keeps : Keeps p p l.initial.store l.store;
      begun : AllBegun START l.lines.stride l.initial.store p.circuit → AllBegun START l.lines.stride l.store p.circuit;
      right : (start : ℕ → g.V.ValueSystem.Sense) (k : ℕ) → RightTo g.V.ValueSystem.system p.circuit start k (begins l.initial.store) → PassedTo g.V.ValueSystem.system p.circuit start k l.place (begins l.store);
      unaltered : l.altered ≡ false → l.store ≡ l.initial.store;
    }
