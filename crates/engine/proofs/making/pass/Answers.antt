use Rattle.std.proofs.Common.{◌≡◌, ℕ, List, sym, ◌∙◌, subst, refl, arith}
use Rattle.std.proofs.lemmas.Bool.{both_ways}
use Rattle.events.specs.declared.record.EventRecord.{EventRecord}
use Rattle.semantics.specs.Circuits.{lines}
use Rattle.engine.specs.Lines.{panel}
use Rattle.engine.specs.Makings.{base}
use Rattle.engine.proofs.Beginnings.{passed_none, passed_one, passed_all, PassedTo}
use Rattle.engine.proofs.Books.{sure}
use Rattle.engine.proofs.Moving.{keeps_on}
use Rattle.engine.proofs.making.pass.Goals.{then-settle, else-settle}
use Rattle.engine.proofs.making.pass.Goals as goal

pub loop-place-init : goal.loop-place-init
loop-place-init g c = record {
  keeps = record { circuit = refl; stride = refl; same_length = refl; beyond = refl };
  begun = λ begins. begins;
  right = λ start k right. passed_none g.V.ValueSystem.system (panel c.args.lines.now).circuit start k (λ n. g.V.ValueSystem.meaning (base g.V.ValueSystem.START c.args.lines.now.stride c.args.store.now n)) right;
  unaltered = λ is. refl;
}

pub loop-place-preserved : goal.loop-place-preserved
loop-place-preserved g c =
    let p = panel c.args.lines.now in
    let so_far = c.loop-place.invariant in
    let begins : List (EventRecord g.row.V.Denot) → ℕ → g.V.ValueSystem.Sense = λ store n. g.V.ValueSystem.meaning (base g.V.ValueSystem.START c.args.lines.now.stride store n) in
    record {
      keeps = keeps_on p p p c.args.store.now c.loop-place.store c.settle.new.store so_far.keeps c.settle.ensures.keeps;
      begun = λ begins. c.settle.ensures.begun (so_far.begun begins);
      right = λ start k right. passed_one g.V.ValueSystem.system p.circuit start k (sure c.args.lines.now).wired c.loop-place.place (begins c.loop-place.store) (begins c.settle.new.store) (so_far.right start k right) c.settle.ensures.settles;
      unaltered = λ none. elim c.if-settle.branch [ then-settle w ↦ absurd (both_ways c.if-settle.altered none w.altered-is) | else-settle w ↦ c.settle.ensures.unaltered w.if-settle.false ∙ so_far.unaltered (sym w.altered-is ∙ none) ];
    }

pub returns-clause-deeper : goal.returns-clause-deeper
returns-clause-deeper g c start k right =
    let p = panel c.args.lines.now in
    let past = c.loop-place-test.false in
    let within = c.loop-place.auto.place-end in
    let all : c.loop-place.place ≡ lines p.circuit = omega (arith, c.lines-place-end.ensures) in
    let begins : ℕ → g.V.ValueSystem.Sense = λ n. g.V.ValueSystem.meaning (base g.V.ValueSystem.START c.args.lines.now.stride c.loop-place.store n) in
    passed_all g.V.ValueSystem.system p.circuit start k begins (subst (λ j. PassedTo g.V.ValueSystem.system p.circuit start k j begins) all (c.loop-place.invariant.right start k right))
