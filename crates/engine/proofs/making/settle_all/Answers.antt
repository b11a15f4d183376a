use Rattle.std.proofs.Common.{◌≡◌, ℕ, List, suc, ◌+◌, sym, subst, rules, arith}
use Rattle.events.specs.declared.record.EventRecord.{EventRecord}
use Rattle.semantics.specs.Circuits.{lines}
use Rattle.engine.specs.Lines.{panel}
use Rattle.engine.specs.Makings.{base, RightTo, AllRight}
use Rattle.engine.proofs.Beginnings.{all_right, right_on, least_right}
use Rattle.engine.proofs.Moving.{keeps_on}
use Rattle.engine.proofs.making.settle_all.Goals as goal

pub returns-then-not-pass-clause-right : goal.returns-then-not-pass-clause-right
returns-then-not-pass-clause-right g c start right =
    let system = g.V.ValueSystem.system in
    let p = panel c.args.lines.now in
    let begins : List (EventRecord g.row.V.Denot) → ℕ → g.V.ValueSystem.Sense = λ store n. g.V.ValueSystem.meaning (base g.V.ValueSystem.START c.args.lines.now.stride store n) in
    let same = c.pass.ensures.unaltered c.if-not-pass.true in
    let right_here = c.loop-passes.invariant.right start right in
    let next : (k : ℕ) → RightTo system p.circuit start k (begins c.loop-passes.store) → RightTo system p.circuit start (suc k) (begins c.loop-passes.store) = λ k before. subst (λ now. RightTo system p.circuit start (suc k) (begins now)) same (c.pass.ensures.deeper start k before) in
    subst (λ now. AllRight system p.circuit start (begins now)) (sym (search rules))
    (subst (λ now. AllRight system p.circuit start (begins now)) (sym same)
    (all_right system p.circuit start 0 (begins c.loop-passes.store)
    (right_on system p.circuit start (begins c.loop-passes.store) next (lines p.circuit + 1) (least_right system p.circuit start (begins c.loop-passes.store) c.loop-passes.passes right_here))))

pub loop-passes-preserved : goal.loop-passes-preserved
loop-passes-preserved g c =
    let p = panel c.args.lines.now in
    let so_far = c.loop-passes.invariant in
    let begins : List (EventRecord g.row.V.Denot) → ℕ → g.V.ValueSystem.Sense = λ store n. g.V.ValueSystem.meaning (base g.V.ValueSystem.START c.args.lines.now.stride store n) in
    let one_more : suc c.loop-passes.passes ≡ c.loop-passes.passes + 1 = omega arith in
    record {
      keeps = keeps_on p p p c.args.store.now c.loop-passes.store c.pass.new.store so_far.keeps c.pass.ensures.keeps;
      begun = λ begins. c.pass.ensures.begun (so_far.begun begins);
      right = λ start right. subst (λ k. RightTo g.V.ValueSystem.system p.circuit start k (begins c.pass.new.store)) one_more (c.pass.ensures.deeper start c.loop-passes.passes (so_far.right start right));
    }

pub returns-clause-right : goal.returns-clause-right
returns-clause-right g c start right =
    let p = panel c.args.lines.now in
    let past = c.loop-passes-test.false in
    let within = c.loop-passes.auto.passes-end in
    let begins : ℕ → g.V.ValueSystem.Sense = λ n. g.V.ValueSystem.meaning (base g.V.ValueSystem.START c.args.lines.now.stride c.loop-passes.store n) in
    let all : c.loop-passes.passes ≡ lines p.circuit + 1 = omega (arith, c.lines-passes-end.ensures) in
    all_right g.V.ValueSystem.system p.circuit start 0 begins (subst (λ k. RightTo g.V.ValueSystem.system p.circuit start k begins) all (c.loop-passes.invariant.right start right))
