use Rattle.std.proofs.Common.{◌≡◌, ◌+◌, suc, ◌++◌, ◌∷◌, [], take, get_or, ap, sym, ◌∙◌, subst, arith}
use Rattle.std.proofs.Math.Seq.{take-suc}
use Rattle.std.proofs.lemmas.List.{take_all}
use Rattle.std.proofs.lemmas.List.Elements.{Contains-get_or}
use Rattle.engine.specs.Lines.{panel}
use Rattle.engine.specs.Looks.{Folded}
use Rattle.engine.specs.Standing.{machine_of}
use Rattle.engine.proofs.Folding.{folded_none, folded_more}
use Rattle.engine.proofs.evaluation.fold.Goals as goal

pub glance-next-requires-clause-a_line : goal.glance-next-requires-clause-a_line
glance-next-requires-clause-a_line g c = c.requires.of_lines (get_or c.args.reads.now c.loop-line.line-index 0) (Contains-get_or c.args.reads.now c.loop-line.line-index 0 (omega arith))

pub loop-line-init : goal.loop-line-init
loop-line-init g c a shows reaches later limits = folded_none g.V.ValueSystem.meaning (machine_of g.V.ValueSystem.system (panel c.args.lines.now)) a g.V.ValueSystem.system c.args.kind c.args.tick c.args.first later

pub loop-line-preserved : goal.loop-line-preserved
loop-line-preserved g c a shows reaches later limits =
    let meaning = g.V.ValueSystem.meaning in
    let system = g.V.ValueSystem.system in
    let s = machine_of system (panel c.args.lines.now) in
    let reads = c.args.reads.now in
    let i = c.loop-line.line-index in
    let m = get_or reads i 0 in
    let read = Contains-get_or reads i 0 (omega arith) in
    let before = c.loop-line.invariant a shows reaches later limits in
    let near = before.within in
    let far = limits m read in
    let glanced = c.glance-next.ensures a shows reaches before.later (omega arith) in
    let next : take (i + 1) reads ≡ take i reads ++ m ∷ [] = let more : i + 1 ≡ suc i = omega arith in ap (λ j. take j reads) more ∙ take-suc reads i 0 (omega arith) in
    subst (λ done. Folded meaning s a system c.args.kind done c.args.tick c.args.first (record { value = c.combine-value.result; until = c.glance-next.result.until })) (sym next)
    (folded_more meaning s a system c.args.kind c.args.tick c.args.first (take i reads) m (record { value = c.loop-line.value; until = c.loop-line.until }) c.glance-next.result c.combine-value.result before glanced c.combine-value.ensures.answers_the_combined)

pub returns : goal.returns
returns g c a shows reaches later limits =
    let meaning = g.V.ValueSystem.meaning in
    let system = g.V.ValueSystem.system in
    subst (λ done. Folded meaning (machine_of system (panel c.args.lines.now)) a system c.args.kind done c.args.tick c.args.first (record { value = c.loop-line.value; until = c.loop-line.until })) (take_all c.loop-line.line-index c.args.reads.now (omega arith))
    (c.loop-line.invariant a shows reaches later limits)
