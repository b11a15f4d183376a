use Rattle.std.proofs.Common.{◌≡◌, ℕ, ◌-◌, ◌<◌, length, take, drop, get_or, ap, ◌∙◌, subst, arith, Contains}
use Rattle.std.proofs.lemmas.List.Elements.{Contains-get_or}
use Rattle.netlist.specs.GateRow.{MarkedGate}
use Rattle.engine.specs.Lines.{panel}
use Rattle.engine.specs.Looks.{Evaluated}
use Rattle.engine.specs.Standing.{machine_of}
use Rattle.engine.specs.declared.evaluation.Look.{Look}
use Rattle.engine.proofs.Folding.{evaluated, first_and_rest, of_rest}
use Rattle.engine.proofs.evaluation.evaluate.Goals as goal

pub glance-first-requires-clause-a_line : goal.glance-first-requires-clause-a_line
glance-first-requires-clause-a_line g c =
    let reads = c.reads-reads.result.now in
    let some : 0 < length reads = let s = c.requires.some in omega (arith, ap length c.reads-reads.ensures) in
    c.requires.of_lines (get_or reads 0 0) (subst (λ ms. Contains ms (get_or reads 0 0)) c.reads-reads.ensures (Contains-get_or reads 0 0 some))

pub fold-all-requires-clause-of_lines : goal.fold-all-requires-clause-of_lines
fold-all-requires-clause-of_lines g c m among =
    let reads = c.reads-reads.result.now in
    c.requires.of_lines m (subst (λ ms. Contains ms m) c.reads-reads.ensures (of_rest reads m among))

pub returns : goal.returns
returns g c a shows reaches before limits =
    let meaning = g.V.ValueSystem.meaning in
    let system = g.V.ValueSystem.system in
    let s = machine_of system (panel c.args.lines.now) in
    let reads = c.reads-reads.result.now in
    let row = c.args.row.now in
    let some : 0 < length reads = let s = c.requires.some in omega (arith, ap length c.reads-reads.ensures) in
    let read : (m : ℕ) → Contains reads m → Contains row.gate.reads m = λ m among. subst (λ ms. Contains ms m) c.reads-reads.ensures among in
    let first = get_or reads 0 0 in
    let glanced = c.glance-first.ensures a shows reaches before (limits first (read first (Contains-get_or reads 0 0 some))) in
    let near = glanced.within in
    let folded = c.fold-all.ensures a shows reaches glanced.later (λ m among. let far = limits m (read m (of_rest reads m among)) in omega arith) in
    let kind : c.row.inside.kind ≡ row.gate.kind = ap (λ (r : MarkedGate). r.gate.kind) c.row.view_is in
    let look : Look g.row.V.Denot = record { value = c.finish.result; until = c.fold-all.result.until } in
    subst (λ k. Evaluated meaning s a system k row.gate.reads c.args.tick c.args.limit look) kind
    (subst (λ ms. Evaluated meaning s a system c.row.inside.kind ms c.args.tick c.args.limit look) (first_and_rest reads some ∙ c.reads-reads.ensures)
    (evaluated meaning s a system c.row.inside.kind c.args.tick c.glance-first.result first (take (length reads - 1) (drop 1 reads)) c.args.limit c.fold-all.result c.finish.result glanced folded c.finish.ensures.answers_the_finished))
