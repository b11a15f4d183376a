use Rattle.std.proofs.Common.{Ok, sym, ◌∙◌, subst, arith}
use Rattle.std.proofs.lemmas.Bool.Decides.{not_from_Decides}
use Rattle.engine.specs.Answers.{Valued}
use Rattle.engine.specs.Lines.{panel}
use Rattle.engine.specs.Standing.{machine_of}
use Rattle.engine.proofs.Books.{sure, line_of, of_line, settled_exact}
use Rattle.engine.proofs.asking.value.Goals as goal

pub returns-then-not-has : goal.returns-then-not-has
returns-then-not-has g c a h = Valued.no_line (λ line. not_from_Decides c.has.result c.has.ensures c.if-not-has.true (of_line (panel c.args.lines.now) c.args.line line))

pub returns-then-tick-lines : goal.returns-then-tick-lines
returns-then-tick-lines g c a h =
    let line = line_of (panel c.args.lines.now) c.args.line (c.has.ensures.0 c.if-not-has.false) in
    Valued.past line (let before = c.if-tick-lines.true in omega (arith, h.shows.trim))

pub returns-then-tick-settled : goal.returns-then-tick-settled
returns-then-tick-settled g c a h =
    let p = panel c.args.lines.now in
    let line = line_of p c.args.line (c.has.ensures.0 c.if-not-has.false) in
    let settled = c.settled-settled.ensures ∙ settled_exact g.V.ValueSystem.meaning g.V.ValueSystem.system p c.args.store.now a (sure c.args.lines.now) h c.args.line line in
    Valued.unsettled line (let from = c.if-tick-lines.false in omega (arith, h.shows.trim)) (let past = c.if-tick-settled.true in omega arith)

pub returns : goal.returns
returns g c a h =
    let system = g.V.ValueSystem.system in
    let p = panel c.args.lines.now in
    let n = c.args.line in
    let line = line_of p n (c.has.ensures.0 c.if-not-has.false) in
    let settled = c.settled-settled.ensures ∙ settled_exact g.V.ValueSystem.meaning system p c.args.store.now a (sure c.args.lines.now) h n line in
    let from = c.if-tick-lines.false in
    let before = c.if-tick-settled.false in
    let seen = c.glance.ensures a h.shows (omega (arith, h.shows.trim)) before (omega arith) in
    subst (λ x. Valued (machine_of system p) a n c.args.tick (Ok x)) (sym seen.shown) (Valued.told line (omega (arith, h.shows.trim)) (omega arith))
