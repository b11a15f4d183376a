use Rattle.std.proofs.Common.{ℕ, Ok, ap, sym, ◌∙◌, subst}
use mathlib.Core.Path.{ap₂}
use Rattle.std.proofs.lemmas.Bool.Decides.{not_from_Decides}
use Rattle.netlist.specs.declared.progress.Progress.{Progress}
use Rattle.engine.specs.Answers.{Stated}
use Rattle.engine.specs.Lines.{panel}
use Rattle.engine.specs.Standing.{machine_of}
use Rattle.engine.proofs.Books.{sure, line_of, of_line, settled_exact}
use Rattle.engine.proofs.asking.state.Goals as goal

pub returns-then-not-has : goal.returns-then-not-has
returns-then-not-has g c a h = Stated.no_line (λ line. not_from_Decides c.has.result c.has.ensures c.if-not-has.true (of_line (panel c.args.lines.now) c.args.line line))

pub returns : goal.returns
returns g c a h =
    let system = g.V.ValueSystem.system in
    let p = panel c.args.lines.now in
    let n = c.args.line in
    let line = line_of p n (c.has.ensures.0 c.if-not-has.false) in
    let told = h.shows.records n line in
    let settled = c.settled.ensures ∙ settled_exact g.V.ValueSystem.meaning system p c.args.store.now a (sure c.args.lines.now) h n line in
    let kept = ap (λ (x : Progress). x.kept) c.progress.ensures ∙ sym told.count in
    subst (λ (x : ℕ × ℕ). Stated (machine_of system p) a n (Ok x)) (ap₂ (λ t k. (t, k)) (sym settled) (sym kept)) (Stated.told line told.changes)
