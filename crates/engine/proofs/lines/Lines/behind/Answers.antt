use Rattle.std.proofs.Common.{◌+◌, ◌≤◌, ap, sym, subst, ⊎_elim, arith}
use Rattle.std.proofs.lemmas.Bool.{cases_eq}
use Rattle.netlist.specs.declared.progress.Progress.{Progress}
use Rattle.engine.specs.Lines.{panel}
use Rattle.engine.proofs.lines.Lines.behind.Goals as goal

pub loop-place-init : goal.loop-place-init
loop-place-init c n some none = absurd (omega arith)

pub loop-place-preserved : goal.loop-place-preserved
loop-place-preserved c n some within =
    let here = ap (λ (x : Progress). x.tick) c.progress.ensures in
    let reached = c.if-progress-tick.false in
    ⊎_elim (λ is. subst (λ m. c.args.tick ≤ ((panel c.args.self.now).progress m).tick) (sym is) (omega arith)) (λ other. c.loop-place.invariant n some (omega (arith, other))) (cases_eq n (c.loop-place.place + 1))

pub returns : goal.returns
returns c n range = c.loop-place.invariant n range.0 (let end = c.loop-place-test.false in omega (arith, range.1))
