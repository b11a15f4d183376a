use Rattle.std.proofs.Common.{◌≡◌, ◌≤◌, ap, sym, ◌∙◌, subst, arith}
use Rattle.netlist.specs.declared.progress.Progress.{Progress}
use Rattle.engine.specs.Answers.{Holding}
use Rattle.engine.specs.Lines.{Panel, panel}
use Rattle.engine.specs.Panels.{moved}
use Rattle.engine.specs.Standing.{Stands}
use Rattle.engine.proofs.Books.{sure}
use Rattle.engine.proofs.Gifts.{can_hold, held_stands}
use Rattle.semantics.specs.Moves.{held}
use Rattle.engine.proofs.giving.hold.Goals as goal

pub returns-in_default-clause-answers : goal.returns-in_default-clause-answers
returns-in_default-clause-answers g c a h = (a, Holding.no_input c.in_default.ensures, h)

pub returns-then-tick-progress-clause-answers : goal.returns-then-tick-progress-clause-answers
returns-then-tick-progress-clause-answers g c a h =
    let found = c.in-Some.ensures in
    let end : c.in-Some.progress.tick ≡ a.end c.args.line = ap (λ (x : Progress). x.tick) found.1 ∙ h.shows.ends c.args.line found.0 in
    (a, Holding.past found.0 (let before = c.if-tick-progress.true in omega arith), h)

pub returns-then-tick-gt-LAST_END-clause-answers : goal.returns-then-tick-gt-LAST_END-clause-answers
returns-then-tick-gt-LAST_END-clause-answers g c a h =
    let found = c.in-Some.ensures in
    let end : c.in-Some.progress.tick ≡ a.end c.args.line = ap (λ (x : Progress). x.tick) found.1 ∙ h.shows.ends c.args.line found.0 in
    (a, Holding.late found.0 (let from = c.if-tick-progress.false in omega arith) (let late = c.if-tick-gt-LAST_END.true in omega arith), h)

pub returns-clause-answers : goal.returns-clause-answers
returns-clause-answers g c a h =
    let meaning = g.V.ValueSystem.meaning in
    let system = g.V.ValueSystem.system in
    let l = c.args.lines.now in
    let p = panel l in
    let n = c.args.line in
    let t = c.args.tick in
    let found = c.in-Some.ensures in
    let end : c.in-Some.progress.tick ≡ a.end n = ap (λ (x : Progress). x.tick) found.1 ∙ h.shows.ends n found.0 in
    let not_past : a.end n ≤ t = let from = c.if-tick-progress.false in omega arith in
    let in_time : t ≤ 2000000000 = let late = c.if-tick-gt-LAST_END.false in omega arith in
    let kept = ap (λ (x : Progress). x.kept) found.1 in
    let same = c.advance.ensures ∙ ap (λ k. moved p n (record { tick = t; kept = k })) kept in (
      held a n t,
      Holding.accepted (can_hold meaning system p c.args.store.now a (sure l) h n t found.0 not_past in_time),
      subst (λ (o : Panel). Stands meaning system o c.args.store.now (held a n t)) (sym same) (held_stands meaning system p c.args.store.now a (sure l) h n t found.0 not_past in_time),
    )
