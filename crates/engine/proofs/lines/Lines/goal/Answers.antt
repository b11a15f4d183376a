use Rattle.std.proofs.Common.{map, take, min, get_or, ap, ◌∙◌, subst, arith, Contains}
use Rattle.std.specs.Prelude.{fold}
use Rattle.std.proofs.lemmas.List.Elements.{Contains-get_or}
use Rattle.engine.specs.Lines.{panel}
use Rattle.engine.specs.Panels.{settled_in, last_tick}
use Rattle.engine.proofs.Least.{one_less}
use Rattle.engine.proofs.lines.Lines.goal.Goals as goal

pub settled-requires : goal.settled-requires
settled-requires c =
    let reads = c.reads-line-items.result.now in
    c.requires (get_or reads c.loop-line.line-index 0) (subst (λ ms. Contains ms (get_or reads c.loop-line.line-index 0)) c.reads-line-items.ensures (Contains-get_or reads c.loop-line.line-index 0 (omega arith)))

pub loop-line-preserved : goal.loop-line-preserved
loop-line-preserved c =
    let f = settled_in (panel c.args.self.now) in
    let i = c.loop-line.line-index in
    let reads = c.reads-line-items.result.now in
    c.min-goal.ensures ∙ (ap (λ x. min x c.settled.result) c.loop-line.invariant ∙ (ap (min (fold min last_tick (map f (take i reads)))) c.settled.ensures ∙ one_less f last_tick reads i (omega arith)))
