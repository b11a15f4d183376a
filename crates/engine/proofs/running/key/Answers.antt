use Rattle.std.proofs.Common.{◌≡◌, ap, ◌∙◌, arith}
use Rattle.netlist.specs.GateRow.{MarkedGate}
use Rattle.netlist.specs.declared.progress.Progress.{Progress}
use Rattle.engine.specs.Lines.{panel}
use Rattle.engine.specs.Orders.{Keyed}
use Rattle.engine.proofs.Books.{sure, goal_in_range}
use Rattle.engine.proofs.running.key.Goals as goal

pub returns-in-Some : goal.returns-in-Some
returns-in-Some g c a h =
    let l = c.args.lines.now in
    let row = c.in-Some.ensures.told in
    let moves = c.can_move.ensures.moves a h c.if-can_move.true in
    let front : c.row.inside.progress.tick ≡ a.front c.args.line = ap (λ (r : MarkedGate). r.progress.tick) c.row.view_is ∙ (ap (λ (x : Progress). x.tick) row.2 ∙ h.shows.fronts c.args.line row.0) in
    let below = moves.below in
    let most = goal_in_range g.V.ValueSystem.meaning g.V.ValueSystem.system (panel l) c.args.store.now a (sure l) h c.args.line row.0 in
    Keyed.moves moves front (omega arith)
