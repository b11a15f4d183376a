use Rattle.semantics.proofs.Wiring.{a_line}
use Rattle.engine.specs.Lines.{panel}
use Rattle.engine.proofs.Telling.{in_order, glanced}
use Rattle.engine.proofs.evaluation.glance.Goals as goal

pub returns : goal.returns
returns g c a shows reaches before within =
    let meaning = g.V.ValueSystem.meaning in
    let lines = c.args.lines.now in
    let line = a_line ((panel lines).circuit) c.args.line c.requires.a_line.0 c.requires.a_line.1 in
    let told = shows.records c.args.line line in
    let events = c.events_of.result in
    let found = c.around-around.ensures (in_order meaning _ _ a c.args.line _ _ _ told events.base events.changes.now c.events_of.ensures) in
    glanced meaning _ _ a c.args.line _ _ _ told events.base events.changes.now c.events_of.ensures c.args.tick c.args.limit c.around-around.result c.until-until.result before within found c.until-until.ensures reaches
