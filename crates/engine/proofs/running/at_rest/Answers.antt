use Rattle.engine.specs.Lines.{panel}
use Rattle.engine.specs.Standing.{machine_of}
use Rattle.engine.proofs.Books.{sure}
use Rattle.engine.proofs.Choosing.{first_told, gates_within, rest_decided}
use Rattle.engine.proofs.running.at_rest.Goals as goal

pub returns : goal.returns
returns g c a h =
    let s = machine_of g.V.ValueSystem.system (panel c.args.lines.now) in
    rest_decided s a c.first.result c.is_none.result c.is_none.ensures (first_told s a c.queue_of.result (c.queue_of.ensures a h) (gates_within (panel c.args.lines.now) (sure c.args.lines.now)) c.first.result c.first.ensures.answers)
