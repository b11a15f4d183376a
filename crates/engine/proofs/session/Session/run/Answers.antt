use Rattle.semantics.proofs.Proved.{settled_is_the_distance}
use Rattle.engine.specs.Lines.{panel, room}
use Rattle.engine.specs.Sessions.{machine_in}
use Rattle.engine.proofs.Books.{sure}
use Rattle.engine.proofs.Sessions.{nothing_given, none_run}
use Rattle.engine.proofs.session.Session.run.Goals as goal

pub returns-clause-without_lines : goal.returns-clause-without_lines
returns-clause-without_lines g c none =
    let nothing = nothing_given g.V.ValueSystem.meaning g.V.ValueSystem.system c.args.self.now none in
    none_run (machine_in g.V.ValueSystem.system c.args.self.now) nothing.account nothing.no_line (c.run.ensures.answers nothing.account nothing.stands).1

pub returns-clause-settled_to_distances : goal.returns-clause-settled_to_distances
returns-clause-settled_to_distances g c rests a h b stands =
    let system = g.V.ValueSystem.system in
    let p = panel c.run.new.lines in
    let rest = c.run.ensures.rests rests a h b stands in
    settled_is_the_distance system p.circuit (room p) (sure c.run.new.lines).wired b stands.log rest
