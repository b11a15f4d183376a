use Rattle.engine.specs.Sessions.{machine_in}
use Rattle.engine.proofs.Sessions.{nothing_given, none_stated}
use Rattle.engine.proofs.session.Session.state.Goals as goal

pub returns-clause-without_lines : goal.returns-clause-without_lines
returns-clause-without_lines g c none =
    let nothing = nothing_given g.V.ValueSystem.meaning g.V.ValueSystem.system c.args.self.now none in
    none_stated (machine_in g.V.ValueSystem.system c.args.self.now) nothing.account nothing.no_line (c.state.ensures nothing.account nothing.stands)
