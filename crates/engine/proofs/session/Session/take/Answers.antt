use Rattle.std.proofs.Common.{refl}
use Rattle.engine.specs.Sessions.{machine_in}
use Rattle.engine.proofs.Sessions.{untouched, nothing_given, none_taken}
use Rattle.engine.proofs.session.Session.take.Goals as goal

pub returns-clause-refused_alters_nothing : goal.returns-clause-refused_alters_nothing
returns-clause-refused_alters_nothing g c = untouched c.take.result c.args.self.now _ c.take.new.store refl c.take.ensures.refused_alters_nothing

pub returns-clause-without_lines : goal.returns-clause-without_lines
returns-clause-without_lines g c none =
    let nothing = nothing_given g.V.ValueSystem.meaning g.V.ValueSystem.system c.args.self.now none in
    none_taken (machine_in g.V.ValueSystem.system c.args.self.now) nothing.account nothing.no_line (c.take.ensures.answers nothing.account nothing.stands).1
