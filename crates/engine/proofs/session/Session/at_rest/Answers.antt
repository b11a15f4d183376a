use Rattle.engine.specs.Lines.{room}
use Rattle.engine.specs.Sessions.{lines_of}
use Rattle.engine.proofs.Books.{sure}
use Rattle.semantics.proofs.Proved.{settled_is_the_distance}
use Rattle.engine.proofs.session.Session.at_rest.Goals as goal

pub returns-clause-settled_to_distances : goal.returns-clause-settled_to_distances
returns-clause-settled_to_distances g c rests a stands =
    let p = lines_of c.args.self.now in
    settled_is_the_distance g.V.ValueSystem.system p.circuit (room p) (sure c.args.self.now.lines).wired a stands.log ((c.at_rest.ensures a stands).0 rests)
