use Rattle.std.proofs.Common.{◌<◌, map, ap, sym, ◌∙◌, subst, arith}
use Rattle.semantics.specs.Circuits.{lines}
use Rattle.engine.specs.Sessions.{lines_of}
use Rattle.engine.specs.Stores.{seen}
use Rattle.engine.proofs.Agreeing.{RestAlike, agree, stores_same, asked_same}
use Rattle.engine.proofs.Books.{sure}
use Rattle.engine.proofs.session.Session.same_store.Goals as goal

pub returns-clause-alike_rests_agree : goal.returns-clause-alike_rests_agree
returns-clause-alike_rests_agree g c same a b here there rests_here rests_there alike =
    let meaning = g.V.ValueSystem.meaning in
    let system = g.V.ValueSystem.system in
    let left = c.args.self.now in
    let right = c.args.other.now in
    let both : RestAlike meaning system (lines_of left) (lines_of right) left.store.now right.store.now a b = record {
      circuits = same.circuit;
      rooms = same.room;
      records_here = λ some. let fits = left.lines.kept_fit 1 (omega arith) (omega (arith, some)) in omega arith;
      records_there = λ some. let fits = right.lines.kept_fit 1 (omega arith) (subst (λ d. 0 < lines d) same.circuit some) in omega arith;
      sure = sure left.lines;
      here = here;
      there = there;
      rests_here = rests_here;
      rests_there = rests_there;
      alike = alike;
    } in
    let stores = stores_same meaning system (lines_of left) (lines_of right) left.store.now right.store.now a b both in (
      c.same_records.ensures.1 (ap (map (seen meaning)) c.records.ensures ∙ (stores ∙ sym (ap (map (seen meaning)) c.records-2.ensures))),
      agree meaning system (lines_of left) (lines_of right) left.store.now right.store.now a b both,
      asked_same meaning system (lines_of left) (lines_of right) left.store.now right.store.now a b both,
    )
