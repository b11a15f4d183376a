use Rattle.std.proofs.Common.{◌≡◌, Bool, Ok, Err, rules, sym, subst, ap}
use Rattle.std.specs.Prelude.{Result}
use Rattle.netlist.specs.declared.refusal.Refusal.{Refusal}
use Rattle.semantics.specs.Comparisons.{LinesTied}
use Rattle.values.specs.Relations.{Tied}
use Rattle.engine.specs.Answers.{numbered}
use Rattle.engine.specs.Comparing.{Tying}
use Rattle.engine.specs.Sessions.{lines_of, machine_in}
use Rattle.engine.proofs.Books.{sure}
use Rattle.engine.proofs.Ties.{ties_both, never_untied}
use Rattle.engine.proofs.session.Session.tied.Goals as goal

pub returns-in_err-left-clause-answers : goal.returns-in_err-left-clause-answers
returns-in_err-left-clause-answers g c a b stands also =
    let R = Tied g.V.ValueSystem.meaning g.W.ValueSystem.meaning (g.R.Relation.Ties c.args.relation.now) in
    let s = machine_in g.V.ValueSystem.system c.args.self.now in
    let q = machine_in g.W.ValueSystem.system c.args.other.now in
    let is : c.from_residual.result ≡ Err c.in_err-left.field-0.0 = search rules in
    subst (λ (r : Result Bool Refusal). Tying s q R a b c.args.line c.args.tick (numbered r)) (sym is) (Tying.first_refused (c.in_err-left.ensures.answers a stands))

pub returns-in_err-left-clause-kept_relations_tie_lines : goal.returns-in_err-left-clause-kept_relations_tie_lines
returns-in_err-left-clause-kept_relations_tie_lines g c same a b stands also given =
    let R = Tied g.V.ValueSystem.meaning g.W.ValueSystem.meaning (g.R.Relation.Ties c.args.relation.now) in
    let s = machine_in g.V.ValueSystem.system c.args.self.now in
    let q = machine_in g.W.ValueSystem.system c.args.other.now in
    let ties : LinesTied s q R a b = ties_both g.V.ValueSystem.system g.W.ValueSystem.system R (lines_of c.args.self.now) (lines_of c.args.other.now) same (λ k j. c.kept_relations_tie_lines-ties_start.ensures.ties_lines (lines_of c.args.self.now).circuit k j (sure c.args.self.now.lines).wired) a b stands.log also.log given in
    (ties, λ untied. never_untied s q R a b c.args.line c.args.tick (numbered (c.from_residual.result)) (returns-in_err-left-clause-answers g c a b stands also) ties (ap numbered untied))

pub returns-in_err-right-clause-answers : goal.returns-in_err-right-clause-answers
returns-in_err-right-clause-answers g c a b stands also =
    let R = Tied g.V.ValueSystem.meaning g.W.ValueSystem.meaning (g.R.Relation.Ties c.args.relation.now) in
    let s = machine_in g.V.ValueSystem.system c.args.self.now in
    let q = machine_in g.W.ValueSystem.system c.args.other.now in
    let is : c.from_residual-in_err-right.result ≡ Err c.in_err-right.field-0.0 = search rules in
    subst (λ (r : Result Bool Refusal). Tying s q R a b c.args.line c.args.tick (numbered r)) (sym is) (Tying.second_refused (c.in_ok-left.ensures.answers a stands) (c.in_err-right.ensures.answers b also))

pub returns-in_err-right-clause-kept_relations_tie_lines : goal.returns-in_err-right-clause-kept_relations_tie_lines
returns-in_err-right-clause-kept_relations_tie_lines g c same a b stands also given =
    let R = Tied g.V.ValueSystem.meaning g.W.ValueSystem.meaning (g.R.Relation.Ties c.args.relation.now) in
    let s = machine_in g.V.ValueSystem.system c.args.self.now in
    let q = machine_in g.W.ValueSystem.system c.args.other.now in
    let ties : LinesTied s q R a b = ties_both g.V.ValueSystem.system g.W.ValueSystem.system R (lines_of c.args.self.now) (lines_of c.args.other.now) same (λ k j. c.kept_relations_tie_lines-ties_start.ensures.ties_lines (lines_of c.args.self.now).circuit k j (sure c.args.self.now.lines).wired) a b stands.log also.log given in
    (ties, λ untied. never_untied s q R a b c.args.line c.args.tick (numbered (c.from_residual-in_err-right.result)) (returns-in_err-right-clause-answers g c a b stands also) ties (ap numbered untied))

pub returns-clause-answers : goal.returns-clause-answers
returns-clause-answers g c a b stands also =
    let R = Tied g.V.ValueSystem.meaning g.W.ValueSystem.meaning (g.R.Relation.Ties c.args.relation.now) in
    let s = machine_in g.V.ValueSystem.system c.args.self.now in
    let q = machine_in g.W.ValueSystem.system c.args.other.now in
    Tying.told (c.in_ok-left.ensures.answers a stands) (c.in_ok-right.ensures.answers b also) c.ties.ensures.decides_tied

pub returns-clause-kept_relations_tie_lines : goal.returns-clause-kept_relations_tie_lines
returns-clause-kept_relations_tie_lines g c same a b stands also given =
    let R = Tied g.V.ValueSystem.meaning g.W.ValueSystem.meaning (g.R.Relation.Ties c.args.relation.now) in
    let s = machine_in g.V.ValueSystem.system c.args.self.now in
    let q = machine_in g.W.ValueSystem.system c.args.other.now in
    let ties : LinesTied s q R a b = ties_both g.V.ValueSystem.system g.W.ValueSystem.system R (lines_of c.args.self.now) (lines_of c.args.other.now) same (λ k j. c.kept_relations_tie_lines-ties_start.ensures.ties_lines (lines_of c.args.self.now).circuit k j (sure c.args.self.now.lines).wired) a b stands.log also.log given in
    (ties, λ untied. never_untied s q R a b c.args.line c.args.tick (numbered (Ok c.ties.result)) (returns-clause-answers g c a b stands also) ties (ap numbered untied))
