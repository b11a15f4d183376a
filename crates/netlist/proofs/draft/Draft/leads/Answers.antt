use Rattle.std.proofs.Common.{ap, length}
use Rattle.netlist.specs.Drafts.{sheet}
use Rattle.netlist.proofs.Searching.{begins, found, goes_on, ends}
use Rattle.netlist.proofs.draft.Draft.leads.Goals as goal

pub loop-line-init : goal.loop-line-init
loop-line-init c =
    let made = c.new-search.ensures in
    begins (sheet c.args.self.now).circuit c.args.sources.first c.args.sources.last c.args.to c.new-search.result made.nothing_seen made.start_waits made.start_found

pub returns-then-visit-clause-yes : goal.returns-then-visit-clause-yes
returns-then-visit-clause-yes c =
    λ _. found (sheet c.args.self.now).circuit c.args.sources.first c.args.sources.last c.args.to c.loop-line.search c.take.new.self c.in-Some.line c.loop-line.invariant c.in-Some.ensures (c.visit.ensures.leads c.if-visit.true)

pub loop-line-preserved : goal.loop-line-preserved
loop-line-preserved c =
    let told = c.visit.ensures in
    goes_on (sheet c.args.self.now).circuit c.args.sources.first c.args.sources.last c.args.to c.loop-line.search c.take.new.self c.in-Some.line c.loop-line.invariant c.in-Some.ensures c.visit.new.search (told.sound c.if-visit.false) (told.grows c.if-visit.false) (told.followed c.if-visit.false)

pub returns-clause-no : goal.returns-clause-no
returns-clause-no c =
    λ _. ends (sheet c.args.self.now).circuit c.args.sources.first c.args.sources.last c.args.to c.loop-line.search c.loop-line.invariant (ap length c.in_default.ensures)
