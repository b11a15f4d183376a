use Rattle.netlist.specs.Drafts.{sheet}
use Rattle.netlist.proofs.Searching.{Visiting}
use Rattle.netlist.proofs.draft.Draft.visit.Given as goal

abbrev pub invariant-loop-read : goal.invariant-loop-read
invariant-loop-read l = Visiting (sheet l.self).circuit l.sources.first l.sources.last l.line l.initial.search l.read-index l.search
