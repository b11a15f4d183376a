use Rattle.std.proofs.Common.{◌+◌, length}
use Rattle.netlist.specs.Drafts.{sheet}
use Rattle.netlist.specs.Searches.{unseen, waiting}
use Rattle.netlist.proofs.Searching.{Progress}
use Rattle.netlist.proofs.draft.Draft.leads.Given as goal

abbrev pub invariant-loop-line : goal.invariant-loop-line
invariant-loop-line l = Progress (sheet l.self).circuit l.sources.first l.sources.last l.to l.search

abbrev pub decreases-loop-line : goal.decreases-loop-line
decreases-loop-line l = length (waiting l.search) + unseen l.search + unseen l.search
