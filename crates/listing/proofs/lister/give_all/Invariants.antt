use Rattle.std.proofs.Common.{length}
use Rattle.stimulus.specs.Readers.{place}
use Rattle.listing.proofs.Giving.{Giving}
use Rattle.listing.proofs.lister.give_all.Given as goal

abbrev pub invariant-loop-taken : goal.invariant-loop-taken
invariant-loop-taken l = Giving l.initial.session l.stimulus l.first l.session (place l.reader)

abbrev pub decreases-loop-taken : goal.decreases-loop-taken
decreases-loop-taken l = length l.reader.rest.now
