use Rattle.std.proofs.Common.{◌-◌, length}
use Rattle.deck.proofs.Running.{Going}
use Rattle.deck.proofs.reader.DeckReader.run.Given as goal

abbrev pub invariant-loop-self : goal.invariant-loop-self
invariant-loop-self l = Going l.self l.bytes l.used

abbrev pub decreases-loop-self : goal.decreases-loop-self
decreases-loop-self l = length l.bytes - l.used
