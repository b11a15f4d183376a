use Rattle.std.proofs.Common.{◌≡◌, length}
use Rattle.deck.specs.Records.{whole, ReadsShown}
use Rattle.deck.proofs.record.Record.reads.Given as goal

abbrev pub invariant-loop-place : goal.invariant-loop-place
invariant-loop-place l = (length l.reads.items ≡ l.place) × ReadsShown (whole l.self) l.lines l.place l.reads.items
