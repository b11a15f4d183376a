use Rattle.std.proofs.Common.{◌≤◌, length}
use Rattle.deckcheck.proofs.take_records.Given as goal

abbrev pub invariant-loop-number : goal.invariant-loop-number
invariant-loop-number g l = l.used ≤ length l.bytes
