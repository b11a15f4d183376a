use Rattle.std.proofs.Common.{take}
use Rattle.queue.specs.Blocks.{IsLowest}
use Rattle.queue.proofs.lowest.Given as goal

abbrev pub invariant-loop-key : goal.invariant-loop-key
invariant-loop-key l = IsLowest (take l.key-index l.keys) l.lowest
