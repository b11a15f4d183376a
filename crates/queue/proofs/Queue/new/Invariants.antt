use Rattle.std.proofs.Common.{◌≡◌, ℕ, ◌<◌, length, get_or}
use Rattle.queue.specs.Blocks.{IsLowest, block}
use Rattle.queue.proofs.Queue.new.Given as goal

abbrev pub invariant-loop-block : goal.invariant-loop-block
invariant-loop-block l = record {
  blocks : length l.lowest_keys ≡ 32;
  found : (b : ℕ) → b < l.block → IsLowest (block l.keys b) (get_or l.lowest_keys b 0);
}
