use Rattle.std.proofs.Common.{get_or, sym, subst₂}
use Rattle.std.proofs.lemmas.List.{take_more}
use Rattle.queue.specs.Blocks.{IsLowest}
use Rattle.queue.proofs.Blocks.{lowest_more}
use Rattle.queue.proofs.lowest.Goals as goal

pub loop-key-preserved : goal.loop-key-preserved
loop-key-preserved c =
    let keys = c.args.keys.now in
    let i = c.loop-key.key-index in
    subst₂ IsLowest (sym (take_more keys i 0 c.loop-key-test.true)) (sym c.min-lowest.ensures) (lowest_more _ (get_or keys i 0) c.loop-key.lowest c.loop-key.invariant)
