use Rattle.std.proofs.Common.{◌/◌, length-set, ◌∙◌, subst}
use Rattle.queue.specs.Blocks.{IsLowest}
use Rattle.queue.proofs.Blocks.{set_right}
use Rattle.queue.proofs.Queue.set.Goals as goal

pub invariant_of-self : goal.invariant_of-self
invariant_of-self c =
    let keys = c.self.inside.keys in
    let found = c.self.inside.lowest in
    let low = c.lowest.result in
    let lowest = subst (λ ks. IsLowest ks low) c.keys_of.ensures c.lowest.ensures in (
      length-set keys c.args.place c.args.key ∙ c.self.invariant.0,
      length-set found (c.args.place / 32) low ∙ c.self.invariant.1,
      set_right keys found c.args.place c.args.key low c.self.invariant.1 c.self.invariant.2 lowest,
    )
