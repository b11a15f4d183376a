use Rattle.std.proofs.Common.{◌+◌, ◌*◌, None, Some, subst, arith}
use Rattle.queue.specs.Blocks.{IsLowest, block, PlaceOf}
use Rattle.queue.specs.Keys.{First}
use Rattle.queue.proofs.Blocks.{each, first}
use Rattle.queue.proofs.Queue.first.Goals as goal

pub returns-then-least-clause-answers : goal.returns-then-least-clause-answers
returns-then-least-clause-answers c =
    subst (λ keys. First keys None) c.self.view_is
    (λ i within.
    let low = each c.self.inside.keys c.self.inside.lowest c.self.invariant.0 c.self.invariant.1 c.self.invariant.2 c.lowest-least.result c.lowest-least.ensures i within in
    omega (arith, low, c.if-least.true))

pub returns-in_err-block-clause-answers : goal.returns-in_err-block-clause-answers
returns-in_err-block-clause-answers c =
    let place = c.lowest-least.ensures.reached (λ none. absurd (omega (arith, none, c.if-least.false))) in
    absurd (c.in_err-block.ensures place.0 place.1 place.2)

pub returns-in_err-place-clause-answers : goal.returns-in_err-place-clause-answers
returns-in_err-place-clause-answers c =
    let here = c.in_ok-block.ensures in
    let lowest = subst (IsLowest (block c.self.inside.keys c.in_ok-block.block)) here.1 (c.self.invariant.2 c.in_ok-block.block (omega (arith, here.0, c.self.invariant.1))) in
    let place = lowest.reached (λ none. absurd (omega (arith, none, c.if-least.false))) in
    absurd (subst (λ keys. PlaceOf keys c.lowest-least.result None) c.keys_of.ensures c.in_err-place.ensures place.0 place.1 place.2)

found_first : (c : goal.In_ok-place) → First c.self.inside.keys (Some (32 * c.in_ok-block.block + c.in_ok-place.place))
found_first c =
    let least = c.lowest-least.result in
    first c.self.inside.keys c.self.inside.lowest c.self.invariant.0 c.self.invariant.1 c.self.invariant.2 least c.lowest-least.ensures c.in_ok-block.block c.in_ok-place.place (omega (arith, c.if-least.false)) c.in_ok-block.ensures
    (subst (λ keys. PlaceOf keys least (Some c.in_ok-place.place)) c.keys_of.ensures c.in_ok-place.ensures)

pub returns-clause-answers : goal.returns-clause-answers
returns-clause-answers c = subst (λ keys. First keys (Some (32 * c.in_ok-block.block + c.in_ok-place.place))) c.self.view_is (found_first c)

pub returns-clause-within : goal.returns-clause-within
returns-clause-within c = omega (arith, (found_first c).0, c.self.invariant.0)
