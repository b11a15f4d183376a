use Rattle.std.proofs.Common.{◌+◌, ◌-◌, ◌≤◌, length, drop, arith, rules}
use Rattle.std.proofs.lemmas.List.{length-take, length-drop}
use Rattle.deck.proofs.Running.{took_within}
use Rattle.deckcheck.proofs.take_records.Goals as goal

pub overflow_add-used : goal.overflow_add-used
overflow_add-used g c =
    let bytes = c.args.bytes.now in
    let used = c.loop-number.used in
    let part = length-take (length bytes - used) (drop used bytes) in
    let rest = length-drop used bytes in
    let within : used + c.in_ok-taken.taken.bytes ≤ length bytes = omega (arith, c.loop-number.invariant, took_within _ _ _ _ c.in_ok-taken.ensures) in
    search rules

pub loop-number-preserved : goal.loop-number-preserved
loop-number-preserved g c =
    let bytes = c.args.bytes.now in
    let used = c.loop-number.used in
    let part = length-take (length bytes - used) (drop used bytes) in
    let rest = length-drop used bytes in
    omega (arith, c.loop-number.invariant, took_within _ _ _ _ c.in_ok-taken.ensures)
