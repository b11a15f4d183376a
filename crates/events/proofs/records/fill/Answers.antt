use Rattle.std.proofs.Common.{◌≡◌, ◌+◌, ◌-◌, ◌<◌, length, replicate, set, ap, sym, ◌∙◌, arith}
use Rattle.std.proofs.Math.Seq.{paste}
use Rattle.std.proofs.lemmas.List.{length-replicate, get_or-replicate}
use Rattle.std.proofs.lemmas.List.Edits.{paste_more}
use Rattle.events.proofs.records.fill.Goals as goal

pub loop-place-preserved : goal.loop-place-preserved
loop-place-preserved g c =
    let i = c.loop-place.place - c.args.from in
    let filler = c.args.filler in
    let all = replicate (c.args.to - c.args.from) filler in
    let more : i < length all = omega (arith, length-replicate (c.args.to - c.args.from) filler) in
    let place : c.loop-place.place ≡ c.args.from + i = omega arith in
    let next : c.loop-place.place + 1 - c.args.from ≡ i + 1 = omega arith in
    ap (λ records. set records c.loop-place.place filler) c.loop-place.invariant
    ∙ (ap (λ at. set (paste c.args.records.now c.args.from all i) at filler) place
    ∙ (ap (λ x. set (paste c.args.records.now c.args.from all i) (c.args.from + i) x) (sym (get_or-replicate (c.args.to - c.args.from) i filler filler (omega arith)))
    ∙ (paste_more c.args.records.now c.args.from all i filler (omega arith) more ∙ ap (paste c.args.records.now c.args.from all) (sym next))))
