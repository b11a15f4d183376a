use Rattle.std.proofs.Common.{◌≡◌, ◌+◌, ◌-◌, ◌∷◌, suc, take, drop, ap, ◌∙◌, arith}
use Rattle.engine.specs.Lines.{panel}
use Rattle.engine.specs.Stores.{part}
use Rattle.engine.proofs.Parts.{part_events}
use Rattle.engine.proofs.records.events_of.Goals as goal

pub returns : goal.returns
returns g c =
    let lines = c.args.lines.now in
    let store = c.args.store.now in
    let place = c.place-place.result in
    let kept = c.progress-kept.result.kept in
    let told : kept ≡ ((panel lines).progress c.args.line).kept = ap (λ p. p.kept) c.progress-kept.ensures in
    let fits = lines.kept_fit c.args.line c.requires.a_line.0 c.requires.a_line.1 in
    let count : place + kept + 1 - (place + 1) ≡ kept = omega arith in
    ap (λ k. c.index-store-place.result ∷ take k (drop (place + 1) store)) count
    ∙ (ap (λ x. x ∷ take kept (drop (place + 1) store)) c.index-store-place.is
    ∙ (part_events lines.stride c.args.line kept store place c.index-store-place.result c.place-place.ensures.begins (omega arith) (let ends = c.place-place.ensures.ends in let holds = c.requires.holds in omega arith)
    ∙ ap (λ k. take (suc k) (part lines.stride c.args.line store)) told))
