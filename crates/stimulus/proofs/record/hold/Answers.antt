use Rattle.std.proofs.Common.{◌∷◌, ◌++◌, ap, ◌∙◌, append-nil, arith}
use Rattle.std.proofs.lemmas.List.{drop_all}
use Rattle.columns.specs.Spelling.{spelled}
use Rattle.deck.specs.Tests.{long}
use Rattle.deck.proofs.Cutting.{has_one}
use Rattle.deck.proofs.Exits.{carried}
use Rattle.deck.proofs.Failing.{failed_one, failed_after}
use Rattle.stimulus.proofs.Places.{split, named}
use Rattle.stimulus.proofs.record.hold.Goals as goal

pub returns-in_err-length : goal.returns-in_err-length
returns-in_err-length c = carried c.from_residual.result _ _ _ c.from_residual.ensures.1 (failed_one _ _ (long _) _ _ c.in_err-length.ensures)

pub returns-in_err-line : goal.returns-in_err-line
returns-in_err-line c =
    carried c.from_residual-in_err-line.result _ _ _ c.from_residual-in_err-line.ensures.1 (failed_after _ _ (long _) _ _ c.in_ok-length.ensures c.in_err-line.ensures)

pub returns : goal.returns
returns c =
    let r = c.args.source.now in
    let place = c.in_ok-line.ensures in
    let long = has_one _ 15 c.in_ok-length.ensures in
    let fields = split r.letter r.fields.now c.args.lines c.in_ok-line.line c.in_ok-line.tick place.0 (place.1, place.2) ∙ ap (λ l. spelled 4 c.in_ok-line.line ++ (spelled 10 c.in_ok-line.tick ++ l)) (drop_all 14 r.fields.now (omega arith)) ∙ ap (λ l. spelled 4 c.in_ok-line.line ++ l) (append-nil _) in
    ((λ i. c.requires i ∷ fields i), named r.letter r.fields.now c.args.lines c.in_ok-line.line c.in_ok-line.tick place.0 (place.1, place.2))
