use Rattle.std.proofs.Common.{◌∷◌, ◌++◌, ap, ◌∙◌, append-nil, arith}
use Rattle.std.proofs.lemmas.List.{drop_all}
use Rattle.columns.specs.Spelling.{spelled}
use Rattle.deck.specs.Tests.{long, value_known}
use Rattle.deck.proofs.Cutting.{cut, has_one}
use Rattle.deck.proofs.Exits.{carried}
use Rattle.deck.proofs.Failing.{failed_one, failed_after, failed_left, failed_right}
use Rattle.stimulus.specs.Tests.{place_tests}
use Rattle.stimulus.proofs.Places.{place_pass, split, named}
use Rattle.values.specs.Knowledge.{letter}
use Rattle.stimulus.proofs.record.feed.Goals as goal

pub returns-in_err-length : goal.returns-in_err-length
returns-in_err-length c = carried c.from_residual.result _ _ _ c.from_residual.ensures.1 (failed_one _ _ (long _) _ _ c.in_err-length.ensures)

pub returns-in_err-line : goal.returns-in_err-line
returns-in_err-line c =
    carried c.from_residual-in_err-line.result _ _ _ c.from_residual-in_err-line.ensures.1
    (failed_after _ _ (long _) _ _ c.in_ok-length.ensures (failed_left _ _ (place_tests c.args.lines) _ _ c.in_err-line.ensures))

pub returns-in_err-value : goal.returns-in_err-value
returns-in_err-value c =
    let r = c.args.source.now in
    let place = c.in_ok-line.ensures in
    carried c.from_residual-in_err-value.result _ _ _ c.from_residual-in_err-value.ensures.1
    (failed_after _ _ (long _) _ _ c.in_ok-length.ensures (failed_right _ _ (place_tests c.args.lines) _ _ (place_pass r.letter r.fields.now c.args.lines c.in_ok-line.line c.in_ok-line.tick place.0 (place.1, place.2)) (failed_one _ _ value_known _ _ c.in_err-value.ensures)))

pub returns : goal.returns
returns c =
    let r = c.args.source.now in
    let place = c.in_ok-line.ensures in
    let long = has_one _ 17 c.in_ok-length.ensures in
    let value = cut r.fields.now _ 14 2 c.in_ok-value.ensures ∙ ap (λ l. 32 ∷ (letter c.in_ok-value.value ++ l)) (drop_all 16 r.fields.now (omega arith)) ∙ append-nil _ in
    let fields = split r.letter r.fields.now c.args.lines c.in_ok-line.line c.in_ok-line.tick place.0 (place.1, place.2) ∙ ap (λ l. spelled 4 c.in_ok-line.line ++ (spelled 10 c.in_ok-line.tick ++ l)) value in
    ((λ i. c.requires i ∷ fields i), named r.letter r.fields.now c.args.lines c.in_ok-line.line c.in_ok-line.tick place.0 (place.1, place.2))
