use Rattle.std.proofs.Common.{◌∷◌, refl, arith}
use Rattle.std.proofs.lemmas.List.{nil_from_length}
use Rattle.deck.specs.Tests.{long}
use Rattle.deck.proofs.Cutting.{has_one}
use Rattle.deck.proofs.Exits.{carried}
use Rattle.deck.proofs.Failing.{failed_one}
use Rattle.stimulus.proofs.record.end.Goals as goal

pub returns-in_err-length : goal.returns-in_err-length
returns-in_err-length c = carried c.from_residual.result _ _ _ c.from_residual.ensures.1 (failed_one _ _ (long _) _ _ c.in_err-length.ensures)

pub returns : goal.returns
returns c =
    let one = has_one _ 1 c.in_ok-length.ensures in
    let none = nil_from_length c.args.source.now.fields.now (omega arith) in
    (refl, λ i. c.requires i ∷ none i)
