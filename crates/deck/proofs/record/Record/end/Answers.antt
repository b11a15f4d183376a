use Rattle.std.proofs.Common.{arith}
use Rattle.std.proofs.lemmas.List.{nil_from_length}
use Rattle.std.proofs.lemmas.Result.{MatchResult-weaker}
use Rattle.deck.specs.Tests.{long}
use Rattle.deck.proofs.Cutting.{has_one}
use Rattle.deck.proofs.Failing.{failed_one}
use Rattle.deck.proofs.record.Record.end.Goals as goal

pub returns : goal.returns
returns c =
    MatchResult-weaker c.length.result c.length.ensures (λ _ short. let one = has_one _ 1 short in nil_from_length c.args.self.now.fields.now (omega arith)) (λ f bad. failed_one _ _ (long _) _ f bad)
