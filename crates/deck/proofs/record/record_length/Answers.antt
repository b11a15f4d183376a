use Rattle.std.proofs.Common.{◌≡◌, rules, tests}
use Rattle.std.proofs.lemmas.Iterator.{IsFirst-from_position, YieldsList-from_slice}
use Rattle.deck.proofs.Bytes.{first_ending}
use Rattle.deck.proofs.record.record_length.Goals as goal

pub returns : goal.returns
returns c =
    first_ending c.args.bytes.now c.position.result
    (IsFirst-from_position c.position.new.self _ c.position.result (λ b. b ≡ 10) (λ b. b ≡ 10 → ⊥) c.position.ensures.ran (YieldsList-from_slice c.args.bytes.now cc) (λ x q k. search (rules, tests)) (λ x q k. search (rules, tests)))
