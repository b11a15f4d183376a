use Rattle.deck.proofs.ClosedDecks.{closes, closed_unique}
use Rattle.deck.proofs.closing.read_netlist.Goals as goal

pub returns : goal.returns
returns c =
    let bytes = c.args.bytes.now in
    let ends = c.close-netlist.ensures in
    let outcome = closes bytes c.read-outcome.result.0 c.check-answer.result _ _ _ c.read-outcome.ensures.comes_to c.check-answer.ensures ends.answers ends.keeps ends.refused_is_empty in
    record { comes_to = outcome; only = λ a d other. closed_unique bytes a _ d _ other outcome }
