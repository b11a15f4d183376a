use Rattle.std.proofs.Common.{arith}
use Rattle.deck.proofs.Readers.{few_records}
use Rattle.deck.proofs.reader.DeckReader.end.Goals as goal

pub overflow_add-self : goal.overflow_add-self
overflow_add-self c = omega (arith, few_records c.args.self.now)
