use Rattle.std.proofs.Common.{arith}
use Rattle.deck.proofs.Readers.{few_records}
use Rattle.deck.proofs.reader.DeckReader.fault.Goals as goal

pub overflow_add-result : goal.overflow_add-result
overflow_add-result c = omega (arith, few_records c.args.self.now)
