use Rattle.std.proofs.Common.{◌≡◌, ℕ, List, Ok, Err, Result, MatchResult}
use Rattle.netlist.specs.Drafts.{Sheet}
use Rattle.deck.specs.Faults.{told}
use Rattle.deck.specs.Outcomes.{FirstFault, answer_of, Outcome}
use Rattle.deck.specs.Readers.{progress_of, ReadAll, Unfinished, finished}
use Rattle.deck.specs.declared.fault.Fault.{Fault}
use Rattle.deck.specs.declared.reader.DeckReader.{DeckReader}
use Rattle.deck.proofs.Running.{decked, dead_then}
use Rattle.deck.proofs.Unique.{outcome_unique}
use Rattle.deck.proofs.reader.reading.read.Goals as goal

comes : (d : DeckReader) (bytes : List ℕ) (r : Result ℕ Fault) (s : Sheet) → MatchResult r (λ n. ReadAll d bytes n) (λ f. FirstFault bytes (told f) × Unfinished d) → s ≡ finished (progress_of d) → Outcome bytes (answer_of r) s
comes d bytes (Ok n) s all is = decked d bytes n s all is
comes d bytes (Err f) s bad is = (bad.0, dead_then d s bad.1 is)

pub returns : goal.returns
returns c =
    let outcome = comes c.run-outcome.new.self c.args.bytes.now c.run-outcome.result _ c.run-outcome.ensures c.finish.ensures in
    record { comes_to = outcome; only = λ a s other. outcome_unique c.args.bytes.now a _ s _ other outcome }
