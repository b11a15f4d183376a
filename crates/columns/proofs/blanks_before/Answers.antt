use Rattle.std.proofs.Common.{rules}
use Rattle.columns.proofs.Readings.{blanks_front}
use Rattle.columns.proofs.blanks_before.Goals as goal

pub returns-clause-blank : goal.returns-clause-blank
returns-clause-blank c = blanks_front c.args.text.now c.unwrap_or.result (search rules) (λ k h. search rules)
