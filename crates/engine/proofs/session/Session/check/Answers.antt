use Rattle.std.proofs.Common.{sym, ◌∙◌, arith}
use Rattle.engine.specs.Answers.Making.{no_lines, few_records, other_starts, accepted}
use Rattle.engine.proofs.session.Session.check.Goals as goal

pub returns-then-lines-eq0 : goal.returns-then-lines-eq0
returns-then-lines-eq0 g c = record { answers = no_lines (sym c.lines-lines.ensures ∙ c.if-lines-eq0.true) }

pub returns-then-store-lines : goal.returns-then-store-lines
returns-then-store-lines g c =
    let count = c.lines-lines.ensures in
    record { answers = few_records (omega (arith, count, c.if-lines-eq0.false)) (omega (arith, count, c.if-store-lines.true)) }

pub returns-then-starts-inputs : goal.returns-then-starts-inputs
returns-then-starts-inputs g c =
    let count = c.lines-lines.ensures in
    record { answers = other_starts (omega (arith, count, c.if-lines-eq0.false)) (omega (arith, count, c.if-store-lines.false)) (λ same. c.if-starts-inputs.true (same ∙ sym c.inputs.ensures)) }

pub returns : goal.returns
returns g c =
    let count = c.lines-lines.ensures in
    record { answers = accepted (omega (arith, count, c.if-lines-eq0.false)) (omega (arith, count, c.if-store-lines.false)) (c.if-starts-inputs.false ∙ c.inputs.ensures) }
