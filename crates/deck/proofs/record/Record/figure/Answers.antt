use Rattle.std.proofs.Common.{length, sym, ap, ◌∙◌, subst}
use Rattle.std.proofs.lemmas.Result.{MatchResult-weaker}
use Rattle.columns.specs.Spelling.{Means}
use Rattle.deck.specs.Faults.{told}
use Rattle.deck.specs.Records.{whole}
use Rattle.deck.proofs.Exits.{replaced}
use Rattle.deck.proofs.Numbers.{few_columns, beyond_record, shown_or_none}
use Rattle.deck.proofs.record.Record.figure.Goals as goal

pub returns-in_default : goal.returns-in_default
returns-in_default c =
    let r = c.args.self.now in
    let span = c.args.span in
    let few = few_columns r.letter r.fields.now span.first span.width span.past_letter span.some c.in_default.ensures in
    record { fails = λ shown. beyond_record (whole r) span.first span.width shown.0 span.some span.narrow few shown.1; is = ap told c.fault-fault.ensures }

pub returns : goal.returns
returns c =
    let r = c.args.self.now in
    let span = c.args.span in
    let bytes = c.in-Some.ensures in
    let there = ap length (sym bytes.0) ∙ bytes.1 in
    let means = subst (λ l. Means l c.read.result) bytes.0 c.read.ensures.means in
    replaced c.read.result c.fault-fault.result c.or.result _ _ c.or.ensures
    (MatchResult-weaker c.read.result (shown_or_none (whole r) span.first span.width there c.read.result span.narrow means) (λ n shown. shown) (λ e none. record { fails = λ shown. none shown.0 shown.1; is = ap told c.fault-fault.ensures }))
