use Rattle.std.proofs.Common.{length, sym, refl, ◌∙◌, subst, inl, inr, arith}
use Rattle.deck.specs.Records.{whole, Failed, fields_tests}
use Rattle.deck.proofs.Exits.{carried}
use Rattle.deck.proofs.Readers.{few_records, counted_more, reader_expects_input, input_stands}
use Rattle.deck.proofs.reader.DeckReader.input.Goals as goal
use Rattle.deck.proofs.reader.DeckReader.input.Goals.{then-line-inputs, else-line-inputs}

pub returns-in_err-input : goal.returns-in_err-input
returns-in_err-input c =
    let r = c.args.source.now in
    let f = c.in_err-input.field-0.0 in
    carried c.from_residual.result f _ _ c.from_residual.ensures.1
    (subst (λ e. Failed (whole r) r.number (fields_tests e (length (whole r))) f) (sym (reader_expects_input c.args.self.now c.args.told c.requires.phase)) c.in_err-input.ensures, refl)

pub overflow_add-self : goal.overflow_add-self
overflow_add-self c = omega (arith, few_records c.args.self.now)

pub invariant_of-self : goal.invariant_of-self
invariant_of-self c =
    let d = c.args.self.now in
    let at =
    input_stands d c.args.told c.requires.phase c.if-line-inputs.self
    (elim c.if-line-inputs.branch [ then-line-inputs w ↦ inl (w.if-line-inputs.true ∙ c.inputs.ensures, w.self-is) | else-line-inputs w ↦ inr (λ e. w.if-line-inputs.false (e ∙ sym c.inputs.ensures), w.self-is) ]) in
    record {
      phased = at.agreed;
      counted = counted_more d _ _ at.grown;
    }
