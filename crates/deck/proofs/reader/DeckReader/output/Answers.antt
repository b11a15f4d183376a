use Rattle.std.proofs.Common.{◌≡◌, true, subst, inl, inr, arith}
use Rattle.std.specs.Int.{is_in_range}
use Rattle.deck.proofs.Readers.{few_records, counted_more, output_added, output_stands}
use Rattle.deck.proofs.reader.DeckReader.output.Goals as goal
use Rattle.deck.proofs.reader.DeckReader.output.Goals.{then-takes_output, else-takes_output}

pub overflow_add-self : goal.overflow_add-self
overflow_add-self c = omega (arith, few_records c.args.self.now)

pub invariant_of-self : goal.invariant_of-self
invariant_of-self c =
    let d = c.args.self.now in
    let n = c.in_ok-line.line in
    let on = subst (λ m. is_in_range 1 m n ≡ true) c.lines.ensures c.in_ok-line.ensures.1 in
    let t = c.add_output.new.self in
    let is = output_added d c.requires.phase n t c.add_output.result c.add_output.ensures.answers c.add_output.ensures.adds on in
    let at = output_stands d c.requires.phase n t is c.if-takes_output.self (elim c.if-takes_output.branch [ then-takes_output w ↦ inl (w.if-takes_output.ensures, w.self-is) | else-takes_output w ↦ inr (w.if-takes_output.ensures, w.self-is) ]) in
    record {
      phased = at.agreed;
      counted = counted_more d _ _ at.grown;
    }
