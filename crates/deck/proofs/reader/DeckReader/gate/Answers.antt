use Rattle.std.proofs.Common.{◌≡◌, true, ◌∷◌, [], ◌++◌, length, sym, refl, ap, ◌∙◌, subst, inl, inr, arith}
use Rattle.netlist.specs.Drafts.{sheet, lines}
use Rattle.netlist.specs.Gates.{Gate, legal}
use Rattle.deck.specs.Progress.{gate_next, rows}
use Rattle.deck.specs.Readers.{progress_of}
use Rattle.deck.specs.Records.{whole, Failed, fields_tests}
use Rattle.deck.specs.Rows.{gate}
use Rattle.deck.proofs.Exits.{carried}
use Rattle.deck.proofs.Readers.{few_records, counted_more, reader_expects_gate, gate_added, gate_stands}
use Rattle.deck.proofs.Taking.{whole_is}
use Rattle.deck.proofs.reader.DeckReader.gate.Goals as goal
use Rattle.deck.proofs.reader.DeckReader.gate.Goals.{then-takes_gate, else-takes_gate}

pub returns-in_err-row : goal.returns-in_err-row
returns-in_err-row c =
    let r = c.args.source.now in
    let f = c.in_err-row.field-0.0 in
    let next : gate_next c.next_line-line.result c.lines.result ≡ _ = (λ i. gate_next (c.next_line-line.ensures i) (c.lines.ensures i)) ∙ sym (reader_expects_gate c.args.self.now c.requires.phase) in
    carried c.from_residual.result f _ _ c.from_residual.ensures.1
    (subst (λ e. Failed (whole r) r.number (fields_tests e (length (whole r))) f) next c.in_err-row.ensures, refl)

pub overflow_add-self : goal.overflow_add-self
overflow_add-self c = omega (arith, few_records c.args.self.now)

pub invariant_of-self : goal.invariant_of-self
invariant_of-self c =
    let d = c.args.self.now in
    let row = c.in_ok-row.row in
    let view = c.row.view_is in
    let handed : Gate = record { kind = c.row.inside.kind; delay = c.row.inside.delay; reads = c.reads.result.now } in
    let same : handed ≡ row.gate = λ i. record { kind = (view i).gate.kind; delay = (view i).gate.delay; reads = c.reads.ensures i } in
    let fine : legal (lines (sheet d.draft)) handed ≡ true = ap (legal (lines (sheet d.draft))) same ∙ ap (λ m. legal m row.gate) (sym c.lines.ensures) ∙ c.in_ok-row.ensures.1 in
    let t = c.add_gate.new.self in
    let is = gate_added d c.requires.phase handed t c.add_gate.result c.add_gate.ensures.answers c.add_gate.ensures.adds fine in
    let at = gate_stands d c.requires.phase handed t is c.if-takes_gate.self (elim c.if-takes_gate.branch [ then-takes_gate w ↦ inl (w.if-takes_gate.ensures, w.self-is) | else-takes_gate w ↦ inr (w.if-takes_gate.ensures, w.self-is) ]) in
    record {
      phased = at.agreed;
      counted = counted_more d _ _ at.grown;
    }

pub returns : goal.returns
returns c =
    let d = c.args.self.now in
    let row = c.in_ok-row.row in
    let view = c.row.view_is in
    let handed : Gate = record { kind = c.row.inside.kind; delay = c.row.inside.delay; reads = c.reads.result.now } in
    let same : handed ≡ row.gate = λ i. record { kind = (view i).gate.kind; delay = (view i).gate.delay; reads = c.reads.ensures i } in
    let fine : legal (lines (sheet d.draft)) handed ≡ true = ap (legal (lines (sheet d.draft))) same ∙ ap (λ m. legal m row.gate) (sym c.lines.ensures) ∙ c.in_ok-row.ensures.1 in
    let t = c.add_gate.new.self in
    let is = gate_added d c.requires.phase handed t c.add_gate.result c.add_gate.ensures.answers c.add_gate.ensures.adds fine in
    record {
      spelling = whole_is c.args.source.now (gate c.next_line-line.result row.gate) 71 c.requires.letter c.in_ok-row.ensures.0 refl;
      as_drawn = c.in_ok-row.ensures.2;
      one_more = (gate_stands d c.requires.phase handed t is c.if-takes_gate.self (elim c.if-takes_gate.branch [ then-takes_gate w ↦ inl (w.if-takes_gate.ensures, w.self-is) | else-takes_gate w ↦ inr (w.if-takes_gate.ensures, w.self-is) ])).grown
          ∙ (λ i. rows (progress_of d) ++ (gate (sym c.next_line-line.ensures i) (same i) ∷ []));
    }
