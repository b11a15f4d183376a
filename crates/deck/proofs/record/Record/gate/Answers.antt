use Rattle.std.proofs.Common.{◌≡◌, ℕ, suc, ◌+◌, ◌-◌, ◌*◌, ◌/◌, ◌≤◌, false, List, [], ◌∷◌, ◌++◌, length, drop, sym, refl, ap, ◌∙◌, subst, append-nil, arith, cond, lit<}
use Rattle.std.specs.List.{flat_map}
use Rattle.std.proofs.lemmas.List.{drop_all}
use Rattle.std.proofs.lemmas.Bool.{and_from, cond-false, false≢true}
use Rattle.columns.specs.Spelling.{spelled}
use Rattle.netlist.specs.GateRow.{drawn}
use Rattle.netlist.specs.Gates.{fits}
use Rattle.netlist.specs.declared.kind.Kind.{Kind}
use Rattle.netlist.specs.Refusals.{number}
use Rattle.netlist.proofs.Answered.{failed, passed}
use Rattle.netlist.proofs.Ranges.{inside}
use Rattle.deck.specs.Faults.{told}
use Rattle.deck.specs.Progress.{gate_next}
use Rattle.deck.specs.Records.{whole, Failed, ReadsShown, fields_tests}
use Rattle.deck.specs.Rows.{kind_text}
use Rattle.deck.specs.Tests.{Test, Passes, Shows, columns, long, kind_known, kind_takes, number_tests, line_tests, reads_tests, reads_count}
use Rattle.deck.specs.declared.fault.Fault.{Fault}
use Rattle.deck.proofs.Columns.{columns_past_letter}
use Rattle.deck.proofs.Cutting.{cut, cut_joined, gate_lengths, on_lines_of}
use Rattle.deck.proofs.Exits.{carried}
use Rattle.deck.proofs.Failing.{failed_one, failed_after, failed_left, failed_right, number_pass, line_pass, reads_pass}
use Rattle.deck.proofs.Texts.{kind_one}
use Rattle.deck.proofs.record.Record.gate.Goals as goal

-- as many lines as the code counts
counted : (n : ℕ) → reads_count (suc n) ≡ (n - 13) / 4
counted n = ap (λ m. m / 4) (omega arith)

pub returns-in_err-length : goal.returns-in_err-length
returns-in_err-length c = carried c.from_residual.result _ _ _ c.from_residual.ensures.1 (failed_one _ _ (long _) _ _ c.in_err-length.ensures)

-- a fault of the fields from the kind on, from the delay on, and from the lines on
module _ (r : List ℕ) (at line lines n : ℕ) (f : Fault) (long-fits : Passes r (long (18 ∷ 22 ∷ 26 ∷ 30 ∷ []))) (line-shown : Shows r 2 4 line) where
  abbrev after_delay : List Test
  after_delay = reads_tests lines (reads_count n) ++ (kind_takes (reads_count n) ∷ [])

  abbrev after_kind : List Test
  after_kind = number_tests 10 5 1 65535 ++ after_delay

  from_kind : Failed r at (kind_known ∷ after_kind) f → Failed r at (fields_tests (gate_next line lines) n) f
  from_kind bad = failed_after r at (long _) _ f long-fits (failed_right r at (line_tests 2 4 line) _ f (line_pass r 2 4 line line-shown) bad)

  module _ (k : Kind) (kind-shown : columns r 6 4 ≡ kind_text k) where
    from_delay : Failed r at after_kind f → Failed r at (fields_tests (gate_next line lines) n) f
    from_delay bad = from_kind (failed_after r at kind_known after_kind f (k, kind-shown) bad)

    from_reads : (d : ℕ) → Shows r 10 5 d × (1 ≤ d) × (d ≤ 65535) → Failed r at after_delay f → Failed r at (fields_tests (gate_next line lines) n) f
    from_reads d shown bad = from_delay (failed_right r at (number_tests 10 5 1 65535) after_delay f (number_pass r 10 5 1 65535 d shown.0 (shown.1, shown.2)) bad)

pub returns-in_err-turn : goal.returns-in_err-turn
returns-in_err-turn c =
    carried c.from_residual-in_err-turn.result _ _ _ c.from_residual-in_err-turn.ensures.1
    (failed_after _ _ (long _) _ _ c.in_ok-length.ensures (failed_left _ _ (line_tests 2 4 c.args.line) _ _ c.in_err-turn.ensures))

pub returns-in_err-kind : goal.returns-in_err-kind
returns-in_err-kind c =
    let r = c.args.self.now in
    carried c.from_residual-in_err-kind.result _ _ _ c.from_residual-in_err-kind.ensures.1
    (from_kind (whole r) r.number c.args.line c.args.lines (length (whole r)) _ c.in_ok-length.ensures c.in_ok-turn.ensures (failed_one _ _ kind_known _ _ c.in_err-kind.ensures))

pub returns-in_err-delay : goal.returns-in_err-delay
returns-in_err-delay c =
    let r = c.args.self.now in
    carried c.from_residual-in_err-delay.result _ _ _ c.from_residual-in_err-delay.ensures.1
    (from_delay (whole r) r.number c.args.line c.args.lines (length (whole r)) _ c.in_ok-length.ensures c.in_ok-turn.ensures _ c.in_ok-kind.ensures (failed_left _ _ (number_tests 10 5 1 65535) _ _ c.in_err-delay.ensures))

pub returns-in_err-reads : goal.returns-in_err-reads
returns-in_err-reads c =
    let r = c.args.self.now in
    let n = length r.fields.now in
    let delay = c.in_ok-delay.ensures in
    carried c.from_residual-in_err-reads.result _ _ _ c.from_residual-in_err-reads.ensures.1
    (from_reads (whole r) r.number c.args.line c.args.lines (suc n) _ c.in_ok-length.ensures c.in_ok-turn.ensures _ c.in_ok-kind.ensures _ (delay.0, omega arith, omega arith) (failed_left _ _ (reads_tests c.args.lines (reads_count (suc n))) _ _ (subst (λ k. Failed (whole r) r.number (reads_tests c.args.lines k) c.in_err-reads.field-0.0) (sym (counted n)) c.in_err-reads.ensures)))

-- a kind that does not take so many lines is no kind that does
takes_none : (r : List ℕ) (k : Kind) (count : ℕ) → columns r 6 4 ≡ kind_text k → fits k count ≡ false → Passes r (kind_takes count) → ⊥
takes_none r k count shown out (j, other, takes) =
    false≢true (sym out ∙ ap (λ x. fits x count) (kind_one k j (sym shown ∙ other)) ∙ takes)

pub returns-in-Err : goal.returns-in-Err
returns-in-Err c =
    let r = c.args.self.now in
    let n = length r.fields.now in
    let kind = c.in_ok-kind.kind in
    let ns = c.in_ok-reads.reads.items in
    let delay = c.in_ok-delay.ensures in
    let reads = c.in_ok-reads.ensures in
    let count : length c.deref.result.now ≡ reads_count (suc n) = ap length c.deref.ensures.0 ∙ reads.0 ∙ sym (counted n) in
    let refused = c.in-Err.ensures.answers in
    let out : fits kind (reads_count (suc n)) ≡ false = ap (fits kind) (sym count) ∙ failed c.in-Err.refusal (fits kind (length c.deref.result.now)) 7 refused in
    let seven : number c.in-Err.refusal ≡ 7 = refused ∙ ap (λ k. cond (fits kind k) 0 7) count ∙ cond-false (fits kind (reads_count (suc n))) 0 7 out in
    from_reads (whole r) r.number c.args.line c.args.lines (suc n) _ c.in_ok-length.ensures c.in_ok-turn.ensures _ c.in_ok-kind.ensures _ (delay.0, omega arith, omega arith)
    (failed_right _ _ (reads_tests c.args.lines (reads_count (suc n))) _ _ (reads_pass (whole r) c.args.lines (reads_count (suc n)) ns (subst (λ k. ReadsShown (whole r) c.args.lines k ns) (sym (counted n)) reads.1))
    (failed_one _ _ (kind_takes (reads_count (suc n))) _ _ (record { fails = takes_none (whole r) kind _ c.in_ok-kind.ensures out; is = ap told c.fault.ensures ∙ ap (λ k. record { number = k; layer = 82; at = r.number; column = 6 }) seven })))

pub returns-in-Ok : goal.returns-in-Ok
returns-in-Ok c =
    let fields = c.args.self.now.fields.now in
    let n = length fields in
    let wide = gate_lengths n c.in_ok-length.ensures in
    let kind = c.in_ok-kind.kind in
    let delay = c.in_ok-delay.ensures in
    let reads = c.in_ok-reads.ensures in
    let ns = c.in_ok-reads.reads.items in
    let takes = passed (fits kind (length c.deref.result.now)) 0 7 (lit< tt) (sym c.in-Ok.ensures.answers) in
    let made : c.in-Ok.row ≡ drawn (record { kind = kind; delay = c.in_ok-delay.delay; reads = ns }) = c.in-Ok.ensures.row ∙ ap (λ l. drawn (record { kind = kind; delay = c.in_ok-delay.delay; reads = l })) c.deref.ensures.0 in
    let first : fields ≡ spelled 4 c.args.line ++ drop 4 fields = cut fields _ 0 4 c.in_ok-turn.ensures.spelling in
    let second = cut fields _ 4 4 c.in_ok-kind.ensures in
    let third = cut fields _ 8 5 delay.0.spelling in
    let fourth = cut_joined fields ns 13 (λ i below. sym (columns_past_letter c.args.self.now.letter fields (15 + 4 * i) 4 (13 + 4 * i) (omega arith)) ∙ (reads.1 i (omega (arith, reads.0))).0.spelling) in
    let last : drop 13 fields ≡ flat_map (spelled 4) ns = fourth ∙ ap (λ l. flat_map (spelled 4) ns ++ l) (drop_all (13 + 4 * length ns) fields (omega (arith, reads.0, wide.0))) ∙ append-nil _ in
    let spelling = first ∙ ap (λ l. spelled 4 c.args.line ++ l) (second ∙ ap (λ l. kind_text kind ++ l) (third ∙ ap (λ l. spelled 5 c.in_ok-delay.delay ++ l) last)) in
    let on = on_lines_of c.args.lines ns (λ i below. let line = reads.1 i (omega (arith, reads.0)) in inside 1 _ _ line.1 line.2) in
    let fine = and_from _ _ (and_from _ _ (inside 1 65535 c.in_ok-delay.delay (omega arith) (omega arith)) on) (ap (λ l. fits kind (length l)) (sym c.deref.ensures.0) ∙ takes.0) in
    rw made (spelling, fine, refl)
