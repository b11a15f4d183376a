-- A reader's draft is one that a deck may have come to, it has taken few records, and it takes them one by one.
use Rattle.std.proofs.Common.{◌≡◌, ℕ, suc, ◌+◌, ◌<◌, ◌≤◌, true, false, eqb, ltb, ◌⊎◌, List, [], ◌∷◌, ◌++◌, length, Result, sym, refl, ap, ◌∙◌, subst, ⊎_elim, add-one, arith}
use Rattle.std.proofs.lemmas.List.{length-append}
use Rattle.std.proofs.lemmas.Bool.{and_from, and_cases, both_ways, lt-ltb, ltb-true, ltb-false, eq-eqb}
use Rattle.std.specs.Int.{is_in_range}
use Rattle.netlist.specs.declared.draft.Draft.{Draft}
use Rattle.netlist.specs.Drafts.{Sheet, sheet, lines, takes_gate, takes_output, with_gate, with_output, gate_answer, output_answer}
use Rattle.netlist.specs.Gates.{Gate, legal}
use Rattle.netlist.specs.Refusals.{answer}
use Rattle.netlist.specs.declared.refusal.Refusal.{Refusal}
use Rattle.netlist.proofs.Answered.{gate_taken, output_taken}
use Rattle.netlist.proofs.Sheets.{drawn_is, named_is}
use Rattle.deck.specs.Phases.{limited, agrees, progress}
use Rattle.deck.specs.Progress.{rows, rows_begun, going, Begun, Legal, expected, input_next, gate_next, output_next, end_next}
use Rattle.deck.specs.Readers.{progress_of}
use Rattle.deck.specs.Rows.{Row, input, gate, output, end}
use Rattle.deck.specs.declared.phase.Phase.{Phase}
use Rattle.deck.specs.declared.phase.Phase.TheVariants.{Header, Inputs, Gates, Outputs, End, Done}
use Rattle.deck.specs.declared.reader.DeckReader.{DeckReader}
use Rattle.deck.proofs.Following.{limited as limited-by}
use Rattle.deck.proofs.Phasing.{Telling, Drawing, Naming, Ending, telling, drawing, naming, ending, all_there, agrees_telling, agrees_drawing, agrees_naming, agrees_ending, expects_input, expects_gate, expects_output, expects_end}
use Rattle.deck.proofs.Taking.{length-begun, rows_input, rows_gate, rows_output}

-- what a draft's own numbers add to what its phase says
module _ (d : Draft) (told : ℕ) where
  begun : limited (sheet d) ≡ true → told ≤ d.size.inputs → (0 < d.drawn → told ≡ d.size.inputs) → (0 < d.named → d.drawn ≡ d.size.gates) → Begun (sheet d) told
  begun limits few first next =
      let gates = drawn_is d in
      let outputs = named_is d in
      record {
        limits = limits;
        inputs_few = few;
        gates_few = omega arith;
        outputs_few = omega arith;
        gates_legal = d.wired;
        outputs_on_lines = d.ends_on_lines;
        inputs_first = λ some. first (omega arith);
        gates_first = λ some. gates ∙ next (omega arith);
      }

begun_whole : (d : Draft) → agrees End (sheet d) ≡ true → Begun (sheet d) d.size.inputs
begun_whole d e =
    let t = ending (sheet d) e in
    let gates = drawn_is d in
    begun d d.size.inputs t.limits (omega arith) (λ some. refl) (λ some. omega arith)

-- by phase: told, drawn and named are within their limits
legal_in : (phase : Phase) (d : Draft) → agrees phase (sheet d) ≡ true → Legal (progress phase (sheet d))
legal_in Header d e = tt
legal_in (Inputs told) d e =
    let t = telling (sheet d) told e in
    let gates = drawn_is d in
    let outputs = named_is d in
    begun d told t.limits (omega arith) (λ some. absurd (omega arith)) (λ some. absurd (omega arith))
legal_in Gates d e =
    let t = drawing (sheet d) e in
    let outputs = named_is d in
    begun d d.size.inputs t.limits (omega arith) (λ some. refl) (λ some. absurd (omega arith))
legal_in Outputs d e =
    let t = naming (sheet d) e in
    let gates = drawn_is d in
    begun d d.size.inputs t.limits (omega arith) (λ some. refl) (λ some. omega arith)
legal_in End d e = begun_whole d e
legal_in Done d e = record { begun = begun_whole d e; all_there = all_there (sheet d) (ending (sheet d) e) }

pub reader_legal : (d : DeckReader) → Legal (progress_of d)
reader_legal d = legal_in d.phase d.draft d.phased

few_begun : (d : Draft) (told : ℕ) → told ≤ d.size.inputs → length (rows_begun (sheet d) told) ≤ 1281
few_begun d told few =
    let rows = length-begun (sheet d) told in
    let gates = drawn_is d in
    let outputs = named_is d in
    omega arith

few_in : (phase : Phase) (d : Draft) → agrees phase (sheet d) ≡ true → length (rows (progress phase (sheet d))) ≤ 1282
few_in Header d e = omega arith
few_in (Inputs told) d e = omega (arith, few_begun d told (legal_in (Inputs told) d e).inputs_few)
few_in Gates d e = omega (arith, few_begun d d.size.inputs (omega arith))
few_in Outputs d e = omega (arith, few_begun d d.size.inputs (omega arith))
few_in End d e = omega (arith, few_begun d d.size.inputs (omega arith))
few_in Done d e =
    let longer = length-append (rows_begun (sheet d) d.size.inputs) (end ∷ []) in
    omega (arith, few_begun d d.size.inputs (omega arith))

pub few_records : (d : DeckReader) → d.records ≤ 1282
few_records d = rw d.counted (few_in d.phase d.draft d.phased)

-- what is known of a reader in a phase
module _ (d : DeckReader) (p : Phase) (e : d.phase ≡ p) where
  agrees_in : agrees p (sheet d.draft) ≡ true
  agrees_in = subst (λ q. agrees q (sheet d.draft) ≡ true) e d.phased

  progress_in : progress_of d ≡ progress p (sheet d.draft)
  progress_in = ap (λ q. progress q (sheet d.draft)) e

pub counted_more : (d : DeckReader) (rs : List Row) (r : Row) → rs ≡ rows (progress_of d) ++ (r ∷ []) → d.records + 1 ≡ length rs
counted_more d rs r more = let longer = length-append (rows (progress_of d)) (r ∷ []) in omega (arith, ap length more, d.counted)

-- the phase p holds of the draft, and the reader's rows have grown by one
pub record Stands (d : DeckReader) (p : Phase) (s : Sheet) (r : Row) : Type 0 where
  pub agreed : agrees p s ≡ true
  pub grown : rows (progress p s) ≡ rows (progress_of d) ++ (r ∷ [])

module _ (d : DeckReader) (told : ℕ) (e : d.phase ≡ Inputs told) where
  at_inputs : Telling (sheet d.draft) told
  at_inputs = telling _ told (agrees_in d (Inputs told) e)

  pub reader_expects_input : expected (progress_of d) ≡ input_next (told + 1)
  reader_expects_input = ap expected (progress_in d (Inputs told) e) ∙ expects_input _ told at_inputs ∙ ap input_next (sym (add-one told))

  input_grown : rows (going (sheet d.draft) (told + 1)) ≡ rows (progress_of d) ++ (input (told + 1) ∷ [])
  input_grown =
      subst (λ n. rows (going (sheet d.draft) n) ≡ rows (progress_of d) ++ (input n ∷ [])) (sym (add-one told))
      (rows_input (sheet d.draft) told at_inputs.no_gates at_inputs.no_outputs ∙ ap (λ p. rows p ++ (input (suc told) ∷ [])) (sym (progress_in d (Inputs told) e)))

  last_input : told + 1 ≡ d.draft.size.inputs → Stands d Gates (sheet d.draft) (input (told + 1))
  last_input last =
      let t = at_inputs in
      let l = limited-by d.draft.size.inputs d.draft.size.gates d.draft.size.outputs t.limits in
      record { agreed = agrees_drawing (sheet d.draft) (record { limits = t.limits; few = omega arith; no_outputs = t.no_outputs }); grown = ap (λ n. rows (going (sheet d.draft) n)) (sym last) ∙ input_grown }

  next_input : (told + 1 ≡ d.draft.size.inputs → ⊥) → Stands d (Inputs (told + 1)) (sheet d.draft) (input (told + 1))
  next_input more =
      let t = at_inputs in
      record { agreed = agrees_telling (sheet d.draft) (told + 1) (record { limits = t.limits; early = omega arith; no_gates = t.no_gates; no_outputs = t.no_outputs }); grown = input_grown }

  pub input_stands : (p : Phase) → ((told + 1 ≡ d.draft.size.inputs) × (p ≡ Gates)) ⊎ ((told + 1 ≡ d.draft.size.inputs → ⊥) × (p ≡ Inputs (told + 1))) → Stands d p (sheet d.draft) (input (told + 1))
  input_stands p way =
      let At : Phase → Type 0 = λ q. Stands d q (sheet d.draft) (input (told + 1)) in
      ⊎_elim (λ last. subst At (sym last.1) (last_input last.0)) (λ more. subst At (sym more.1) (next_input more.0)) way

module _ (d : DeckReader) (e : d.phase ≡ Gates) where
  at_gates : Drawing (sheet d.draft)
  at_gates = drawing _ (agrees_in d Gates e)

  gate_is_next : takes_gate (sheet d.draft) ≡ true
  gate_is_next = lt-ltb _ _ at_gates.few

  pub reader_expects_gate : expected (progress_of d) ≡ gate_next (suc (d.draft.size.inputs + length (sheet d.draft).circuit.gates)) (lines (sheet d.draft))
  reader_expects_gate = ap expected (progress_in d Gates e) ∙ expects_gate _ at_gates

  module _ (g : Gate) (t : Draft) (is : sheet t ≡ with_gate (sheet d.draft) g) where
    gate_grown : rows (going (sheet t) t.size.inputs) ≡ rows (progress_of d) ++ (gate (suc (d.draft.size.inputs + length (sheet d.draft).circuit.gates)) g ∷ [])
    gate_grown =
        ap (λ (s : Sheet). rows (going s s.circuit.inputs)) is ∙ rows_gate (sheet d.draft) d.draft.size.inputs g at_gates.no_outputs ∙ ap (λ p. rows p ++ (gate (suc (d.draft.size.inputs + length (sheet d.draft).circuit.gates)) g ∷ [])) (sym (progress_in d Gates e))

    -- what stays, and one gate more
    limits_stay : limited (sheet t) ≡ true
    limits_stay = ap limited is ∙ at_gates.limits

    none_named : length (sheet t).circuit.outputs ≡ 0
    none_named = ap (λ (s : Sheet). length s.circuit.outputs) is ∙ at_gates.no_outputs

    last_gate : takes_gate (sheet t) ≡ false → Stands d Outputs (sheet t) (gate (suc (d.draft.size.inputs + length (sheet d.draft).circuit.gates)) g)
    last_gate full =
        let l = limited-by t.size.inputs t.size.gates t.size.outputs limits_stay in
        let over = ltb-false _ _ full in
        let drawn = drawn_is t in
        let none = none_named in
        record { agreed = agrees_naming (sheet t) (record { limits = limits_stay; all_gates = omega arith; few = omega arith }); grown = gate_grown }

    next_gate : takes_gate (sheet t) ≡ true → Stands d Gates (sheet t) (gate (suc (d.draft.size.inputs + length (sheet d.draft).circuit.gates)) g)
    next_gate more =
        record { agreed = agrees_drawing (sheet t) (record { limits = limits_stay; few = ltb-true _ _ more; no_outputs = none_named }); grown = gate_grown }

    pub gate_stands : (p : Phase) → ((true ≡ takes_gate (sheet t)) × (p ≡ Gates)) ⊎ ((false ≡ takes_gate (sheet t)) × (p ≡ Outputs)) → Stands d p (sheet t) (gate (suc (d.draft.size.inputs + length (sheet d.draft).circuit.gates)) g)
    gate_stands p way =
        let At : Phase → Type 0 = λ q. Stands d q (sheet t) (gate (suc (d.draft.size.inputs + length (sheet d.draft).circuit.gates)) g) in
        ⊎_elim (λ more. subst At (sym more.1) (next_gate (sym more.0))) (λ last. subst At (sym last.1) (last_gate (sym last.0))) way

  -- the draft takes a legal gate
  pub gate_added : (g : Gate) (t : Draft) (r : Result (Unit {0}) Refusal) → answer r ≡ gate_answer (sheet d.draft) g → (answer r ≡ 0 → sheet t ≡ with_gate (sheet d.draft) g) → legal (lines (sheet d.draft)) g ≡ true → sheet t ≡ with_gate (sheet d.draft) g
  gate_added g t r answers adds fine = adds (answers ∙ gate_taken (sheet d.draft) g gate_is_next fine)

module _ (d : DeckReader) (e : d.phase ≡ Outputs) where
  at_outputs : Naming (sheet d.draft)
  at_outputs = naming _ (agrees_in d Outputs e)

  output_is_next : takes_output (sheet d.draft) ≡ true
  output_is_next = and_from _ _ (eq-eqb _ _ at_outputs.all_gates) (lt-ltb _ _ at_outputs.few)

  pub reader_expects_output : expected (progress_of d) ≡ output_next (lines (sheet d.draft))
  reader_expects_output = ap expected (progress_in d Outputs e) ∙ expects_output _ at_outputs

  module _ (n : ℕ) (t : Draft) (is : sheet t ≡ with_output (sheet d.draft) n) where
    output_grown : rows (going (sheet t) t.size.inputs) ≡ rows (progress_of d) ++ (output n ∷ [])
    output_grown = ap (λ (s : Sheet). rows (going s s.circuit.inputs)) is ∙ rows_output (sheet d.draft) d.draft.size.inputs n ∙ ap (λ p. rows p ++ (output n ∷ [])) (sym (progress_in d Outputs e))

    limits_kept : limited (sheet t) ≡ true
    limits_kept = ap limited is ∙ at_outputs.limits

    gates_stay : length (sheet t).circuit.gates ≡ t.size.gates
    gates_stay = ap (λ (s : Sheet). length s.circuit.gates) is ∙ at_outputs.all_gates ∙ sym (ap (λ (s : Sheet). s.gates) is)

    next_output : takes_output (sheet t) ≡ true → Stands d Outputs (sheet t) (output n)
    next_output more = record { agreed = and_from _ _ limits_kept more; grown = output_grown }

    last_output : takes_output (sheet t) ≡ false → Stands d End (sheet t) (output n)
    last_output full =
        let named = named_is t in
        let over = ⊎_elim (λ no_gates. absurd (both_ways _ no_gates (eq-eqb _ _ gates_stay))) (λ none. ltb-false _ _ none) (and_cases (eqb (length (sheet t).circuit.gates) t.size.gates) (ltb (length (sheet t).circuit.outputs) t.size.outputs) full) in
        record { agreed = agrees_ending (sheet t) (record { limits = limits_kept; all_gates = gates_stay; all_outputs = omega arith }); grown = output_grown }

    pub output_stands : (p : Phase) → ((true ≡ takes_output (sheet t)) × (p ≡ Outputs)) ⊎ ((false ≡ takes_output (sheet t)) × (p ≡ End)) → Stands d p (sheet t) (output n)
    output_stands p way =
        let At : Phase → Type 0 = λ q. Stands d q (sheet t) (output n) in
        ⊎_elim (λ more. subst At (sym more.1) (next_output (sym more.0))) (λ last. subst At (sym last.1) (last_output (sym last.0))) way

  -- the draft takes an output on a line
  pub output_added : (n : ℕ) (t : Draft) (r : Result (Unit {0}) Refusal) → answer r ≡ output_answer (sheet d.draft) n → (answer r ≡ 0 → sheet t ≡ with_output (sheet d.draft) n) → is_in_range 1 (lines (sheet d.draft)) n ≡ true → sheet t ≡ with_output (sheet d.draft) n
  output_added n t r answers adds on = adds (answers ∙ output_taken (sheet d.draft) n output_is_next on)

module _ (d : DeckReader) (e : d.phase ≡ End) where
  at_end : Ending (sheet d.draft)
  at_end = ending _ (agrees_in d End e)

  pub reader_expects_end : expected (progress_of d) ≡ end_next
  reader_expects_end = ap expected (progress_in d End e) ∙ expects_end _ at_end
