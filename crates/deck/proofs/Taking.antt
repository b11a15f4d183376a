-- The rows of a deck grow by one row with each record.
use Rattle.std.proofs.Common.{◌≡◌, ℕ, zero, suc, ◌+◌, List, [], ◌∷◌, ◌++◌, length, drop, sym, refl, ap, ◌∙◌, append_assoc, append-nil, arith}
use Rattle.std.proofs.lemmas.List.{length-append, length-map, map-append, nil_from_length}
use Rattle.netlist.specs.Drafts.{Sheet, with_gate, with_output}
use Rattle.netlist.specs.Gates.{Gate}
use Rattle.deck.specs.Progress.{rows_begun}
use Rattle.deck.specs.Records.{whole, Spells}
use Rattle.deck.specs.Rows.{Row, header, input, gate, output, input_rows, gate_rows, output_rows, text}
use Rattle.deck.specs.declared.«record».Record.{Record}

pub length-input_rows : (n : ℕ) → length (input_rows n) ≡ n
length-input_rows zero = refl
length-input_rows (suc n) = let longer = length-append (input_rows n) (input (suc n) ∷ []) in omega (arith, length-input_rows n)

pub length-gate_rows : (n : ℕ) (gs : List Gate) → length (gate_rows n gs) ≡ length gs
length-gate_rows n [] = refl
length-gate_rows n (g ∷ gs) = ap suc (length-gate_rows (suc n) gs)

gate_rows_push : (n : ℕ) (gs : List Gate) (g : Gate) → gate_rows n (gs ++ (g ∷ [])) ≡ gate_rows n gs ++ (gate (n + length gs) g ∷ [])
gate_rows_push n [] g = ap (λ m. gate m g ∷ []) (omega arith)
gate_rows_push n (h ∷ gs) g = ap (λ l. gate n h ∷ l) (gate_rows_push (suc n) gs g ∙ ap (λ m. gate_rows (suc n) gs ++ (gate m g ∷ [])) (omega arith))

-- one row for the header, and one for each input told, each gate and each output
pub length-begun : (s : Sheet) (told : ℕ) → length (rows_begun s told) ≡ suc (told + (length s.circuit.gates + length s.circuit.outputs))
length-begun s told =
    let gs = gate_rows (suc s.circuit.inputs) s.circuit.gates in
    let os = output_rows s.circuit.outputs in
    let outer = length-append (input_rows told) (gs ++ os) in
    let inner = length-append gs os in
    let inputs = length-input_rows told in
    let gates = length-gate_rows (suc s.circuit.inputs) s.circuit.gates in
    let outputs = length-map s.circuit.outputs output in
    omega arith

pub rows_input : (s : Sheet) (told : ℕ) → length s.circuit.gates ≡ 0 → length s.circuit.outputs ≡ 0 → rows_begun s (suc told) ≡ rows_begun s told ++ (input (suc told) ∷ [])
rows_input s told none nor =
    let gs = gate_rows (suc s.circuit.inputs) s.circuit.gates in
    let os = output_rows s.circuit.outputs in
    let empty : gs ++ os ≡ [] = nil_from_length (gs ++ os) (let both = length-append gs os in let gates = length-gate_rows (suc s.circuit.inputs) s.circuit.gates in let outputs = length-map s.circuit.outputs output in omega arith) in
    ap (λ l. header s.circuit.inputs s.gates s.outputs ∷ l) (ap (λ l. (input_rows told ++ (input (suc told) ∷ [])) ++ l) empty ∙ append-nil _ ∙ ap (λ l. l ++ (input (suc told) ∷ [])) (sym (append-nil (input_rows told)) ∙ ap (λ l. input_rows told ++ l) (sym empty)))

pub rows_gate : (s : Sheet) (told : ℕ) (g : Gate) → length s.circuit.outputs ≡ 0 → rows_begun (with_gate s g) told ≡ rows_begun s told ++ (gate (suc (s.circuit.inputs + length s.circuit.gates)) g ∷ [])
rows_gate s told g none =
    let first = suc s.circuit.inputs in
    let gs = gate_rows first s.circuit.gates in
    let os = output_rows s.circuit.outputs in
    let next = gate (suc (s.circuit.inputs + length s.circuit.gates)) g ∷ [] in
    let at : first + length s.circuit.gates ≡ suc (s.circuit.inputs + length s.circuit.gates) = omega arith in
    let pushed : gate_rows first (s.circuit.gates ++ (g ∷ [])) ≡ gs ++ next = gate_rows_push first s.circuit.gates g ∙ ap (λ m. gs ++ (gate m g ∷ [])) at in
    let empty : os ≡ [] = nil_from_length os (length-map s.circuit.outputs output ∙ none) in
    let tail : gate_rows first (s.circuit.gates ++ (g ∷ [])) ++ os ≡ (gs ++ os) ++ next = ap (λ l. l ++ os) pushed ∙ ap (λ l. (gs ++ next) ++ l) empty ∙ append-nil _ ∙ ap (λ l. l ++ next) (sym (append-nil gs) ∙ ap (λ l. gs ++ l) (sym empty)) in
    ap (λ l. header s.circuit.inputs s.gates s.outputs ∷ l) (ap (λ l. input_rows told ++ l) tail ∙ sym (append_assoc (input_rows told) (gs ++ os) next))

pub rows_output : (s : Sheet) (told n : ℕ) → rows_begun (with_output s n) told ≡ rows_begun s told ++ (output n ∷ [])
rows_output s told n =
    let gs = gate_rows (suc s.circuit.inputs) s.circuit.gates in
    let os = output_rows s.circuit.outputs in
    let tail : gs ++ output_rows (s.circuit.outputs ++ (n ∷ [])) ≡ (gs ++ os) ++ (output n ∷ []) = ap (λ l. gs ++ l) (map-append output s.circuit.outputs (n ∷ [])) ∙ sym (append_assoc gs os (output n ∷ [])) in
    ap (λ l. header s.circuit.inputs s.gates s.outputs ∷ l) (ap (λ l. input_rows told ++ l) tail ∙ sym (append_assoc (input_rows told) (gs ++ os) (output n ∷ [])))

-- a record is its letter and its fields
pub whole_is : (r : Record) (row : Row) (letter : ℕ) → r.letter ≡ letter → Spells r row → letter ∷ drop 1 (text row) ≡ text row → whole r ≡ text row
whole_is r row letter is fields all = ap (λ l. l ∷ r.fields.now) is ∙ ap (λ l. letter ∷ l) fields ∙ all
