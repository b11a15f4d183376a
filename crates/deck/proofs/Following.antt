-- Which rows may follow one another, and that the rows of a draft do.
use Rattle.std.proofs.Common.{◌≡◌, ℕ, zero, suc, ◌+◌, ◌^◌, ◌<◌, ◌≤◌, true, ◌&&◌, eqb, ltb, List, [], ◌∷◌, ◌++◌, length, sym, refl, subst, append_assoc, append-nil, arith, length-append}
use Rattle.std.proofs.lemmas.Bool.{lt-ltb, le-ltb, eqb-true, eq-eqb, and_parts}
use Rattle.netlist.specs.Drafts.{Sheet, within_limits, with_gate, with_output, dead}
use Rattle.netlist.specs.Gates.{Gate, legal, on_lines}
use Rattle.std.specs.List.{list_all}
use Rattle.std.specs.Int.{is_in_range}
use Rattle.netlist.proofs.Ranges.{bounds}
use Rattle.deck.specs.Rows.{Row, header, input, gate, output, end, input_rows, gate_rows, output_rows}
use Rattle.deck.specs.Progress.{Progress, blank, going, over, rows, Begun, Legal, Expected, header_next, input_next, gate_next, output_next, end_next, nothing_next, expected}

-- a row that is what is expected, with numbers that fit their columns
pub data Follows : Expected → Row → Type 0 where
  a_header : {i g o : ℕ} → within_limits i g o ≡ true → Follows header_next (header i g o)
  an_input : {n : ℕ} → n < 10 ^ 4 → Follows (input_next n) (input n)
  a_gate : {n m : ℕ} {g : Gate} → n < 10 ^ 4 → m < 10 ^ 4 → legal m g ≡ true → Follows (gate_next n m) (gate n g)
  an_output : {m n : ℕ} → m < 10 ^ 4 → is_in_range 1 m n ≡ true → Follows (output_next m) (output n)
  an_end : Follows end_next end

pub nothing_follows : (r : Row) → Follows nothing_next r → ⊥
nothing_follows r f = elim f [ ]

-- the draft so far, and how many of its inputs are told
abbrev drawn_in : Progress → Sheet
drawn_in blank = dead
drawn_in (going s told) = s
drawn_in (over s) = s

abbrev told_in : Progress → ℕ
told_in blank = 0
told_in (going s told) = told
told_in (over s) = s.circuit.inputs

-- i inputs, g gates and o outputs are to come; so many inputs are told, and these gates and outputs
abbrev pub draft : ℕ → ℕ → ℕ → ℕ → List Gate → List ℕ → Progress
draft i g o told gs ns = going (record { gates = g; outputs = o; circuit = record { inputs = i; gates = gs; outputs = ns } }) told

abbrev pub after : Progress → Row → Progress
after p (header i g o) = draft i g o 0 [] []
after p (input n) = going (drawn_in p) (suc (told_in p))
after p (gate n g) = going (with_gate (drawn_in p) g) (told_in p)
after p (output n) = going (with_output (drawn_in p) n) (told_in p)
after p end = over (drawn_in p)

-- from p the rows, each following those before it, lead to q
abbrev pub Leads : Progress → List Row → Progress → Type 0
Leads p [] q = p ≡ q
Leads p (r ∷ rs) q = Follows (expected p) r × Leads (after p r) rs q

pub leads_append : (p q t : Progress) (rs ss : List Row) → Leads p rs q → Leads q ss t → Leads p (rs ++ ss) t
leads_append p q t [] ss e there = subst (λ x. Leads x ss t) (sym e) there
leads_append p q t (r ∷ rs) ss (here, on) there = (here, leads_append (after p r) q t rs ss on there)

pub record Limited (i g o : ℕ) : Type 0 where
  pub inputs : (1 ≤ i) × (i ≤ 256)
  pub gates : (1 ≤ g) × (g ≤ 768)
  pub outputs : (1 ≤ o) × (o ≤ 256)

pub limited : (i g o : ℕ) → within_limits i g o ≡ true → Limited i g o
limited i g o e =
    let last = and_parts (is_in_range 1 256 i && is_in_range 1 768 g) (is_in_range 1 256 o) e in
    let front = and_parts (is_in_range 1 256 i) (is_in_range 1 768 g) last.0 in
    record { inputs = bounds 1 256 i front.0; gates = bounds 1 768 g front.1; outputs = bounds 1 256 o last.1 }

module _ (i g o : ℕ) (limits : Limited i g o) where
  input_follows : (told : ℕ) → told < i → Follows (expected (draft i g o told [] [])) (input (suc told))
  input_follows told h = rw (lt-ltb told i h) (an_input {n = suc told} (omega arith))

  inputs_lead : (told : ℕ) → told ≤ i → Leads (draft i g o 0 [] []) (input_rows told) (draft i g o told [] [])
  inputs_lead zero h = refl
  inputs_lead (suc told) h =
      leads_append _ (draft i g o told [] []) _ (input_rows told) _ (inputs_lead told (omega arith)) (input_follows told (omega arith), refl)

  gate_follows : (told n : ℕ) (gs : List Gate) (a : Gate) → i ≤ told → n ≡ suc (i + length gs) → length gs < g → legal (i + g) a ≡ true → Follows (expected (draft i g o told gs [])) (gate n a)
  gate_follows told n gs a first place few fine =
      rw (place, le-ltb told i first, lt-ltb (length gs) g few) (a_gate {n = suc (i + length gs)} {m = i + g} (omega arith) (omega arith) fine)

  gates_lead : (told n : ℕ) (gs hs : List Gate) → n ≡ suc (i + length gs) → (0 < length hs → told ≡ i) → length gs + length hs ≤ g → list_all (legal (i + g)) hs ≡ true → Leads (draft i g o told gs []) (gate_rows n hs) (draft i g o told (gs ++ hs) [])
  gates_lead told n gs [] place first few fine = rw append-nil
  gates_lead told n gs (a ∷ hs) place first few fine =
      let parts = and_parts (legal (i + g) a) _ fine in
      let start : told ≡ i = first (omega arith) in
      let longer = length-append gs (a ∷ []) in (
        gate_follows told n gs a (omega arith) place (omega arith) parts.0,
        rw (← append_assoc gs (a ∷ []) hs) (gates_lead told (suc n) (gs ++ (a ∷ [])) hs (omega arith) (λ z. start) (omega arith) parts.1),
      )

  output_follows : (told : ℕ) (gs : List Gate) (ns : List ℕ) (n : ℕ) → i ≤ told → length gs ≡ g → length ns < o → is_in_range 1 (i + g) n ≡ true → Follows (expected (draft i g o told gs ns)) (output n)
  output_follows told gs ns n first all few fine =
      rw (le-ltb told i first, le-ltb (length gs) g (omega arith), eq-eqb (length gs) g all, lt-ltb (length ns) o few) (an_output {m = i + g} (omega arith) fine)

  outputs_lead : (told : ℕ) (gs : List Gate) (ns ms : List ℕ) → (0 < length ms → (i ≤ told) × (length gs ≡ g)) → length ns + length ms ≤ o → on_lines (i + g) ms ≡ true → Leads (draft i g o told gs ns) (output_rows ms) (draft i g o told gs (ns ++ ms))
  outputs_lead told gs ns [] before few fine = rw append-nil
  outputs_lead told gs ns (m ∷ ms) before few fine =
      let parts = and_parts (is_in_range 1 (i + g) m) _ fine in
      let start : (i ≤ told) × (length gs ≡ g) = before (omega arith) in
      let longer = length-append ns (m ∷ []) in (
        output_follows told gs ns m start.0 start.1 (omega arith) parts.0,
        rw (← append_assoc ns (m ∷ []) ms) (outputs_lead told gs (ns ++ (m ∷ [])) ms (λ z. start) (omega arith) parts.1),
      )

  end_follows : (gs : List Gate) (ns : List ℕ) → length gs ≡ g → length ns ≡ o → Follows (expected (draft i g o i gs ns)) end
  end_follows gs ns all every =
      rw (le-ltb i i (omega arith), le-ltb (length gs) g (omega arith), eq-eqb (length gs) g all, le-ltb (length ns) o (omega arith)) an_end

  begun_leads : (told : ℕ) (gs : List Gate) (ns : List ℕ) → Begun (record { gates = g; outputs = o; circuit = record { inputs = i; gates = gs; outputs = ns } }) told → Leads blank (rows (draft i g o told gs ns)) (draft i g o told gs ns)
  begun_leads told gs ns b = (
    a_header b.limits,
    leads_append _ (draft i g o told [] []) _ (input_rows told) _ (inputs_lead told b.inputs_few)
        (leads_append _ (draft i g o told gs []) _ (gate_rows (suc i) gs) _
        (gates_lead told (suc i) [] gs (omega arith) b.inputs_first (omega arith) b.gates_legal)
        (outputs_lead told gs [] ns (omega arith) (omega arith) b.outputs_on_lines)),
  )

-- the rows of what a deck may have come to follow one another, and lead to it
pub legal_leads : (p : Progress) → Legal p → Leads blank (rows p) p
legal_leads blank l = refl
legal_leads (going s told) l = begun_leads _ _ _ (limited _ _ _ l.limits) told _ _ l
legal_leads (over s) l =
    let limits = limited _ _ _ l.begun.limits in
    let whole = and_parts (ltb 0 s.gates && eqb (length s.circuit.gates) s.gates) _ l.all_there in
    let gates-there = (and_parts (ltb 0 s.gates) _ whole.0).1 in
    leads_append blank (going s s.circuit.inputs) _ (rows (going s s.circuit.inputs)) _ (begun_leads _ _ _ limits _ _ _ l.begun)
    (end_follows _ _ _ limits _ _ (eqb-true _ _ gates-there) (eqb-true _ _ whole.1), refl)
