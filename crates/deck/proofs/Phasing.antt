-- What each phase says of a draft, which row is expected in it, and which phase comes after.
use Rattle.std.proofs.Common.{◌≡◌, ℕ, suc, ◌+◌, ◌<◌, ◌≤◌, true, false, eqb, ltb, length, arith}
use Rattle.std.proofs.lemmas.Bool.{and_parts, and_from, ltb-true, eqb-true, lt-ltb, le-ltb, eq-eqb}
use Rattle.netlist.specs.Drafts.{Sheet, lines, takes_gate, takes_output, complete}
use Rattle.deck.specs.Phases as phases
use Rattle.deck.specs.Phases.{agrees}
use Rattle.deck.specs.Progress.{going, expected, input_next, gate_next, output_next, end_next}
use Rattle.deck.specs.declared.phase.Phase.TheVariants.{Inputs, Gates, Outputs, End}
use Rattle.deck.proofs.Following.{limited}

-- while inputs are told: no gate and no output yet
pub record Telling (s : Sheet) (told : ℕ) : Type 0 where
  pub limits : phases.limited s ≡ true
  pub early : told < s.circuit.inputs
  pub no_gates : length s.circuit.gates ≡ 0
  pub no_outputs : length s.circuit.outputs ≡ 0

-- while gates come: no output yet
pub record Drawing (s : Sheet) : Type 0 where
  pub limits : phases.limited s ≡ true
  pub few : length s.circuit.gates < s.gates
  pub no_outputs : length s.circuit.outputs ≡ 0

-- while outputs come: all gates stand
pub record Naming (s : Sheet) : Type 0 where
  pub limits : phases.limited s ≡ true
  pub all_gates : length s.circuit.gates ≡ s.gates
  pub few : length s.circuit.outputs < s.outputs

-- at the end: all gates and outputs stand
pub record Ending (s : Sheet) : Type 0 where
  pub limits : phases.limited s ≡ true
  pub all_gates : length s.circuit.gates ≡ s.gates
  pub all_outputs : length s.circuit.outputs ≡ s.outputs

module _ (s : Sheet) where
  pub telling : (told : ℕ) → agrees (Inputs told) s ≡ true → Telling s told
  telling told e =
      let a = and_parts _ (eqb (length s.circuit.outputs) 0) e in
      let b = and_parts _ (eqb (length s.circuit.gates) 0) a.0 in
      let c = and_parts (phases.limited s) (ltb told s.circuit.inputs) b.0 in
      record { limits = c.0; early = ltb-true _ _ c.1; no_gates = eqb-true _ _ b.1; no_outputs = eqb-true _ _ a.1 }

  pub drawing : agrees Gates s ≡ true → Drawing s
  drawing e =
      let a = and_parts _ (eqb (length s.circuit.outputs) 0) e in
      let b = and_parts (phases.limited s) (takes_gate s) a.0 in
      record { limits = b.0; few = ltb-true _ _ b.1; no_outputs = eqb-true _ _ a.1 }

  pub naming : agrees Outputs s ≡ true → Naming s
  naming e =
      let a = and_parts (phases.limited s) (takes_output s) e in
      let b = and_parts (eqb (length s.circuit.gates) s.gates) (ltb (length s.circuit.outputs) s.outputs) a.1 in
      record { limits = a.0; all_gates = eqb-true _ _ b.0; few = ltb-true _ _ b.1 }

  pub ending : agrees End s ≡ true → Ending s
  ending e =
      let a = and_parts (phases.limited s) (complete s) e in
      let b = and_parts _ (eqb (length s.circuit.outputs) s.outputs) a.1 in
      let c = and_parts (ltb 0 s.gates) (eqb (length s.circuit.gates) s.gates) b.0 in
      record { limits = a.0; all_gates = eqb-true _ _ c.1; all_outputs = eqb-true _ _ b.1 }

  -- the other way round
  pub agrees_telling : (told : ℕ) → Telling s told → agrees (Inputs told) s ≡ true
  agrees_telling told t = and_from _ _ (and_from _ _ (and_from _ _ t.limits (lt-ltb _ _ t.early)) (eq-eqb _ _ t.no_gates)) (eq-eqb _ _ t.no_outputs)

  pub agrees_drawing : Drawing s → agrees Gates s ≡ true
  agrees_drawing t = and_from _ _ (and_from _ _ t.limits (lt-ltb _ _ t.few)) (eq-eqb _ _ t.no_outputs)

  pub agrees_naming : Naming s → agrees Outputs s ≡ true
  agrees_naming t = and_from _ _ t.limits (and_from _ _ (eq-eqb _ _ t.all_gates) (lt-ltb _ _ t.few))

  pub all_there : Ending s → complete s ≡ true
  all_there t =
      let l = limited s.circuit.inputs s.gates s.outputs t.limits in
      and_from _ _ (and_from _ _ (lt-ltb 0 s.gates (omega arith)) (eq-eqb _ _ t.all_gates)) (eq-eqb _ _ t.all_outputs)

  pub agrees_ending : Ending s → agrees End s ≡ true
  agrees_ending t = and_from _ _ t.limits (all_there t)

  -- the row that is expected
  pub expects_input : (told : ℕ) → Telling s told → expected (going s told) ≡ input_next (suc told)
  expects_input told t = rw (lt-ltb told s.circuit.inputs t.early)

  -- all inputs are told
  told_all : ltb s.circuit.inputs s.circuit.inputs ≡ false
  told_all = le-ltb s.circuit.inputs s.circuit.inputs (omega arith)

  pub expects_gate : Drawing s → expected (going s s.circuit.inputs) ≡ gate_next (suc (s.circuit.inputs + length s.circuit.gates)) (lines s)
  expects_gate t = rw (told_all, lt-ltb (length s.circuit.gates) s.gates t.few)

  pub expects_output : Naming s → expected (going s s.circuit.inputs) ≡ output_next (lines s)
  expects_output t =
      let full : s.gates ≤ length s.circuit.gates = omega arith in
      rw (told_all, le-ltb (length s.circuit.gates) s.gates full, eq-eqb (length s.circuit.gates) s.gates t.all_gates, lt-ltb (length s.circuit.outputs) s.outputs t.few)

  pub expects_end : Ending s → expected (going s s.circuit.inputs) ≡ end_next
  expects_end t =
      let full : s.gates ≤ length s.circuit.gates = omega arith in
      let done : s.outputs ≤ length s.circuit.outputs = omega arith in
      rw (told_all, le-ltb (length s.circuit.gates) s.gates full, eq-eqb (length s.circuit.gates) s.gates t.all_gates, le-ltb (length s.circuit.outputs) s.outputs done)
