use Rattle.std.proofs.Common.{◌≡◌, ◌+◌, ◌<◌, length, sym, ap, ◌∙◌, subst, arith}
use Rattle.netlist.specs.Drafts.{Sheet, sheet}
use Rattle.netlist.specs.GateRow.{MarkedGate}
use Rattle.netlist.specs.Walks.{Looped}
use Rattle.netlist.proofs.Closing.{same_gates, marks_more, from_itself, found_looped}
use Rattle.netlist.proofs.draft.Draft.mark_loops.Goals as goal

pub invariant_of-self-clause-wired : goal.invariant_of-self-clause-wired
invariant_of-self-clause-wired c =
    let d = c.loop-place.self in
    let same = same_gates d.drawn d.rows c.loop-place.place c.mark.new.self c.index-self-place.result (ap (λ (row : MarkedGate). row.gate) c.mark.ensures) in
    rw same d.wired

pub loop-place-preserved : goal.loop-place-preserved
loop-place-preserved c =
    let d = c.loop-place.self in
    let k = c.loop-place.place in
    let so_far = c.loop-place.invariant in
    let circuit = (sheet c.args.self.now).circuit in
    let begun : (sheet d).circuit ≡ circuit = ap (λ (s : Sheet). s.circuit) so_far.same in
    let gates = same_gates d.drawn d.rows k c.mark.new.self c.index-self-place.result (ap (λ (row : MarkedGate). row.gate) c.mark.ensures) in
    let within : k < length d.rows = omega arith in
    let mark : c.mark.new.self.looped ≡ c.leads-looped.result = ap (λ (row : MarkedGate). row.looped) c.mark.ensures in
    let line = d.size.inputs + 1 + k in
    record {
      drawn = so_far.drawn;
      same = ap (λ gs. record { gates = d.size.gates; outputs = d.size.outputs; circuit = record { inputs = d.size.inputs; gates = gs; outputs = (sheet d).circuit.outputs } }) gates ∙ so_far.same;
      marks = marks_more circuit d.size.inputs d.rows k c.mark.new.self within (λ e. subst (λ x. Looped x line) begun (from_itself (sheet d).circuit line (c.leads-looped.ensures.yes (sym mark ∙ e)))) (λ walk. mark ∙ found_looped (sheet d).circuit line c.leads-looped.result c.leads-looped.ensures.no (subst (λ x. Looped x line) (sym begun) walk)) so_far.marks;
    }
