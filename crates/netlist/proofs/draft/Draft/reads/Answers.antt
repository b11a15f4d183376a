use Rattle.std.proofs.Common.{take, sym, ap, ◌∙◌}
use Rattle.std.proofs.lemmas.List.{get_or-map}
use Rattle.netlist.specs.Drafts.{sheet}
use Rattle.netlist.specs.GateRow.{MarkedGate, empty}
use Rattle.netlist.specs.Gates.{Gate}
use Rattle.netlist.specs.Rows.{gate_of}
use Rattle.netlist.specs.Walks.{no_gate}
use Rattle.netlist.proofs.Reading.{reads_at_gate}
use Rattle.netlist.proofs.draft.Draft.reads.Goals as goal

pub returns-in-Some : goal.returns-in-Some
returns-in-Some c =
    let d = c.args.self.now in
    let (k, within, line, row) = c.in-Some.ensures in
    let gate = get_or-map gate_of (take d.drawn d.rows) k empty no_gate within in
    c.reads.ensures ∙ ap (λ (r : MarkedGate). r.gate.reads) row ∙ sym (reads_at_gate (sheet d).circuit c.args.line k line ∙ ap (λ (g : Gate). g.reads) gate)
