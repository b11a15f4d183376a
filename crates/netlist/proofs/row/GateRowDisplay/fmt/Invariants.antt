use Rattle.std.proofs.Common.{take}
use Rattle.std.specs.Fmt.{HasWritten, IsPlainFormatter}
use Rattle.netlist.specs.GateRow.{gate_text}
use Rattle.netlist.proofs.row.GateRowDisplay.fmt.Given as goal

-- written so far: the text of a gate that reads the lines so far
abbrev pub invariant-loop-line : goal.invariant-loop-line
invariant-loop-line g l =
    IsPlainFormatter l.fn.f →
    HasWritten g.W.Write.write_str_gives l.fn.f
    (gate_text (record { kind = l.self.gate.kind; delay = l.self.gate.delay; reads = take l.line-index l.self.gate.reads })) l.f
