-- What a draft's own numbers say of its sheet.
use Rattle.std.proofs.Common.{◌≡◌, ◌≤◌, length, take, ◌∙◌, arith}
use Rattle.std.proofs.lemmas.List.{length-map, length-take-le}
use Rattle.netlist.specs.declared.draft.Draft.{Draft}
use Rattle.netlist.specs.Drafts.{sheet}
use Rattle.netlist.specs.Rows.{gate_of}

pub drawn_is : (d : Draft) → length (sheet d).circuit.gates ≡ d.drawn
drawn_is d =
    let within : d.drawn ≤ length d.rows = omega arith in
    length-map (take d.drawn d.rows) gate_of ∙ length-take-le d.drawn d.rows within

pub named_is : (d : Draft) → length (sheet d).circuit.outputs ≡ d.named
named_is d =
    let within : d.named ≤ length d.ends = omega arith in
    length-take-le d.named d.ends within
