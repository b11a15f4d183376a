use Rattle.std.proofs.Common.{set, ap, ◌∙◌, arith}
use Rattle.events.specs.declared.record.EventRecord.{EventRecord}
use Rattle.engine.specs.Stores.{part}
use Rattle.engine.proofs.Parts.{set_there, set_part}
use Rattle.engine.proofs.records.rebase.Goals as goal

pub returns-clause-only_there : goal.returns-clause-only_there
returns-clause-only_there g c =
    let l = c.args.lines.now in
    let some = l.kept_fit c.args.line c.requires.a_line.0 c.requires.a_line.1 in
    set_there l.stride c.args.line c.place-place.result c.args.store.now c.at_start.result c.place-place.ensures.begins (omega arith)

pub returns-clause-begins : goal.returns-clause-begins
returns-clause-begins g c =
    let l = c.args.lines.now in
    let some = l.kept_fit c.args.line c.requires.a_line.0 c.requires.a_line.1 in
    set_part l.stride c.args.line c.place-place.result c.args.store.now c.at_start.result c.place-place.ensures.begins (omega arith)
    ∙ ap (λ (r : EventRecord g.row.V.Denot). set (part l.stride c.args.line c.args.store.now) 0 r) c.at_start.ensures
