use Rattle.std.proofs.Common.{arith}
use Rattle.engine.proofs.Parts.{wrote_there}
use Rattle.engine.proofs.records.begin.Goals as goal

pub returns-clause-only_there : goal.returns-clause-only_there
returns-clause-only_there g c =
    let ends = c.place-place.ensures.ends in
    let holds = c.requires.holds in
    wrote_there c.args.lines.now.stride c.args.line c.place-place.result c.args.store.now c.begin_in.new.part c.place-place.ensures.begins (omega arith) c.begin_in.ensures.same_length
