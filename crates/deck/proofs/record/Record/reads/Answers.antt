use Rattle.deck.specs.Records.{whole}
use Rattle.deck.proofs.Exits.{carried}
use Rattle.deck.proofs.Failing.{reads_pass, reads_failed}
use Rattle.deck.proofs.record.Record.reads.Goals as goal

pub returns-in_err-line : goal.returns-in_err-line
returns-in_err-line c =
    let r = c.args.self.now in
    carried c.from_residual.result _ _ _ c.from_residual.ensures.1
    (reads_failed (whole r) r.number c.args.lines c.loop-place.place c.args.count _ c.loop-place-test.true (reads_pass (whole r) c.args.lines c.loop-place.place c.loop-place.reads.items c.loop-place.invariant.1) c.in_err-line.ensures)
