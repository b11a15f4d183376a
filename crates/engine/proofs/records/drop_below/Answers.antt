use Rattle.std.proofs.Common.{◌≡◌, ◌+◌, ◌-◌, take, drop, ap, sym, subst, arith}
use Rattle.events.specs.declared.record.EventRecord.{EventRecord}
use Rattle.netlist.specs.declared.progress.Progress.{Progress}
use Rattle.engine.specs.Lines.{panel}
use Rattle.engine.specs.Recordings.{DroppedIn}
use Rattle.engine.specs.Stores.{part}
use Rattle.engine.proofs.Parts.{lent, wrote_there, wrote_part}
use Rattle.engine.proofs.records.drop_below.Goals as goal

pub returns-clause-only_there : goal.returns-clause-only_there
returns-clause-only_there g c =
    let ends = c.place-place.ensures.ends in
    let holds = c.requires.holds in
    wrote_there c.args.lines.now.stride c.args.line c.place-place.result c.args.store.now c.drop_in.new.part c.place-place.ensures.begins (omega arith) c.drop_in.ensures.same_length

pub returns-clause-dropped : goal.returns-clause-dropped
returns-clause-dropped g c =
    let l = c.args.lines.now in
    let stride = l.stride in
    let n = c.args.line in
    let t = c.args.tick in
    let at = c.place-place.result in
    let store = c.args.store.now in
    let new = c.drop_in.new.part in
    let ends = c.place-place.ensures.ends in
    let holds = c.requires.holds in
    let filler : EventRecord g.row.V.Denot = record { tick = 0; value = g.V.ValueSystem.START } in
    let kept : c.progress-kept.result.kept ≡ ((panel l).progress n).kept = ap (λ (x : Progress). x.kept) c.progress-kept.ensures in
    subst (DroppedIn t filler ((panel l).progress n).kept (part stride n store) c.drop_in.result) (sym (wrote_part stride n at store new c.place-place.ensures.begins (omega arith) c.drop_in.ensures.same_length))
    (subst (λ k. DroppedIn t filler k (part stride n store) c.drop_in.result new) kept
    (subst (λ old. DroppedIn t filler c.progress-kept.result.kept old c.drop_in.result new) (lent stride n at store new c.place-place.ensures.begins (omega arith) c.drop_in.ensures.same_length) (subst (λ v. DroppedIn t (record { tick = 0; value = v }) c.progress-kept.result.kept (take (at + stride - at) (drop at store)) c.drop_in.result new) c.START.ensures
    (subst (λ f. DroppedIn t f c.progress-kept.result.kept (take (at + stride - at) (drop at store)) c.drop_in.result new) c.at_start-filler.ensures c.drop_in.ensures.dropped))))
