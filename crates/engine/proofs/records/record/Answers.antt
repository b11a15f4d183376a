use Rattle.std.proofs.Common.{◌≡◌, suc, ◌+◌, ◌-◌, ◌<◌, ◌++◌, take, drop, refl, ap, sym, ◌∙◌, subst, arith}
use mathlib.Core.Path.{ap₂}
use Rattle.std.proofs.lemmas.List.{take-append-drop}
use Rattle.std.specs.Option.{unwrap_or}
use Rattle.events.specs.declared.record.EventRecord.{EventRecord}
use Rattle.netlist.specs.declared.progress.Progress.{Progress}
use Rattle.engine.specs.Lines.{panel}
use Rattle.engine.specs.Recordings.{RecordedIn}
use Rattle.engine.specs.Stores.{part}
use Rattle.engine.proofs.Parts.{lent, now_length, wrote_there, wrote_part, same_store}
use Rattle.engine.proofs.Recordings.{refused_stays}
use Rattle.engine.proofs.records.record.Goals as goal

pub returns-clause-only_there : goal.returns-clause-only_there
returns-clause-only_there g c =
    let ends = c.place-place.ensures.ends in
    let holds = c.requires.holds in
    wrote_there c.args.lines.now.stride c.args.line c.place-place.result c.args.store.now c.record_in.new.part c.place-place.ensures.begins (omega arith) c.record_in.ensures.same_length

pub returns-clause-refused_alters_nothing : goal.returns-clause-refused_alters_nothing
returns-clause-refused_alters_nothing g c none =
    let stride = c.args.lines.now.stride in
    let n = c.args.line in
    let at = c.place-place.result in
    let store = c.args.store.now in
    let new = c.record_in.new.part in
    let ends = c.place-place.ensures.ends in
    let holds = c.requires.holds in
    let kept = c.progress-kept.result.kept in
    let old = take (at + stride - at) (drop at store) in
    let stays = refused_stays _ (subst (λ r. RecordedIn g.V.Element.Alike kept (record { tick = c.args.tick; value = c.args.value }) old r new) none c.record_in.ensures.recorded) refl in
    same_store stride n store _ c.requires.a_line.0 (wrote_there stride n at store new c.place-place.ensures.begins (omega arith) c.record_in.ensures.same_length)
    (wrote_part stride n at store new c.place-place.ensures.begins (omega arith) c.record_in.ensures.same_length
    ∙ (sym (take-append-drop (suc kept) new) ∙ (ap₂ ◌++◌ stays.0 stays.1 ∙ (take-append-drop (suc kept) old ∙ lent stride n at store new c.place-place.ensures.begins (omega arith) c.record_in.ensures.same_length))))

pub returns-clause-recorded : goal.returns-clause-recorded
returns-clause-recorded g c =
    let l = c.args.lines.now in
    let stride = l.stride in
    let n = c.args.line in
    let at = c.place-place.result in
    let store = c.args.store.now in
    let new = c.record_in.new.part in
    let ends = c.place-place.ensures.ends in
    let holds = c.requires.holds in
    let event : EventRecord g.row.V.Denot = record { tick = c.args.tick; value = c.args.value } in
    let kept : c.progress-kept.result.kept ≡ ((panel l).progress n).kept = ap (λ (x : Progress). x.kept) c.progress-kept.ensures in
    subst (RecordedIn g.V.Element.Alike ((panel l).progress n).kept event (part stride n store) c.record_in.result) (sym (wrote_part stride n at store new c.place-place.ensures.begins (omega arith) c.record_in.ensures.same_length))
    (subst (λ k. RecordedIn g.V.Element.Alike k event (part stride n store) c.record_in.result new) kept
    (subst (λ old. RecordedIn g.V.Element.Alike c.progress-kept.result.kept event old c.record_in.result new) (lent stride n at store new c.place-place.ensures.begins (omega arith) c.record_in.ensures.same_length) c.record_in.ensures.recorded))

pub returns-clause-fits : goal.returns-clause-fits
returns-clause-fits g c =
    let stride = c.args.lines.now.stride in
    let ends = c.place-place.ensures.ends in
    let holds = c.requires.holds in
    let kept = ap (λ (x : Progress). x.kept) c.progress-kept.ensures in
    let count = now_length stride c.args.line c.place-place.result c.args.store.now c.record_in.new.part c.place-place.ensures.begins (omega arith) c.record_in.ensures.same_length in
    subst (λ k. unwrap_or c.record_in.result k < stride) kept (let fits = c.record_in.ensures.fits in omega (arith, count))
