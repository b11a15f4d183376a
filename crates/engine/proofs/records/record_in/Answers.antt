use Rattle.std.proofs.Common.{suc, false, rules, take, drop, sym, subst}
use Rattle.events.specs.Recording.{Recorded}
use Rattle.events.specs.declared.record.EventRecord.{EventRecord}
use Rattle.engine.proofs.Recordings.{refused_stays, same_count}
use Rattle.engine.proofs.records.record_in.Goals as goal

pub returns-else-record-clause-recorded : goal.returns-else-record-clause-recorded
returns-else-record-clause-recorded g c =
    let old = c.args.part.now in
    let k = c.args.kept in
    let list = c.record.new.self in
    let event : EventRecord g.row.V.Denot = record { tick = c.args.tick; value = c.args.value } in
    let stays = refused_stays _ c.record.ensures.recorded c.if-record.false in
    let count = same_count list.records.now old list.kept k list.within c.requires stays.0 in
    let whole : Recorded g.V.Element.Alike (take (suc k) old) (drop (suc k) old) event false (take (suc list.kept) list.records.now) (drop (suc list.kept) list.records.now) = c.if-record.ensures.recorded in
    subst (λ final. Recorded g.V.Element.Alike (take (suc k) old) (drop (suc k) old) event false (take (suc k) final) (drop (suc k) final)) (sym (search rules))
    (subst (λ j. Recorded g.V.Element.Alike (take (suc k) old) (drop (suc k) old) event false (take (suc j) list.records.now) (drop (suc j) list.records.now)) count whole)
