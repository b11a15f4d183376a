use Rattle.std.proofs.Common.{◌≡◌, ◌+◌, ◌-◌, ◌≤◌, ◌∷◌, suc, take, drop, get_or, refl, ap, sym, ◌∙◌, arith}
use Rattle.std.proofs.lemmas.List.{get_or-take, get_or_default, length-take-le}
use Rattle.events.specs.declared.record.EventRecord.{EventRecord}
use Rattle.events.proofs.Lists.{filled, shows, frees}
use Rattle.events.proofs.records.drop_below.Goals as goal

pub returns-clause-dropped : goal.returns-clause-dropped
returns-clause-dropped g c rising =
    let xs = c.args.records.now in
    let k = c.args.kept in
    let n = c.changes_before-dropped.result in
    let few : n ≤ k = c.changes_before-dropped.ensures.within in
    let within = c.requires in
    let base : EventRecord g.row.E.Denot = record { tick = c.args.tick; value = (get_or xs n c.index-records-dropped.result).value } in
    let count : k + 1 - (n + 1) ≡ k - n = omega arith in
    let next : n + 1 ≡ suc n = omega arith in
    let from : k - n + 1 ≡ suc (k - n) = omega arith in
    let free : k + 1 - (k - n + 1) ≡ n = omega arith in
    let done : c.fill.new.records ≡ filled xs k n base c.args.filler few within = rw (c.fill.ensures, c.copy_within.ensures.after, free, from, count, next) refl in
    let last : get_or xs n c.index-records-dropped.result ≡ get_or (take (suc k) xs) n c.args.filler = get_or_default xs n c.index-records-dropped.result c.args.filler (omega arith) ∙ sym (get_or-take (suc k) xs n c.args.filler (omega arith)) in
    record {
      count = n;
      within = omega (arith, length-take-le (suc k) xs (omega arith));
      parts = c.changes_before-dropped.ensures.parts_them rising;
      changes = ap (take (suc (k - n))) done ∙ (shows xs k n base c.args.filler few within ∙ ap (λ (e : EventRecord g.row.E.Denot). record { tick = c.args.tick; value = e.value } ∷ drop (suc n) (take (suc k) xs)) last);
      spare = ap (drop (suc (k - n))) done ∙ frees xs k n base c.args.filler few within;
    }
