use Rattle.std.proofs.Common.{◌≡◌, ◌+◌, ◌<◌, ◌≤◌, refl, ap, sym, ◌∙◌, subst, inl, arith}
use Rattle.std.specs.Option.{unwrap_or}
use Rattle.netlist.specs.declared.progress.Progress.{Progress}
use Rattle.semantics.specs.Moves.{fed}
use Rattle.semantics.proofs.Wiring.{input_range, line_range}
use Rattle.engine.specs.Answers.{Feeding}
use Rattle.engine.specs.Lines.{Panel, panel}
use Rattle.engine.specs.Standing.{Stands}
use Rattle.engine.proofs.Books.{sure}
use Rattle.engine.proofs.Gifts.{overflows, tells_on, fed_stands, can_feed, feed_refused}
use Rattle.engine.proofs.Moving.{keeps_moved}
use Rattle.engine.proofs.giving.feed.Goals as goal

pub returns-in_default-clause-answers : goal.returns-in_default-clause-answers
returns-in_default-clause-answers g c a h = (a, Feeding.no_input c.in_default.ensures, h)

pub returns-then-tick-progress-clause-answers : goal.returns-then-tick-progress-clause-answers
returns-then-tick-progress-clause-answers g c a h =
    let found = c.in-Some.ensures in
    let end : c.in-Some.progress.tick ≡ a.end c.args.line = ap (λ (x : Progress). x.tick) found.1 ∙ h.shows.ends c.args.line found.0 in
    (a, Feeding.past found.0 (let before = c.if-tick-progress.true in omega arith), h)

pub returns-then-tick-ge-LAST_END-clause-answers : goal.returns-then-tick-ge-LAST_END-clause-answers
returns-then-tick-ge-LAST_END-clause-answers g c a h =
    let found = c.in-Some.ensures in
    let end : c.in-Some.progress.tick ≡ a.end c.args.line = ap (λ (x : Progress). x.tick) found.1 ∙ h.shows.ends c.args.line found.0 in
    (a, Feeding.late found.0 (let from = c.if-tick-progress.false in omega arith) (let late = c.if-tick-ge-LAST_END.true in omega arith), h)

pub returns-in_default-record-clause-answers : goal.returns-in_default-record-clause-answers
returns-in_default-record-clause-answers g c a h =
    let meaning = g.V.ValueSystem.meaning in
    let system = g.V.ValueSystem.system in
    let l = c.args.lines.now in
    let p = panel l in
    let n = c.args.line in
    let t = c.args.tick in
    let found = c.in-Some.ensures in
    let end : c.in-Some.progress.tick ≡ a.end n = ap (λ (x : Progress). x.tick) found.1 ∙ h.shows.ends n found.0 in
    let not_past : a.end n ≤ t = let from = c.if-tick-progress.false in omega arith in
    let in_time : t ≤ 1999999999 = let late = c.if-tick-ge-LAST_END.false in omega arith in
    let range = input_range p.circuit n found.0 in
    let kept_fits = l.kept_fit n (omega (arith, range.0)) (line_range p.circuit n (inl found.0)) in
    let told = c.record.ensures in
    let over = overflows meaning system p c.args.store.now a (sure l) h n t found.0 not_past (meaning c.args.value) g.V.Element.Alike told.alike_is_same c.record.new.store told.only_there c.requires kept_fits c.args.value refl c.record.result c.in_default-record.is told.fits told.recorded in (
      a,
      Feeding.full found.0 not_past in_time (feed_refused meaning system p c.args.store.now a (sure l) h n t found.0 not_past (meaning c.args.value) over),
      subst (λ st. Stands meaning system p st a) (sym (told.refused_alters_nothing c.in_default-record.is)) h,
    )

pub returns-clause-keeps : goal.returns-clause-keeps
returns-clause-keeps g c =
    let p = panel c.args.lines.now in
    keeps_moved p (panel c.advance.new.self) c.args.line (record { tick = c.args.tick + 1; kept = c.in-Some-record.kept }) c.args.store.now c.record.new.store c.advance.ensures (inl c.in-Some.ensures.0) c.record.ensures.only_there

pub returns-clause-answers : goal.returns-clause-answers
returns-clause-answers g c a h =
    let meaning = g.V.ValueSystem.meaning in
    let system = g.V.ValueSystem.system in
    let l = c.args.lines.now in
    let p = panel l in
    let n = c.args.line in
    let t = c.args.tick in
    let v = meaning c.args.value in
    let found = c.in-Some.ensures in
    let end : c.in-Some.progress.tick ≡ a.end n = ap (λ (x : Progress). x.tick) found.1 ∙ h.shows.ends n found.0 in
    let not_past : a.end n ≤ t = let from = c.if-tick-progress.false in omega arith in
    let in_time : t ≤ 1999999999 = let late = c.if-tick-ge-LAST_END.false in omega arith in
    let range = input_range p.circuit n found.0 in
    let kept_fits = l.kept_fit n (omega (arith, range.0)) (line_range p.circuit n (inl found.0)) in
    let told = c.record.ensures in
    let k = c.in-Some-record.kept in
    let tells = tells_on meaning system p c.args.store.now a (sure l) h n t found.0 not_past v g.V.Element.Alike told.alike_is_same c.record.new.store told.only_there c.requires kept_fits c.args.value refl c.record.result k c.in-Some-record.is told.fits told.recorded in
    let fits : k < p.stride = subst (λ r. unwrap_or r (p.progress n).kept < p.stride) c.in-Some-record.is told.fits in (
      fed a n t v,
      Feeding.accepted (can_feed meaning system p c.args.store.now a (sure l) h n t found.0 not_past v c.record.new.store told.only_there in_time k fits tells),
      subst (λ (o : Panel). Stands meaning system o c.record.new.store (fed a n t v)) (sym c.advance.ensures) (fed_stands meaning system p c.args.store.now a (sure l) h n t found.0 not_past v c.record.new.store told.only_there in_time k fits tells),
    )
