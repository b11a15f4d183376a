use Rattle.std.proofs.Common.{◌<◌, length, Ok, ap, sym, ◌∙◌, subst, arith}
use Rattle.std.proofs.lemmas.Bool.{ltb-true, ltb-false}
use Rattle.std.proofs.lemmas.Bool.Decides.{not_from_Decides}
use Rattle.std.proofs.lemmas.Option.{slice_get-get_or}
use Rattle.semantics.specs.Accounts.{value}
use Rattle.engine.specs.Answers.{Eventful}
use Rattle.engine.specs.Lines.{panel}
use Rattle.engine.specs.Standing.{machine_of}
use Rattle.engine.specs.Stores.{seen}
use Rattle.engine.proofs.Books.{line_of, of_line}
use Rattle.engine.proofs.Telling.{each, changes_told, as_many, events_as_many}
use Rattle.engine.proofs.asking.event.Goals as goal

pub returns-then-not-has : goal.returns-then-not-has
returns-then-not-has g c a h = Eventful.no_line (λ line. not_from_Decides c.has.result c.has.ensures c.if-not-has.true (of_line (panel c.args.lines.now) c.args.line line))

pub returns-in-Some : goal.returns-in-Some
returns-in-Some g c a h =
    let meaning = g.V.ValueSystem.meaning in
    let s = machine_of g.V.ValueSystem.system (panel c.args.lines.now) in
    let n = c.args.line in
    let k = c.args.k in
    let line = line_of (panel c.args.lines.now) n (c.has.ensures.0 c.if-not-has.false) in
    let told = h.shows.records n line in
    let base = c.events_of.result.base in
    let changes = c.events_of.result.changes.now in
    let found = c.in-Some.ensures.lookup in
    let within = ltb-true k (length changes) (sym found.0) in
    let same = changes_told meaning s _ a n _ _ _ told base changes c.events_of.ensures in
    let few : k < length told.ticks = omega (arith, within, as_many meaning (value s a n) changes told.ticks same) in
    subst (λ x. Eventful s a n k (Ok x)) (sym (ap (seen meaning) found.1 ∙ each meaning (value s a n) changes told.ticks same k c.in-Some.change.now 0 within))
    (Eventful.told line told.changes (slice_get-get_or told.ticks k 0 few))

pub returns-in-None : goal.returns-in-None
returns-in-None g c a h =
    let n = c.args.line in
    let line = line_of (panel c.args.lines.now) n (c.has.ensures.0 c.if-not-has.false) in
    let told = h.shows.records n line in
    let past = ltb-false c.args.k (length c.events_of.result.changes.now) (sym c.in-None.ensures.lookup.0) in
    Eventful.none_such line told.changes (omega (arith, past, told.count, events_as_many g.V.ValueSystem.meaning _ _ a n _ _ _ told c.events_of.result.base c.events_of.result.changes.now c.events_of.ensures))
