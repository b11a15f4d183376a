use Rattle.std.proofs.Common.{◌≡◌, ◌-◌, ◌*◌, ◌/◌, ◌<◌, ◌≤◌, length, refl, ap, sym, ◌∙◌, subst}
use Rattle.netlist.specs.Closed.{circuit}
use Rattle.netlist.specs.Gates.{Circuit, nothing}
use Rattle.semantics.specs.Circuits.{lines}
use Rattle.engine.specs.Answers.{numbered}
use Rattle.engine.specs.Lines.{Panel, panel}
use Rattle.engine.specs.Sessions.{given}
use Rattle.engine.proofs.Books.{sure}
use Rattle.engine.proofs.Made.{accepted_so, some_each, no_more, refused_so, made_so, shows_made, stands_made}
use Rattle.engine.proofs.Moving.{keeps_on}
use Rattle.engine.proofs.Sessions.{empty_made}
use Rattle.engine.proofs.session.Session.make.Goals as goal

pub returns-in_default-clause-makes : goal.returns-in_default-clause-makes
returns-in_default-clause-makes g c =
    let meaning = g.V.ValueSystem.meaning in
    let system = g.V.ValueSystem.system in
    let p = panel c.new.result in
    let empty : p.circuit ≡ nothing = ap (λ (q : Panel). q.circuit) c.new.ensures ∙ c.empty.ensures in (
      numbered c.check.result,
      c.check.ensures.answers,
      refused_so meaning system g.V.ValueSystem.START (circuit c.args.netlist) c.args.starts.now c.args.store.now _ c.check.result c.in_default.not-Ok
          (record {
            circuit = empty;
            no_room = ap (λ (q : Panel). q.stride - 1) c.new.ensures;
            untouched = refl;
            stands = empty_made meaning system p (ap lines empty) c.args.store.now (ap (λ (q : Panel). q.trim) c.new.ensures);
          }),
    )

pub nonzero_div-stride : goal.nonzero_div-stride
nonzero_div-stride g c =
    let can = accepted_so (circuit c.args.netlist) (length c.args.store.now) (length c.args.starts.now) c.in-Ok.ensures.answers in
    subst (λ k. 0 < k) (sym c.lines.ensures) can.some

pub new-lines-requires : goal.new-lines-requires
new-lines-requires g c =
    let can = accepted_so (circuit c.args.netlist) (length c.args.store.now) (length c.args.starts.now) c.in-Ok.ensures.answers in
    subst (λ k. 0 < length c.args.store.now / k) (sym c.lines.ensures) (some_each (lines (circuit c.args.netlist)) (length c.args.store.now) can.some can.enough)

pub returns-clause-makes : goal.returns-clause-makes
returns-clause-makes g c =
    let meaning = g.V.ValueSystem.meaning in
    let system = g.V.ValueSystem.system in
    let START = g.V.ValueSystem.START in
    let netlist = circuit c.args.netlist in
    let starts = c.args.starts.now in
    let old = c.args.store.now in
    let new = c.settle_all.new.store in
    let p = panel c.new-lines.result in
    let can = accepted_so netlist (length old) (length starts) c.in-Ok.ensures.answers in
    let same : p.circuit ≡ netlist = ap (λ (q : Panel). q.circuit) c.new-lines.ensures in
    let each : p.stride ≡ length old / lines netlist = ap (λ (q : Panel). q.stride) c.new-lines.ensures ∙ ap (λ k. length old / k) c.lines.ensures in
    let keeps = keeps_on p p p old c.begin_all.new.store new c.begin_all.ensures.keeps c.settle_all.ensures.keeps in
    let fits = no_more p netlist (length old) same each in
    let holds : lines p.circuit * p.stride ≤ length new = subst (λ k. lines p.circuit * p.stride ≤ k) (sym keeps.same_length) fits in
    let right = c.settle_all.ensures.right (given meaning START starts) (c.begin_all.ensures.right (can.one_each ∙ ap (λ (d : Circuit). d.inputs) (sym same))) in (
      numbered c.check.result,
      c.check.ensures.answers,
      made_so meaning system START netlist starts old _ c.check.result c.in-Ok.field-0 c.in-Ok.is
          (record {
            circuit = same;
            stride = each;
            same_length = keeps.same_length;
            beyond = keeps.beyond;
            stands = stands_made meaning system START p new (given meaning START starts) (sure c.new-lines.result).wired g.met.V.ValueSystem.start_means
                (shows_made meaning system START p new (given meaning START starts) (sure c.new-lines.result).wired g.met.V.ValueSystem.start_means
                (ap (λ (q : Panel). q.trim) c.new-lines.ensures) (λ n. ap (λ (q : Panel). q.progress n) c.new-lines.ensures)
                (c.settle_all.ensures.begun c.begin_all.ensures.begun) right holds);
          }),
    )
