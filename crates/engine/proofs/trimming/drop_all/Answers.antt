use Rattle.std.proofs.Common.{◌≡◌, ◌+◌, ◌-◌, ◌≤◌, length, ap, sym, subst, arith}
use Rattle.netlist.specs.declared.progress.Progress.{Progress}
use Rattle.semantics.specs.Circuits.{lines, topology}
use Rattle.semantics.specs.Machines.{IsLine}
use Rattle.engine.specs.Droppings.{Dropping}
use Rattle.engine.specs.Lines.{Panel, panel}
use Rattle.engine.specs.Stores.{part}
use Rattle.engine.proofs.Books.{line_of}
use Rattle.engine.proofs.Moving.{keeps_moved, keeps_on, holds_kept}
use Rattle.engine.proofs.Parts.{part_length}
use Rattle.engine.proofs.Trims.{drop_one}
use Rattle.engine.proofs.trimming.drop_all.Goals as goal

pub loop-place-preserved : goal.loop-place-preserved
loop-place-preserved g c =
    let meaning = g.V.ValueSystem.meaning in
    let system = g.V.ValueSystem.system in
    let p = panel c.args.lines.now in
    let q = panel c.loop-place.lines in
    let r = panel c.advance.new.self in
    let old = c.loop-place.store in
    let new = c.drop_below-kept.new.store in
    let n = c.loop-place.place + 1 in
    let so_far = c.loop-place.invariant in
    let dropped = c.drop_below-kept.ensures in
    let x : Progress = record { tick = c.progress-progress.result.tick; kept = c.drop_below-kept.result } in
    let inside : n ≤ lines q.circuit = subst (λ k. n ≤ lines k) (sym so_far.keeps.circuit) (let within = c.loop-place-test.true in omega (arith, c.lines-place-end.ensures)) in
    let line = line_of q n (omega arith, inside) in
    let line_before : IsLine (topology p.circuit) n = subst (λ k. IsLine (topology k) n) so_far.keeps.circuit line in
    let holds = holds_kept p q c.args.store.now old so_far.keeps c.requires in
    let fits = c.loop-place.lines.kept_fit n (omega arith) inside in
    let whole : length (part q.stride n old) ≡ q.stride = part_length q.stride (lines q.circuit) n old (omega arith) inside holds in
    let whole_new : length (part q.stride n new) ≡ q.stride = part_length q.stride (lines q.circuit) n new (omega arith) inside (omega (arith, dropped.only_there.same_length)) in
    let before : c.loop-place.place ≡ n - 1 = omega arith in
    record {
      keeps = keeps_on p q r c.args.store.now old new so_far.keeps (keeps_moved q r n x old new c.advance.ensures line dropped.only_there);
      drops = λ a h reaches upto.
          subst (λ (o : Panel). Dropping meaning system p a c.args.tick n o new) (sym c.advance.ensures)
          (drop_one meaning system g.V.ValueSystem.START g.met.V.ValueSystem.start_means p q old new a c.args.tick n x (subst (λ k. Dropping meaning system p a c.args.tick k q old) before (so_far.drops a h reaches upto)) line_before dropped.only_there (ap (λ (y : Progress). y.tick) c.progress-progress.ensures) reaches (upto n line_before) (omega (arith, whole)) (omega (arith, whole, so_far.keeps.stride)) (omega (arith, whole_new, dropped.fits)) dropped.dropped);
    }

pub returns-clause-drops : goal.returns-clause-drops
returns-clause-drops g c a h reaches upto =
    let p = panel c.args.lines.now in
    let past = c.loop-place-test.false in
    let within = c.loop-place.auto.place-end in
    let all : c.loop-place.place ≡ lines p.circuit = omega (arith, c.lines-place-end.ensures) in
    subst (λ k. Dropping g.V.ValueSystem.meaning g.V.ValueSystem.system p a c.args.tick k (panel c.loop-place.lines) c.loop-place.store) all (c.loop-place.invariant.drops a h reaches upto)
