use Rattle.std.proofs.Common.{◌<◌, length, get_or, [], refl, sym, ◌∙◌, subst, ⊎_elim, arith}
use Rattle.std.proofs.lemmas.Bool.{cases_eq}
use Rattle.std.proofs.lemmas.List.{get_or_default}
use Rattle.engine.specs.Lines.{panel}
use Rattle.engine.specs.Orders.{KeyedAt}
use Rattle.engine.specs.Standing.{machine_of}
use Rattle.engine.proofs.Books.{sure}
use Rattle.engine.proofs.Queueing.{queued_again}
use Rattle.engine.proofs.running.requeue.Goals as goal

pub loop-readers-init : goal.loop-readers-init
loop-readers-init g c = record { long = refl; keeps = λ a h i within keyed. keyed; sets = λ a h place below. absurd (omega arith) }

pub loop-readers-preserved : goal.loop-readers-preserved
loop-readers-preserved g c =
    let s = machine_of g.V.ValueSystem.system (panel c.args.lines.now) in
    let readers = c.args.lines.now.readers in
    let k = c.loop-readers.readers-index in
    let n = c.args.line in
    let so_far = c.loop-readers.invariant in
    let after = c.requeue_at.ensures in
    let item = get_or_default readers k c.readers-item.result [] (omega (arith, c.type_inv.readers-items, c.loop-readers-test.true)) in
    record {
      long = after.long ∙ so_far.long;
      keeps = λ a h i within keyed. after.keeps a h i (omega (arith, within, so_far.long)) (so_far.keeps a h i within keyed);
      sets = λ a h place below.
          ⊎_elim (λ is. subst (λ j. KeyedAt s a (get_or readers j []) n c.requeue_at.new.queue) (sym is) (subst (λ rs. KeyedAt s a rs n c.requeue_at.new.queue) item (after.sets a h)))
          (λ other i within inside is. let room : i < length c.loop-readers.queue = omega (arith, inside, after.long) in after.keeps a h i room (so_far.sets a h place (omega (arith, other)) i within room is)) (cases_eq place k);
    }

pub returns : goal.returns
returns g c a h but =
    let l = c.args.lines.now in
    let so_far = c.loop-readers.invariant in
    queued_again g.V.ValueSystem.system (panel l) (sure l) a c.args.line l.readers l.all_read c.requires.numbered.0 c.args.queue.now c.set.new.self c.loop-readers.queue c.key.result but c.set.ensures (c.key.ensures a h) so_far.long (so_far.keeps a h)
    (λ place few. so_far.sets a h place (let past = c.loop-readers-test.false in omega arith))
