use Rattle.std.proofs.Common.{◌≡◌, suc, ◌+◌, length, get_or, length-set, refl, sym, ◌∙◌, subst, ap, arith}
use Rattle.engine.specs.Lines.{panel}
use Rattle.engine.specs.Orders.{Keyed}
use Rattle.engine.specs.Standing.{machine_of}
use Rattle.engine.proofs.Queueing.{Stands as StandsAt, Looked, keyed_set, stands_first, stands_next, look_first, look}
use Rattle.engine.proofs.running.requeue_at.Goals as goal

pub loop-next-init : goal.loop-next-init
loop-next-init g c =
    let small = c.requires.numbered.1 in
    let told = c.args.readers.now in
    record {
      long = refl;
      keeps = λ a h i within keyed. keyed;
      few = c.last-next.ensures.within;
      at = stands_first told c.args.line c.last-next.result small c.last-next.ensures.answers;
      looked = λ a h. look_first (machine_of g.V.ValueSystem.system (panel c.args.lines.now)) a told c.args.line c.args.queue.now c.last-next.result small c.last-next.ensures.answers;
    }

pub loop-next-preserved : goal.loop-next-preserved
loop-next-preserved g c =
    let small = c.requires.numbered.1 in
    let told = c.args.readers.now in
    let p = c.in-Some.place in
    let keys = c.loop-next.queue in
    let key = c.key.result in
    let so_far = c.loop-next.invariant in
    let at = subst (StandsAt told c.args.line) c.in-Some.is so_far.at in
    let s = machine_of g.V.ValueSystem.system (panel c.args.lines.now) in
    let line : p + 1 ≡ suc p = omega arith in
    let set = sym c.set.ensures in
    record {
      long = ap length c.set.ensures ∙ (length-set keys p key ∙ so_far.long);
      keeps = λ a h i within keyed.
          subst (λ ks. Keyed s a (suc i) (get_or ks i 0)) set
          (keyed_set s a keys p key i (subst (λ n. Keyed s a n key) line (c.key.ensures a h)) (omega (arith, within, so_far.long)) (so_far.keeps a h i within keyed));
      few = c.before-next.ensures.within;
      at = stands_next told c.args.line p c.before-next.result small at c.before-next.ensures.answers;
      looked = λ a h.
          subst (Looked s a told c.args.line c.before-next.result) set
          (look s a told c.args.line p key keys small at (subst (λ next. Looked s a told c.args.line next keys) c.in-Some.is (so_far.looked a h)) (subst (λ n. Keyed s a n key) line (c.key.ensures a h)) c.before-next.result c.before-next.ensures.answers);
    }

pub returns-clause-sets : goal.returns-clause-sets
returns-clause-sets g c a h = subst (λ next. Looked (machine_of g.V.ValueSystem.system (panel c.args.lines.now)) a c.args.readers.now c.args.line next c.loop-next.queue) c.in_default.is (c.loop-next.invariant.looked a h)
