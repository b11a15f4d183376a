use Rattle.std.proofs.Common.{◌≡◌, suc, ◌+◌, ◌<◌, length-set, refl, sym, ◌∙◌, subst, ⊎_elim, arith}
use Rattle.std.proofs.lemmas.Bool.{cases_eq, cases_lt}
use Rattle.std.proofs.lemmas.Grind.{get_or-set_at}
use Rattle.std.proofs.lemmas.List.{get_or-set_other, get_or-replicate}
use Rattle.semantics.proofs.Wiring.{gate_range}
use Rattle.queue.specs.Keys.{no_key}
use Rattle.engine.specs.Lines.{panel}
use Rattle.engine.specs.Orders.{Keyed, Queued}
use Rattle.engine.specs.Standing.{machine_of}
use Rattle.engine.proofs.Books.{sure}
use Rattle.engine.proofs.running.queue_of.Goals as goal

pub loop-place-init : goal.loop-place-init
loop-place-init g c = record { long = refl; rest = λ i from within. get_or-replicate 1024 i no_key 0 within; keyed = λ a h i below. absurd (omega arith) }

pub loop-place-preserved : goal.loop-place-preserved
loop-place-preserved g c =
    let keys = c.loop-place.keys in
    let k = c.loop-place.place in
    let key = c.key.result in
    let so_far = c.loop-place.invariant in
    let few = (sure c.args.lines.now).few in
    let within : k < 1024 = omega (arith, few) in
    record {
      long = length-set keys k key ∙ so_far.long;
      rest = λ i from inside. get_or-set_other keys k i key 0 (λ is. omega arith) ∙ so_far.rest i (omega arith) inside;
      keyed = λ a h i below.
          let s = machine_of g.V.ValueSystem.system (panel c.args.lines.now) in
          ⊎_elim
          (λ is.
          let line : k + 1 ≡ suc i = omega (arith, is) in
          subst (Keyed s a (suc i)) (sym (get_or-set_at keys k i key 0 is (omega (arith, so_far.long, within)))) (subst (λ n. Keyed s a n key) line (c.key.ensures a h)))
          (λ other. subst (Keyed s a (suc i)) (sym (get_or-set_other keys k i key 0 other)) (so_far.keyed a h i (omega (arith, other)))) (cases_eq i k);
    }

pub returns : goal.returns
returns g c a h =
    let so_far = c.loop-place.invariant in
    let s = machine_of g.V.ValueSystem.system (panel c.args.lines.now) in
    subst (Queued s a) (sym c.new.ensures) (record {
      long = so_far.long;
      each = λ i within.
          ⊎_elim (λ told. so_far.keyed a h i told)
          (λ past. Keyed.rests (λ a_gate. absurd (let range = gate_range (panel c.args.lines.now).circuit (suc i) a_gate in omega (arith, range.1, past))) (omega (arith, so_far.rest i past within)))
          (cases_lt i c.loop-place.place);
    })
