use Rattle.std.proofs.Common.{◌≡◌, ℕ, suc, ◌+◌, List, None, Some, refl, subst, arith}
use Rattle.std.specs.Prelude.{Option, MatchOption}
use Rattle.semantics.specs.Accounts.{Account}
use Rattle.semantics.specs.Logs.{Takes, Ending, Run}
use Rattle.semantics.specs.Machines.{Machine}
use Rattle.semantics.specs.Moves.{Rest}
use Rattle.queue.specs.Keys.{First}
use Rattle.engine.specs.declared.lines.Lines.{Lines}
use Rattle.engine.specs.Lines.{panel}
use Rattle.engine.specs.Orders.{MovesFirst, Queued}
use Rattle.engine.specs.Standing.{machine_of}
use Rattle.engine.proofs.Books.{sure}
use Rattle.engine.proofs.Choosing.{first_told, gates_within}
use Rattle.engine.proofs.Moving.{keeps_on}
use Rattle.engine.proofs.Runs.{one_more_queued, queue_left, ends_at_rest, ends_at_count}
use Rattle.engine.proofs.Shown.{rests_alike}
use Rattle.engine.proofs.running.run.Given.{Over}
use Rattle.engine.proofs.running.run.Goals as goal

-- what the queue's first tells
module _ (g : Over) (lines : Lines) (queue : List ℕ) where
  abbrev s : Machine g.V.ValueSystem.Sense
  s = machine_of g.V.ValueSystem.system (panel lines)

  next_told : (p : ℕ) (now : Account g.V.ValueSystem.Sense) → Queued s now queue → (first : Option ℕ) → First queue first → first ≡ Some p → MovesFirst s now (p + 1)
  next_told p now queued first told is =
      let line : suc p ≡ p + 1 = omega arith in
      subst (MovesFirst s now) line (subst (λ r. MatchOption r (Rest s now) (λ q. MovesFirst s now (suc q))) is (first_told s now queue queued (gates_within (panel lines) (sure lines)) first told))

  none_told : (now : Account g.V.ValueSystem.Sense) → Queued s now queue → (first : Option ℕ) → First queue first → first ≡ None → Rest s now
  none_told now queued first told is = subst (λ r. MatchOption r (Rest s now) (λ q. MovesFirst s now (suc q))) is (first_told s now queue queued (gates_within (panel lines) (sure lines)) first told)

pub loop-place-init : goal.loop-place-init
loop-place-init g c = record {
  few = omega arith;
  keeps = record { circuit = refl; stride = refl; same_length = refl; beyond = refl };
  under = λ a h. record { under = record { now = a; takes = Takes.none; stands = h }; queued = c.queue_of-queue.ensures a h };
}

pub loop-place-preserved : goal.loop-place-preserved
loop-place-preserved g c =
    let meaning = g.V.ValueSystem.meaning in
    let system = g.V.ValueSystem.system in
    let p = panel c.args.lines.now in
    let q = panel c.loop-place.lines in
    let r = panel c.take-settled.new.lines in
    let so_far = c.loop-place.invariant in
    let kept = c.take-settled.ensures.keeps in
    record {
      few = let few = so_far.few in let other = c.if-takes-most.false in omega arith;
      keeps = keeps_on p q r c.args.store.now c.loop-place.store c.take-settled.new.store so_far.keeps kept;
      under = λ a h.
          let both = so_far.under a h in
          let under = both.under in
          let answered = c.take-settled.ensures.answers under.now under.stands in
          let next = next_told g c.loop-place.lines c.loop-place.queue c.in-Some.place under.now both.queued c.first.result c.first.ensures.answers c.in-Some.is in
          one_more_queued meaning system p q c.args.store.now c.loop-place.store so_far.keeps a c.loop-place.takes under (c.in-Some.place + 1) _ answered.0 r c.take-settled.new.store c.requeue.new.queue next answered.1 answered.2
          (c.requeue.ensures answered.0 answered.2 (queue_left meaning system p q c.args.store.now c.loop-place.store so_far.keeps a c.loop-place.takes under (c.in-Some.place + 1) _ answered.0 r c.take-settled.new.store c.loop-place.queue kept next.moves answered.1 both.queued));
    }

pub returns-then-takes-most-clause-answers : goal.returns-then-takes-most-clause-answers
returns-then-takes-most-clause-answers g c a h =
    let meaning = g.V.ValueSystem.meaning in
    let system = g.V.ValueSystem.system in
    let p = panel c.args.lines.now in
    let q = panel c.loop-place.lines in
    let so_far = c.loop-place.invariant in
    let both = so_far.under a h in
    let under = both.under in
    let next = next_told g c.loop-place.lines c.loop-place.queue c.in-Some.place under.now both.queued c.first.result c.first.ensures.answers c.in-Some.is in (
      under.now,
      subst (λ k. Run (machine_of system p) k a under.now c.loop-place.takes Ending.more) c.if-takes-most.true
          (ends_at_count meaning system p q c.args.store.now c.loop-place.store so_far.keeps a c.loop-place.takes under (c.in-Some.place + 1) next),
      under.stands,
    )

pub returns-clause-answers : goal.returns-clause-answers
returns-clause-answers g c a h =
    let meaning = g.V.ValueSystem.meaning in
    let system = g.V.ValueSystem.system in
    let p = panel c.args.lines.now in
    let q = panel c.loop-place.lines in
    let so_far = c.loop-place.invariant in
    let both = so_far.under a h in
    let under = both.under in (
      under.now,
      ends_at_rest meaning system p q c.args.store.now c.loop-place.store so_far.keeps a c.loop-place.takes under c.args.most so_far.few (none_told g c.loop-place.lines c.loop-place.queue under.now both.queued c.first.result c.first.ensures.answers c.in_default.is),
      under.stands,
    )

pub returns-then-takes-most-clause-rests : goal.returns-then-takes-most-clause-rests
returns-then-takes-most-clause-rests g c at_rest = cc

pub returns-clause-rests : goal.returns-clause-rests
returns-clause-rests g c at_rest a h b stands =
    let both = c.loop-place.invariant.under a h in
    let under = both.under in
    let rest = none_told g c.loop-place.lines c.loop-place.queue under.now both.queued c.first.result c.first.ensures.answers c.in_default.is in
    λ n a_gate. rests_alike g.V.ValueSystem.meaning g.V.ValueSystem.system (panel c.loop-place.lines) c.loop-place.store (sure c.loop-place.lines) under.now b under.stands stands n a_gate (rest n a_gate)
