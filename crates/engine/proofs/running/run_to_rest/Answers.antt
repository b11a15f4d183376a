use Rattle.std.proofs.Common.{◌+◌, refl, ap, arith}
use Rattle.netlist.proofs.Rewriting.{count_gates}
use Rattle.semantics.specs.Logs.{Takes}
use Rattle.engine.specs.Answers.{ending_of}
use Rattle.engine.specs.Lines.{panel}
use Rattle.engine.specs.Standing.{machine_of}
use Rattle.engine.proofs.Books.{sure}
use Rattle.engine.proofs.Moving.{keeps_on}
use Rattle.engine.proofs.Runs.{one_run_more, makes_all, full_runs, ends_at_rest}
use Rattle.engine.proofs.running.run_to_rest.Goals as goal

pub loop-runs-init : goal.loop-runs-init
loop-runs-init g c = record {
  few = omega arith;
  keeps = record { circuit = refl; stride = refl; same_length = refl; beyond = refl };
  full = λ a h. record { under = record { now = a; takes = Takes.none; stands = h }; all_full = omega arith; not_past = omega arith };
}

pub overflow_add-takes : goal.overflow_add-takes
overflow_add-takes g c =
    let few = c.loop-runs.invariant.few in
    let within = c.loop-runs-test.true in
    let gates = c.args.lines.now.netlist.places.few_gates in
    omega (arith, c.gates-gates.ensures, count_gates c.args.lines.now.netlist)

pub loop-runs-preserved : goal.loop-runs-preserved
loop-runs-preserved g c =
    let meaning = g.V.ValueSystem.meaning in
    let system = g.V.ValueSystem.system in
    let p = panel c.args.lines.now in
    let q = panel c.loop-runs.lines in
    let r = panel c.run-ran.new.lines in
    let so_far = c.loop-runs.invariant in
    record {
      few = let few = so_far.few in omega arith;
      keeps = keeps_on p q r c.args.store.now c.loop-runs.store c.run-ran.new.store so_far.keeps c.run-ran.ensures.keeps;
      full = λ a h.
          let full = so_far.full a h in
          let answered = c.run-ran.ensures.answers full.under.now full.under.stands in
          let all = makes_all (machine_of system q) (ap ending_of c.in_default.is) answered.1 in
          full_runs system p (sure c.args.lines.now) a h.log meaning (c.loop-runs.runs + 1) (c.loop-runs.takes + c.run-ran.result.takes) r c.run-ran.new.store
          (one_run_more meaning system p q c.args.store.now c.loop-runs.store so_far.keeps a c.loop-runs.takes full.under r c.run-ran.new.store answered.1 answered.2) (omega (arith, full.all_full));
    }

pub returns-clause-answers : goal.returns-clause-answers
returns-clause-answers g c a h = absurd (let past = c.loop-runs-test.false in omega (arith, (c.loop-runs.invariant.full a h).not_past, c.gates-gates.ensures))

pub returns-clause-rests : goal.returns-clause-rests
returns-clause-rests g c a h = absurd (let past = c.loop-runs-test.false in omega (arith, (c.loop-runs.invariant.full a h).not_past, c.gates-gates.ensures))

pub returns-in-Rest-clause-keeps : goal.returns-in-Rest-clause-keeps
returns-in-Rest-clause-keeps g c = keeps_on (panel c.args.lines.now) (panel c.loop-runs.lines) (panel c.run-ran.new.lines) c.args.store.now c.loop-runs.store c.run-ran.new.store c.loop-runs.invariant.keeps c.run-ran.ensures.keeps

pub returns-in-Rest-clause-answers : goal.returns-in-Rest-clause-answers
returns-in-Rest-clause-answers g c a h =
    let meaning = g.V.ValueSystem.meaning in
    let system = g.V.ValueSystem.system in
    let p = panel c.args.lines.now in
    let q = panel c.loop-runs.lines in
    let r = panel c.run-ran.new.lines in
    let so_far = c.loop-runs.invariant in
    let keeps = keeps_on p q r c.args.store.now c.loop-runs.store c.run-ran.new.store so_far.keeps c.run-ran.ensures.keeps in
    let under = (so_far.full a h).under in
    let answered = c.run-ran.ensures.answers under.now under.stands in
    let all = one_run_more meaning system p q c.args.store.now c.loop-runs.store so_far.keeps a c.loop-runs.takes under r c.run-ran.new.store answered.1 answered.2 in (
      all.now,
      ends_at_rest meaning system p r c.args.store.now c.run-ran.new.store keeps a (c.loop-runs.takes + c.run-ran.result.takes) all (c.loop-runs.takes + c.run-ran.result.takes) (omega arith) (c.run-ran.ensures.rests (ap ending_of c.in-Rest.is) under.now under.stands all.now all.stands),
      all.stands,
    )

pub returns-in-Rest-clause-rests : goal.returns-in-Rest-clause-rests
returns-in-Rest-clause-rests g c a h b stands = let under = (c.loop-runs.invariant.full a h).under in c.run-ran.ensures.rests (ap ending_of c.in-Rest.is) under.now under.stands b stands
