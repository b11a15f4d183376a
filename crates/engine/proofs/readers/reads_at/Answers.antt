use Rattle.std.proofs.Common.{◌≡◌, suc, ◌+◌, ◌<◌, length-set, get_or, ◌∙◌, ap, ⊎_elim, arith}
use Rattle.std.proofs.lemmas.Bool.{cases_eq}
use Rattle.std.proofs.lemmas.Grind.{get_or-set_at}
use Rattle.std.proofs.lemmas.List.{get_or-set_other}
use Rattle.netlist.specs.Closed.{circuit}
use Rattle.netlist.specs.Walks.{reads}
use Rattle.netlist.proofs.Rewriting.{count_gates}
use Rattle.engine.proofs.readers.reads_at.Goals as goal

pub loop-line-preserved : goal.loop-line-preserved
loop-line-preserved c =
    let netlist = c.args.netlist.now in
    let told = c.loop-line.reads in
    let k = c.loop-line.line in
    let read = c.read_at.result in
    let so_far = c.loop-line.invariant in
    let few = netlist.places.few_inputs in
    let few_gates = netlist.places.few_gates in
    let within : k < 1024 = omega (arith, count_gates netlist) in
    record {
      long = length-set told k read ∙ so_far.long;
      read = λ i below.
          ⊎_elim
          (λ is.
          let line : k + 1 ≡ suc i = omega arith in
          get_or-set_at told k i read 0 is (omega (arith, so_far.long, within)) ∙ (c.read_at.ensures ∙ ap (λ n. get_or (reads (circuit netlist) n) c.args.place 0) line))
          (λ other. get_or-set_other told k i read 0 other ∙ so_far.read i (omega (arith, other))) (cases_eq i k);
    }
