use Rattle.std.proofs.Common.{◌≡◌, ℕ, ◌≤◌, length, take, replicate, refl, ◌∙◌, arith}
use Rattle.std.proofs.lemmas.List.{length-replicate, length-take}
use Rattle.netlist.specs.Closed.{circuit}
use Rattle.values.specs.declared.ternary.Ternary.TheVariants.{X}
use Rattle.listing.proofs.Outputs.{few_lines}
use Rattle.listing.proofs.Simulating.{opened, begins_unknown}
use Rattle.listing.proofs.lister.make_session.Goals as goal

-- as many initial values as there are inputs
one_each : (inputs : ℕ) → inputs ≤ 256 → length (take inputs (replicate 256 X)) ≡ inputs
one_each inputs few = let cut = length-take inputs (replicate 256 X) in let all = length-replicate 256 X in omega arith

pub returns-clause-of_the_netlist : goal.returns-clause-of_the_netlist
returns-clause-of_the_netlist c =
    let n = c.args.netlist in
    let few = n.places.few_inputs in
    let each = one_each c.inputs-inputs.result (omega (arith, c.inputs-inputs.ensures)) ∙ c.inputs-inputs.ensures in
    let makes = c.make.ensures.makes in
    opened (circuit n) c.requires.some_lines (few_lines n) c.args.store.now (take c.inputs-inputs.result (replicate 256 X)) c.requires.its_store each c.make.result makes.0 makes.1 makes.2

pub returns-clause-begins : goal.returns-clause-begins
returns-clause-begins c =
    let n = c.args.netlist in
    let few = n.places.few_inputs in
    let each = one_each c.inputs-inputs.result (omega (arith, c.inputs-inputs.ensures)) ∙ c.inputs-inputs.ensures in
    let makes = c.make.ensures.makes in
    begins_unknown (circuit n) c.requires.some_lines (few_lines n) c.args.store.now (take c.inputs-inputs.result (replicate 256 X)) c.requires.its_store each c.make.result c.inputs-inputs.result refl makes.0 makes.1 makes.2
