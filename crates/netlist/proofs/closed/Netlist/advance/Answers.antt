use Rattle.std.proofs.Common.{◌≡◌, ◌+◌, true, length-set, ap, sym, ◌∙◌, subst}
use Rattle.std.specs.List.{list_all}
use Rattle.netlist.specs.GateRow.{MarkedGate}
use Rattle.netlist.specs.Gates.{Circuit, legal}
use Rattle.netlist.specs.Walks.{Reached, Looped}
use Rattle.netlist.proofs.Rewriting.{same_marks, same_circuit}
use Rattle.netlist.proofs.closed.Netlist.advance.Goals as goal

pub invariant_of-self : goal.invariant_of-self
invariant_of-self c =
    let n = c.args.self.now in
    let k = c.in-Some.place in
    let row = c.advance.new.self in
    let old = c.index-self-place.result in
    let same = same_circuit n.size n.rows n.ends k row old (ap (λ (r : MarkedGate). r.gate) c.advance.ensures) in
    let marks = same_marks n.rows k row old (ap (λ (r : MarkedGate). r.looped) c.advance.ensures) in
    record {
      table = length-set n.rows k row ∙ n.table;
      list = n.list;
      places = n.places;
      wired = subst (λ (x : Circuit). list_all (legal (n.size.inputs + n.size.gates)) x.gates ≡ true) (sym same) n.wired;
      ends_on_lines = n.ends_on_lines;
      reached = λ j below. subst (λ x. ∥ Reached x (n.size.inputs + 1 + j) ∥₁) (sym same) (n.reached j below);
      marked_looped = λ j below is. subst (λ x. ∥ Looped x (n.size.inputs + 1 + j) ∥₁) (sym same) (n.marked_looped j below (sym (marks j) ∙ is));
      looped_marked = λ j below walk. marks j ∙ n.looped_marked j below (subst (λ x. Looped x (n.size.inputs + 1 + j)) same walk);
    }

pub returns-then-place-self-clause-same_circuit : goal.returns-then-place-self-clause-same_circuit
returns-then-place-self-clause-same_circuit c =
    let n = c.args.self.now in
    same_circuit n.size n.rows n.ends c.in-Some.place c.advance.new.self c.index-self-place.result (ap (λ (r : MarkedGate). r.gate) c.advance.ensures)
