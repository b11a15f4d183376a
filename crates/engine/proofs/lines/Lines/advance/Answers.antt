use Rattle.std.proofs.Common.{◌-◌, length-set, refl, sym, ◌∙◌, subst, arith}
use Rattle.netlist.specs.Gates.{Circuit}
use Rattle.engine.specs.Readers.{AllRead}
use Rattle.engine.proofs.Advancing.{input_moved, gate_moved, still_fit}
use Rattle.engine.proofs.lines.Lines.advance.Goals as goal

pub invariant_of-self : goal.invariant_of-self
invariant_of-self c =
    let l = c.args.self.now in
    let n = c.args.line in
    let few = l.netlist.places.few_inputs in
    record {
      table = length-set l.inputs (n - 1) c.args.progress ∙ l.table;
      all_read = l.all_read;
      kept_fit = still_fit l.netlist l.netlist l.inputs _ l.stride n c.args.progress refl (input_moved l.netlist l.inputs n c.args.progress c.requires.a_line.0 (omega arith) (omega (arith, l.table))) c.requires.fits l.kept_fit;
    }

pub invariant_of-self-else-place-inputs : goal.invariant_of-self-else-place-inputs
invariant_of-self-else-place-inputs c =
    let l = c.args.self.now in
    let n = c.args.line in
    let told = c.advance.ensures in
    record {
      table = l.table;
      all_read = subst (λ (now : Circuit). AllRead now l.readers) (sym told.same_circuit) l.all_read;
      kept_fit = still_fit l.netlist c.advance.new.self l.inputs l.inputs l.stride n c.args.progress told.same_circuit (gate_moved l.netlist c.advance.new.self l.inputs n c.args.progress told.same_circuit (omega arith) (told.tells_a_gate (omega arith) (omega (arith, c.requires.a_line.1))) told.tells_no_other) c.requires.fits l.kept_fit;
    }
