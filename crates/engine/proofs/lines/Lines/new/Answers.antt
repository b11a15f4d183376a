use Rattle.std.proofs.Common.{◌≡◌, ℕ, ◌<◌, length, sym, ◌∙◌, subst, ap}
use mathlib.Core.Path.{ap₂}
use Rattle.netlist.specs.declared.progress.Progress.{Progress}
use Rattle.netlist.specs.GateRow.{at_start}
use Rattle.netlist.specs.Gates.{Circuit}
use Rattle.engine.specs.Progresses.{progress_in}
use Rattle.engine.proofs.Advancing.{all_at_start}
use Rattle.engine.proofs.lines.Lines.new.Goals as goal

pub invariant_of-result : goal.invariant_of-result
invariant_of-result c =
    let told : progress_in c.rewind.new.self c.not_moved.result ≡ λ n. at_start = ap (progress_in c.rewind.new.self) c.not_moved.ensures ∙ all_at_start c.rewind.new.self 256 c.rewind.ensures.tells_every_gate in
    record {
      table = ap length c.not_moved.ensures;
      all_read = c.readers_of-readers.ensures;
      kept_fit = λ n some within. subst (λ (f : ℕ → Progress). (f n).kept < c.args.stride) (sym told) c.requires;
    }

pub returns : goal.returns
returns c =
    let told : progress_in c.rewind.new.self c.not_moved.result ≡ λ n. at_start = ap (progress_in c.rewind.new.self) c.not_moved.ensures ∙ all_at_start c.rewind.new.self 256 c.rewind.ensures.tells_every_gate in
    ap₂ (λ (circ : Circuit) (f : ℕ → Progress). record { circuit = circ; stride = c.args.stride; trim = 0; progress = f }) c.rewind.ensures.same_circuit told
