use Rattle.std.proofs.Common.{◌≡◌, ℕ, ◌<◌, ◌≤◌, Bool, false, length, map, take, get_or, sym, ap, ◌∙◌, arith, rules, tests}
use Rattle.std.proofs.lemmas.Iterator.{YieldsList-from_slice}
use Rattle.std.proofs.lemmas.Iterator.Consumers.{YieldsList-from_filter, count_from_yields_List}
use Rattle.std.proofs.lemmas.List.{length-map, get_or-map, get_or-take, length-take-le}
use Rattle.std.proofs.lemmas.List.Sums.{length-filter}
use Rattle.std.specs.List.{filter}
use Rattle.netlist.specs.GateRow.{MarkedGate, empty}
use Rattle.netlist.specs.Rows.{gate_of}
use Rattle.netlist.proofs.Marks.{count_by-map}
use Rattle.netlist.proofs.closed.Netlist.looped_lines.Goals as goal

looped : MarkedGate → Bool
looped row = row.looped

pub returns : goal.returns
unfolding looped
returns c =
    let n = c.args.self.now in
    let rows = take n.size.gates n.rows in
    let counted : c.count.result ≡ length (filter looped rows) = count_from_yields_List c.filter.result c.count.result c.count.ensures.ran (YieldsList-from_filter _ looped (YieldsList-from_slice rows cc) c.filter.ensures.closure (λ x r q k. search (rules, tests))) in
    let fit : n.size.gates ≤ length n.rows = omega arith in
    let gates : length (map gate_of rows) ≡ n.size.gates = length-map rows gate_of ∙ length-take-le n.size.gates n.rows fit in
    let mark : (k : ℕ) → k < n.size.gates → get_or (map looped rows) k false ≡ (get_or n.rows k empty).looped = λ k below. get_or-map looped rows k empty false (omega (arith, gates, length-map rows gate_of)) ∙ ap looped (get_or-take n.size.gates n.rows k empty below) in
    record {
      marks = map looped rows;
      one_each = length-map rows looped ∙ sym (length-map rows gate_of);
      marked_looped = λ k below e. n.marked_looped k (omega (arith, gates)) (sym (mark k (omega (arith, gates))) ∙ e);
      looped_marked = λ k below walk. mark k (omega (arith, gates)) ∙ n.looped_marked k (omega (arith, gates)) walk;
      count_is = counted ∙ length-filter looped rows ∙ sym (count_by-map looped rows);
    }
