use Rattle.std.proofs.Common.{ℕ, ◌<◌, ap, sym, ◌∙◌, subst, map, Contains, inr, rules, arith}
use Rattle.std.proofs.lemmas.Bool.{both_ways}
use Rattle.netlist.specs.GateRow.{MarkedGate}
use Rattle.netlist.specs.Gates.{Gate}
use Rattle.gates.specs.Functions.{gate_function}
use Rattle.semantics.specs.Circuits.{lines, gate_of_line}
use Rattle.engine.specs.Lines.{panel}
use Rattle.engine.specs.Makings.{base, SettledAt}
use Rattle.engine.proofs.Bases.{base_here, base_else, still_begun}
use Rattle.engine.proofs.Beginnings.{unmoved, marked}
use Rattle.engine.proofs.Books.{sure, of_line}
use Rattle.engine.proofs.Moving.{keeps_there}
use Rattle.engine.proofs.Parts.{part_length}
use Rattle.engine.proofs.Stepping.{same_reads}
use Rattle.semantics.proofs.Wiring.{sound}
use Rattle.engine.proofs.making.settle.Goals as goal

pub returns-then-row-clause-settles : goal.returns-then-row-clause-settles
returns-then-row-clause-settles g c =
    let system = g.V.ValueSystem.system in
    let p = panel c.args.lines.now in
    let row = c.in-Some.ensures in
    let begins : ℕ → g.V.ValueSystem.Sense = λ m. g.V.ValueSystem.meaning (base g.V.ValueSystem.START c.args.lines.now.stride c.args.store.now m) in
    subst (λ now. SettledAt system p.circuit c.args.line begins (λ m. g.V.ValueSystem.meaning (base g.V.ValueSystem.START c.args.lines.now.stride now m))) (sym (search rules))
    (unmoved system p.circuit c.args.line begins (λ a_gate none. absurd (marked p.circuit c.args.line (row.marked.0 (ap (λ (x : MarkedGate). x.looped) (sym c.row.view_is) ∙ c.if-row.true)) none)))

pub begin_value-value-requires-clause-of_lines : goal.begin_value-value-requires-clause-of_lines
begin_value-value-requires-clause-of_lines g c m read =
    let p = panel c.args.lines.now in
    let row = c.in-Some.ensures in
    of_line p m ((sound p.circuit (sure c.args.lines.now).wired).reads_lines c.args.line m row.told.0 (subst (λ ms. Contains ms m) (sym (same_reads p.circuit c.args.line row.told.0 ∙ ap (λ (x : Gate). x.reads) (sym row.told.1))) read))

pub returns-clause-keeps : goal.returns-clause-keeps
returns-clause-keeps g c =
    let p = panel c.args.lines.now in
    let old = c.args.store.now in
    let new = c.rebase.new.store in
    let n = c.args.line in
    let a_line = of_line p n (inr c.in-Some.ensures.told.0) in
    keeps_there p n old new a_line.0 a_line.1 c.rebase.ensures.only_there

pub returns-clause-begun : goal.returns-clause-begun
returns-clause-begun g c begins =
    let l = c.args.lines.now in
    let p = panel l in
    let n = c.args.line in
    let a_line = of_line p n (inr c.in-Some.ensures.told.0) in
    still_begun g.V.ValueSystem.START p.stride (omega (arith, l.kept_fit n a_line.0 a_line.1)) c.args.store.now c.rebase.new.store n c.begin_value-value.result c.rebase.ensures.only_there c.rebase.ensures.begins (part_length p.stride (lines p.circuit) n c.args.store.now a_line.0 a_line.1 c.requires.holds) a_line.0 p.circuit begins

pub returns-clause-settles : goal.returns-clause-settles
returns-clause-settles g c =
    let meaning = g.V.ValueSystem.meaning in
    let system = g.V.ValueSystem.system in
    let START = g.V.ValueSystem.START in
    let l = c.args.lines.now in
    let p = panel l in
    let n = c.args.line in
    let old = c.args.store.now in
    let new = c.rebase.new.store in
    let row = c.in-Some.ensures in
    let a_gate = row.told.0 in
    let a_line = of_line p n (inr a_gate) in
    let some : 0 < p.stride = omega (arith, l.kept_fit n a_line.0 a_line.1) in
    let whole = part_length p.stride (lines p.circuit) n old a_line.0 a_line.1 c.requires.holds in
    let before : ℕ → g.V.ValueSystem.Sense = λ m. meaning (base START p.stride old m) in
    let gate : Gate = c.in-Some.row.gate in
    subst (λ now. SettledAt system p.circuit n before (λ m. meaning (base START p.stride now m))) (sym (search rules))
    (record {
      its_own = λ is none.
          ap meaning (base_here START p.stride some old new n c.begin_value-value.result c.rebase.ensures.only_there c.rebase.ensures.begins whole a_line.0)
          ∙ (c.begin_value-value.ensures
          ∙ (ap (λ (x : Gate). gate_function system x.kind (map before x.reads)) row.told.1
          ∙ sym (ap (λ ms. gate_function system (gate_of_line p.circuit n).kind (map before ms)) (same_reads p.circuit n a_gate))));
      looped = λ is loop. absurd (both_ways c.row.inside.looped c.if-row.false (ap (λ (x : MarkedGate). x.looped) c.row.view_is ∙ row.marked.1 loop));
      no_gate = λ none. absurd (none a_gate);
      others = λ m is_line other. ap meaning (base_else START p.stride some old new n c.begin_value-value.result c.rebase.ensures.only_there c.rebase.ensures.begins whole a_line.0 m (of_line p m is_line).0 other);
    })
