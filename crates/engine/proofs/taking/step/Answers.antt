use Rattle.std.proofs.Common.{◌≡◌, ◌+◌, ◌≤◌, min, true, ap, sym, ◌∙◌, subst, arith}
use Rattle.netlist.specs.GateRow.{MarkedGate}
use Rattle.netlist.specs.Gates.{Gate}
use Rattle.netlist.specs.declared.progress.Progress.{Progress}
use Rattle.semantics.specs.Circuits.{gate_of_line}
use Rattle.semantics.proofs.Closed.{wired}
use Rattle.semantics.proofs.Putting.{put_here}
use Rattle.semantics.proofs.Wiring.{gate_range}
use Rattle.engine.specs.Lines.{Panel, panel}
use Rattle.engine.specs.Panels.{moved, last_tick}
use Rattle.engine.specs.Looks.{Stepped}
use Rattle.engine.specs.Standing.{machine_of}
use Rattle.engine.proofs.Stepping.{step_stops, step_goes_on, seen_of_line, read_of_line}
use Rattle.engine.proofs.taking.step.Goals as goal

pub returns-in_default-clause-steps : goal.returns-in_default-clause-steps
returns-in_default-clause-steps g c a shows reaches in_range limits =
    let meaning = g.V.ValueSystem.meaning in
    let system = g.V.ValueSystem.system in
    let l = c.args.lines.now in
    let p = panel l in
    let n = c.args.line in
    let gate = c.args.row.now.gate in
    let a_gate = c.requires.a_gate in
    let its = c.requires.its_row in
    let range = gate_range p.circuit n a_gate in
    let told = ap (λ (q : Progress). q.tick) c.progress-front.ensures in
    let front = told ∙ shows.fronts n a_gate in
    let delay : c.row.inside.delay ≡ (gate_of_line p.circuit n).delay = ap (λ (r : MarkedGate). r.gate.delay) c.row.view_is ∙ ap (λ (g : Gate). g.delay) its in
    let seen = c.evaluate-look.ensures a shows (omega (arith, front)) (let b = c.requires.below in omega (arith, told)) (λ m read. limits m (read_of_line p.circuit n a_gate gate its m read)) in
    let here = seen_of_line meaning (machine_of system p) system a p.circuit n c.args.goal c.evaluate-look.result gate c.progress-front.result.tick its front seen in
    let tick = c.saturating_add-tick.ensures ∙ ap (λ t. min t last_tick) (ap (λ f. f + c.row.inside.delay) front ∙ ap (λ d. a.front n + d) delay) in
    let within : c.args.goal + (gate_of_line p.circuit n).delay ≤ last_tick = subst (λ (g : Gate). c.args.goal + g.delay ≤ last_tick) its in_range in
    step_stops meaning g.V.Element.Alike c.record.ensures.alike_is_same system p (wired l.netlist) c.args.store.now c.record.new.store a n c.args.goal a_gate shows reaches c.requires.holds (l.kept_fit n (omega (arith, range.0)) range.1) c.record.ensures.only_there c.saturating_add-tick.result c.evaluate-look.result here within tick c.record.result c.in_default.is c.record.ensures.fits c.record.ensures.recorded

pub returns-clause-moves_one : goal.returns-clause-moves_one
returns-clause-moves_one g c =
    let p = panel c.args.lines.now in
    let n = c.args.line in
    let x : Progress = record { tick = c.max-until.result; kept = c.in-Some.kept } in
    let told = c.advance.ensures in
    told ∙ ap (moved p n) (sym (ap (λ (q : Panel). q.progress n) told ∙ put_here p.progress n x))

pub returns-clause-onward : goal.returns-clause-onward
returns-clause-onward g c moves =
    let p = panel c.args.lines.now in
    let n = c.args.line in
    let x : Progress = record { tick = c.max-until.result; kept = c.in-Some.kept } in
    let told = ap (λ (q : Panel). (q.progress n).tick) c.advance.ensures ∙ ap (λ (q : Progress). q.tick) (put_here p.progress n x) in
    let before = ap (λ (q : Progress). q.tick) c.progress-front.ensures in
    let below = c.requires.below in
    let range = c.ranges.goal in
    let next : c.progress-front.result.tick + 1 ≤ c.saturating_add.result = let e = c.saturating_add.ensures in grind arith in
    let further : c.saturating_add.result ≤ c.max-until.result = let e = c.max-until.ensures in grind arith in
    omega arith

pub returns-clause-steps : goal.returns-clause-steps
returns-clause-steps g c a shows reaches in_range limits =
    let meaning = g.V.ValueSystem.meaning in
    let system = g.V.ValueSystem.system in
    let l = c.args.lines.now in
    let p = panel l in
    let n = c.args.line in
    let gate = c.args.row.now.gate in
    let a_gate = c.requires.a_gate in
    let its = c.requires.its_row in
    let range = gate_range p.circuit n a_gate in
    let told = ap (λ (q : Progress). q.tick) c.progress-front.ensures in
    let front = told ∙ shows.fronts n a_gate in
    let delay : c.row.inside.delay ≡ (gate_of_line p.circuit n).delay = ap (λ (r : MarkedGate). r.gate.delay) c.row.view_is ∙ ap (λ (g : Gate). g.delay) its in
    let seen = c.evaluate-look.ensures a shows (omega (arith, front)) (let b = c.requires.below in omega (arith, told)) (λ m read. limits m (read_of_line p.circuit n a_gate gate its m read)) in
    let here = seen_of_line meaning (machine_of system p) system a p.circuit n c.args.goal c.evaluate-look.result gate c.progress-front.result.tick its front seen in
    let tick = c.saturating_add-tick.ensures ∙ ap (λ t. min t last_tick) (ap (λ f. f + c.row.inside.delay) front ∙ ap (λ d. a.front n + d) delay) in
    let within : c.args.goal + (gate_of_line p.circuit n).delay ≤ last_tick = subst (λ (g : Gate). c.args.goal + g.delay ≤ last_tick) its in_range in
    let x : Progress = record { tick = c.max-until.result; kept = c.in-Some.kept } in
    subst (λ (q : Panel). Stepped meaning system p a n c.args.goal q c.record.new.store true) (sym c.advance.ensures)
    (step_goes_on meaning g.V.Element.Alike c.record.ensures.alike_is_same system p (wired l.netlist) c.args.store.now c.record.new.store a n c.args.goal a_gate shows reaches c.requires.holds (l.kept_fit n (omega (arith, range.0)) range.1) c.record.ensures.only_there c.saturating_add-tick.result c.evaluate-look.result here within tick c.record.result c.in-Some.kept c.max-until.result c.in-Some.is (let e = c.max-until.ensures in let f = c.saturating_add.ensures in let later = here.later in grind arith) c.record.ensures.fits c.record.ensures.recorded)
