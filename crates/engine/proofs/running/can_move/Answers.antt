use Rattle.std.proofs.Common.{◌≡◌, ◌<◌, ap, sym, ◌∙◌, subst, arith}
use Rattle.std.proofs.lemmas.Bool.Decides.{not_from_Decides}
use Rattle.netlist.specs.GateRow.{MarkedGate}
use Rattle.netlist.specs.Gates.{Gate}
use Rattle.netlist.specs.declared.progress.Progress.{Progress}
use Rattle.semantics.specs.Accounts.{goal as goal_of}
use Rattle.semantics.specs.Circuits.{topology, gate_of_line}
use Rattle.semantics.proofs.Goals.{goal_each}
use Rattle.semantics.proofs.Wiring.{gate_range}
use Rattle.engine.specs.Lines.{panel}
use Rattle.engine.specs.Looks.{Evaluated}
use Rattle.engine.specs.Standing.{machine_of}
use Rattle.engine.proofs.Books.{sure, in_order, goal_told}
use Rattle.engine.proofs.Motions.{idle, roomy, quiet, full, still, moved}
use Rattle.engine.proofs.Stepping.{same_reads, seen_of_line, read_of_line}
use Rattle.engine.proofs.running.can_move.Goals as goal

pub overflow_sub-lines : goal.overflow_sub-lines
overflow_sub-lines g c =
    let p = panel c.args.lines.now in
    let range = gate_range p.circuit c.args.line c.requires.a_gate in
    let fits = c.args.lines.now.kept_fit c.args.line (omega (arith, range.0)) range.1 in
    let kept : c.row.inside.progress.kept ≡ (p.progress c.args.line).kept = ap (λ (r : MarkedGate). r.progress.kept) c.row.view_is ∙ ap (λ (x : Progress). x.kept) c.requires.its_progress in
    omega arith

pub returns-then-front-goal-clause-rests : goal.returns-then-front-goal-clause-rests
returns-then-front-goal-clause-rests g c a h none =
    let meaning = g.V.ValueSystem.meaning in
    let system = g.V.ValueSystem.system in
    let l = c.args.lines.now in
    let p = panel l in
    let store = c.args.store.now in
    let n = c.args.line in
    let a_gate = c.requires.a_gate in
    let row = c.args.row.now in
    let range = gate_range p.circuit n a_gate in
    let reads_it = same_reads p.circuit n a_gate ∙ ap (λ (x : Gate). x.reads) (sym c.requires.its_row) in
    let goal = c.goal-goal.ensures ∙ goal_told meaning system p store a (sure l) h n a_gate row.gate.reads reads_it in
    let progress : c.row.inside.progress ≡ p.progress n = ap (λ (r : MarkedGate). r.progress) c.row.view_is ∙ c.requires.its_progress in
    let front : c.row.inside.progress.tick ≡ a.front n = ap (λ (x : Progress). x.tick) progress ∙ h.shows.fronts n a_gate in
    let kept : c.row.inside.progress.kept ≡ (p.progress n).kept = ap (λ (x : Progress). x.kept) progress in
    idle meaning system p store a (sure l) h n a_gate (let past = c.if-front-goal.true in omega arith)

pub returns-then-lines-row-gt1-clause-moves : goal.returns-then-lines-row-gt1-clause-moves
returns-then-lines-row-gt1-clause-moves g c a h some =
    let meaning = g.V.ValueSystem.meaning in
    let system = g.V.ValueSystem.system in
    let l = c.args.lines.now in
    let p = panel l in
    let store = c.args.store.now in
    let n = c.args.line in
    let a_gate = c.requires.a_gate in
    let row = c.args.row.now in
    let range = gate_range p.circuit n a_gate in
    let reads_it = same_reads p.circuit n a_gate ∙ ap (λ (x : Gate). x.reads) (sym c.requires.its_row) in
    let goal = c.goal-goal.ensures ∙ goal_told meaning system p store a (sure l) h n a_gate row.gate.reads reads_it in
    let progress : c.row.inside.progress ≡ p.progress n = ap (λ (r : MarkedGate). r.progress) c.row.view_is ∙ c.requires.its_progress in
    let front : c.row.inside.progress.tick ≡ a.front n = ap (λ (x : Progress). x.tick) progress ∙ h.shows.fronts n a_gate in
    let kept : c.row.inside.progress.kept ≡ (p.progress n).kept = ap (λ (x : Progress). x.kept) progress in
    roomy meaning system p store a (sure l) h n a_gate (let before = c.if-front-goal.false in omega arith) (let more = c.if-lines-row-gt1.true in omega arith)

pub returns-clause-moves : goal.returns-clause-moves
returns-clause-moves g c a h some =
    let meaning = g.V.ValueSystem.meaning in
    let system = g.V.ValueSystem.system in
    let l = c.args.lines.now in
    let p = panel l in
    let store = c.args.store.now in
    let n = c.args.line in
    let a_gate = c.requires.a_gate in
    let row = c.args.row.now in
    let range = gate_range p.circuit n a_gate in
    let reads_it = same_reads p.circuit n a_gate ∙ ap (λ (x : Gate). x.reads) (sym c.requires.its_row) in
    let goal = c.goal-goal.ensures ∙ goal_told meaning system p store a (sure l) h n a_gate row.gate.reads reads_it in
    let progress : c.row.inside.progress ≡ p.progress n = ap (λ (r : MarkedGate). r.progress) c.row.view_is ∙ c.requires.its_progress in
    let front : c.row.inside.progress.tick ≡ a.front n = ap (λ (x : Progress). x.tick) progress ∙ h.shows.fronts n a_gate in
    let kept : c.row.inside.progress.kept ≡ (p.progress n).kept = ap (λ (x : Progress). x.kept) progress in
    let before = c.if-front-goal.false in
    let below : a.front n < goal_of (topology p.circuit) a n = omega arith in
    let seen = c.evaluate-next.ensures a h.shows (let r = (in_order meaning system p store a (sure l) h).trim_within_fronts n a_gate in omega arith) before (λ m read. let each = goal_each (topology p.circuit) a n m (read_of_line p.circuit n a_gate row.gate c.requires.its_row m read) in omega arith) in
    let here = subst (λ t. Evaluated meaning (machine_of system p) a system (gate_of_line p.circuit n).kind (gate_of_line p.circuit n).reads (a.front n) t c.evaluate-next.result) goal (seen_of_line meaning (machine_of system p) system a p.circuit n c.goal-goal.result c.evaluate-next.result row.gate c.row.inside.progress.tick c.requires.its_row front seen) in
    let events = c.events_of.result in
    quiet meaning system p store a (sure l) h n a_gate below (still meaning system p store a (sure l) h n a_gate below c.evaluate-next.result here events.base events.changes.now c.events_of.ensures c.last-last.result c.last-last.ensures (c.same.ensures.decides_equal_meanings.0 some))

pub returns-clause-rests : goal.returns-clause-rests
returns-clause-rests g c a h none =
    let meaning = g.V.ValueSystem.meaning in
    let system = g.V.ValueSystem.system in
    let l = c.args.lines.now in
    let p = panel l in
    let store = c.args.store.now in
    let n = c.args.line in
    let a_gate = c.requires.a_gate in
    let row = c.args.row.now in
    let range = gate_range p.circuit n a_gate in
    let reads_it = same_reads p.circuit n a_gate ∙ ap (λ (x : Gate). x.reads) (sym c.requires.its_row) in
    let goal = c.goal-goal.ensures ∙ goal_told meaning system p store a (sure l) h n a_gate row.gate.reads reads_it in
    let progress : c.row.inside.progress ≡ p.progress n = ap (λ (r : MarkedGate). r.progress) c.row.view_is ∙ c.requires.its_progress in
    let front : c.row.inside.progress.tick ≡ a.front n = ap (λ (x : Progress). x.tick) progress ∙ h.shows.fronts n a_gate in
    let kept : c.row.inside.progress.kept ≡ (p.progress n).kept = ap (λ (x : Progress). x.kept) progress in
    let before = c.if-front-goal.false in
    let below : a.front n < goal_of (topology p.circuit) a n = omega arith in
    let seen = c.evaluate-next.ensures a h.shows (let r = (in_order meaning system p store a (sure l) h).trim_within_fronts n a_gate in omega arith) before (λ m read. let each = goal_each (topology p.circuit) a n m (read_of_line p.circuit n a_gate row.gate c.requires.its_row m read) in omega arith) in
    let here = subst (λ t. Evaluated meaning (machine_of system p) a system (gate_of_line p.circuit n).kind (gate_of_line p.circuit n).reads (a.front n) t c.evaluate-next.result) goal (seen_of_line meaning (machine_of system p) system a p.circuit n c.goal-goal.result c.evaluate-next.result row.gate c.row.inside.progress.tick c.requires.its_row front seen) in
    let events = c.events_of.result in
    full meaning system p store a (sure l) h n a_gate below (let no_more = c.if-lines-row-gt1.false in omega arith) (l.kept_fit n (omega (arith, range.0)) range.1)
    (moved meaning system p store a (sure l) h n a_gate below c.evaluate-next.result here events.base events.changes.now c.events_of.ensures c.last-last.result c.last-last.ensures (not_from_Decides c.same.result c.same.ensures.decides_equal_meanings none))
