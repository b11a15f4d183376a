use Rattle.std.proofs.Common.{◌≡◌, ℕ, ◌+◌, ◌≤◌, ap, sym, ◌∙◌, subst, inr, arith, Contains}
use Rattle.netlist.specs.declared.progress.Progress.{Progress}
use Rattle.netlist.specs.GateRow.{MarkedGate}
use Rattle.netlist.specs.Gates.{Gate}
use Rattle.netlist.specs.Walks.{reads}
use Rattle.semantics.specs.Accounts.{settled}
use Rattle.semantics.specs.Circuits.{lines, topology, gate_of_line}
use Rattle.semantics.specs.Machines.{IsGate}
use Rattle.semantics.specs.Moves.{taken}
use Rattle.semantics.proofs.Goals.{goal_each}
use Rattle.semantics.proofs.Putting.{put_here}
use Rattle.semantics.proofs.Wiring.{gate_range, gate_delay, sound}
use Rattle.engine.specs.declared.lines.Lines.{Lines}
use Rattle.engine.specs.Answers.{Taking}
use Rattle.engine.specs.Lines.{Panel, panel}
use Rattle.engine.specs.Panels.{last_tick}
use Rattle.engine.specs.Looks.{Stepped, Followed}
use Rattle.engine.specs.Standing.{Stands}
use Rattle.engine.proofs.Books.{of_line, sure, in_order, goal_in_range, goal_told}
use Rattle.engine.proofs.Ways.{refused, went_onward, limits_on}
use Rattle.engine.proofs.Moving.{keeps_moved, keeps_on}
use Rattle.engine.proofs.Stepping.{same_reads}
use Rattle.engine.proofs.Takes.{take_done}
use Rattle.engine.proofs.taking.take.Goals as goal

pub goal-goal-requires : goal.goal-goal-requires
goal-goal-requires g c m read =
    let l = c.args.lines.now in
    let p = panel l in
    let row = c.in-Some.ensures.told in
    let line = (sound p.circuit (sure l).wired).reads_lines c.args.line m row.0 (subst (λ ms. Contains ms m) (sym (same_reads p.circuit c.args.line row.0 ∙ ap (λ (x : Gate). x.reads) (sym row.1))) read) in
    of_line p m line

pub returns-in_default-clause-answers : goal.returns-in_default-clause-answers
returns-in_default-clause-answers g c a h = (a, Taking.no_gate c.in_default.ensures.told, h)

pub returns-then-row-goal-clause-answers : goal.returns-then-row-goal-clause-answers
returns-then-row-goal-clause-answers g c a h =
    let meaning = g.V.ValueSystem.meaning in
    let system = g.V.ValueSystem.system in
    let l = c.args.lines.now in
    let p = panel l in
    let n = c.args.line in
    let row = c.in-Some.ensures.told in
    let a_gate = row.0 in
    let order = in_order meaning system p c.args.store.now a (sure l) h in
    let told = c.goal-goal.ensures ∙ goal_told meaning system p c.args.store.now a (sure l) h n a_gate c.in-Some.row.gate.reads (same_reads p.circuit n a_gate ∙ ap (λ (x : Gate). x.reads) (sym row.1)) in
    let front : c.row.inside.progress.tick ≡ a.front n = ap (λ (r : MarkedGate). r.progress.tick) c.row.view_is ∙ (ap (λ (x : Progress). x.tick) row.2 ∙ h.shows.fronts n a_gate) in
    let within = order.fronts_within_goals n a_gate in
    (a, Taking.idle a_gate (let past = c.if-row-goal.true in omega arith), h)

pub returns-then-not-step-clause-answers : goal.returns-then-not-step-clause-answers
returns-then-not-step-clause-answers g c a h =
    let meaning = g.V.ValueSystem.meaning in
    let system = g.V.ValueSystem.system in
    let l = c.args.lines.now in
    let p = panel l in
    let n = c.args.line in
    let row = c.in-Some.ensures.told in
    let a_gate = row.0 in
    let order = in_order meaning system p c.args.store.now a (sure l) h in
    let told = c.goal-goal.ensures ∙ goal_told meaning system p c.args.store.now a (sure l) h n a_gate c.in-Some.row.gate.reads (same_reads p.circuit n a_gate ∙ ap (λ (x : Gate). x.reads) (sym row.1)) in
    let front : c.row.inside.progress.tick ≡ a.front n = ap (λ (r : MarkedGate). r.progress.tick) c.row.view_is ∙ (ap (λ (x : Progress). x.tick) row.2 ∙ h.shows.fronts n a_gate) in
    let delay : c.in-Some.row.gate.delay ≡ (gate_of_line p.circuit n).delay = ap (λ (x : Gate). x.delay) row.1 in
    let in_range : c.goal-goal.result + c.in-Some.row.gate.delay ≤ last_tick = omega (arith, goal_in_range meaning system p c.args.store.now a (sure l) h n a_gate, gate_delay p.circuit (sure l).wired n a_gate) in
    let limits : (m : ℕ) → Contains (reads p.circuit n) m → c.goal-goal.result ≤ settled (topology p.circuit) a m = λ m read. let each = goal_each (topology p.circuit) a n m read in omega arith in
    let stepped = c.step.ensures.steps a h.shows (order.trim_within_fronts n a_gate) in_range limits in
    let over = refused meaning system p a n c.goal-goal.result (panel c.step.new.lines) c.step.new.store (subst (Stepped meaning system p a n c.goal-goal.result (panel c.step.new.lines) c.step.new.store) c.if-not-step.true stepped) in
    let stays = c.step.ensures.stays c.if-not-step.true in (
      a,
      Taking.full a_gate (let below = c.if-row-goal.false in omega arith) over,
      subst (λ (o : Lines). Stands meaning system (panel o) c.step.new.store a) (sym stays.0) (subst (λ st. Stands meaning system p st a) (sym stays.1) h),
    )

pub returns-clause-keeps : goal.returns-clause-keeps
returns-clause-keeps g c =
    let p = panel c.args.lines.now in
    let q = panel c.step.new.lines in
    let r = panel c.follow.new.lines in
    let n = c.args.line in
    let a_gate = c.in-Some.ensures.told.0 in
    keeps_on p q r c.args.store.now c.step.new.store c.follow.new.store
    (keeps_moved p q n (q.progress n) c.args.store.now c.step.new.store c.step.ensures.moves_one (inr a_gate) c.step.ensures.only_there)
    (keeps_moved q r n (r.progress n) c.step.new.store c.follow.new.store c.follow.ensures.moves_one (inr (subst (λ (o : Panel). IsGate (topology o.circuit) n) (sym c.step.ensures.moves_one) a_gate)) c.follow.ensures.only_there)

pub returns-clause-answers : goal.returns-clause-answers
returns-clause-answers g c a h =
    let meaning = g.V.ValueSystem.meaning in
    let system = g.V.ValueSystem.system in
    let l = c.args.lines.now in
    let p = panel l in
    let n = c.args.line in
    let row = c.in-Some.ensures.told in
    let a_gate = row.0 in
    let order = in_order meaning system p c.args.store.now a (sure l) h in
    let told = c.goal-goal.ensures ∙ goal_told meaning system p c.args.store.now a (sure l) h n a_gate c.in-Some.row.gate.reads (same_reads p.circuit n a_gate ∙ ap (λ (x : Gate). x.reads) (sym row.1)) in
    let front : c.row.inside.progress.tick ≡ a.front n = ap (λ (r : MarkedGate). r.progress.tick) c.row.view_is ∙ (ap (λ (x : Progress). x.tick) row.2 ∙ h.shows.fronts n a_gate) in
    let delay : c.in-Some.row.gate.delay ≡ (gate_of_line p.circuit n).delay = ap (λ (x : Gate). x.delay) row.1 in
    let in_range : c.goal-goal.result + c.in-Some.row.gate.delay ≤ last_tick = omega (arith, goal_in_range meaning system p c.args.store.now a (sure l) h n a_gate, gate_delay p.circuit (sure l).wired n a_gate) in
    let limits : (m : ℕ) → Contains (reads p.circuit n) m → c.goal-goal.result ≤ settled (topology p.circuit) a m = λ m read. let each = goal_each (topology p.circuit) a n m read in omega arith in
    let stepped = c.step.ensures.steps a h.shows (order.trim_within_fronts n a_gate) in_range limits in
    let q = panel c.step.new.lines in
    let r = panel c.follow.new.lines in
    let on = went_onward meaning system p a n c.goal-goal.result q c.step.new.store (subst (Stepped meaning system p a n c.goal-goal.result q c.step.new.store) c.if-not-step.false stepped) in
    let far = on.further in
    let here = put_here a.front n on.front in
    let reaches = order.trim_within_fronts n a_gate in
    let followed = c.follow.ensures.follows (taken a n on.front) on.shows (omega arith) (let w = on.within in omega arith) in_range (limits_on meaning system p a n c.goal-goal.result q (q.progress n) c.step.ensures.moves_one on.front (omega arith) limits) in
    let range = gate_range p.circuit n a_gate in
    take_done meaning system p c.args.store.now a (sure l) h n a_gate q r c.follow.new.store on.front (q.progress n) (r.progress n) c.step.ensures.moves_one c.follow.ensures.moves_one far (subst (λ t. Followed meaning system q (taken a n on.front) n t r c.follow.new.store) told followed)
    (c.follow.new.lines.kept_fit n (omega (arith, range.0)) (subst (λ x. n ≤ lines x) (sym (ap (λ (o : Panel). o.circuit) c.follow.ensures.moves_one ∙ ap (λ (o : Panel). o.circuit) c.step.ensures.moves_one)) range.1)) c.settled.result c.settled.ensures
