use Rattle.std.proofs.Common.{ℕ, ◌-◌, ◌*◌, refl, ap, subst, arith}
use Rattle.netlist.specs.declared.progress.Progress.{Progress}
use Rattle.semantics.specs.Moves.{taken}
use Rattle.engine.specs.Lines.{Panel, panel}
use Rattle.engine.specs.Looks.{Stepped}
use Rattle.engine.specs.Recordings.{OnlyThere}
use Rattle.engine.proofs.Parts.{there_on}
use Rattle.engine.proofs.Ways.{moved_on, moved_same, way_begins, way_goes_on, way_stops, way_ends, limits_stay, way_front}
use Rattle.engine.proofs.taking.follow.Goals as goal

pub loop-lines-init : goal.loop-lines-init
loop-lines-init g c =
    let p = panel c.args.lines.now in
    record {
      moves_one = moved_same p c.args.line;
      only_there = record { same_length = refl; before = refl; after = refl };
      follows = λ a shows reaches within in_range limits. way_begins g.V.ValueSystem.meaning g.V.ValueSystem.system p a c.args.line c.args.goal c.args.store.now shows within;
    }

pub loop-lines-preserved : goal.loop-lines-preserved
loop-lines-preserved g c =
    let p = panel c.args.lines.now in
    let q = panel c.loop-lines.lines in
    record {
      moves_one = moved_on p q (panel c.step.new.lines) c.args.line (q.progress c.args.line) _ c.loop-lines.invariant.moves_one c.step.ensures.moves_one;
      only_there = there_on ((c.args.line - 1) * p.stride) p.stride c.args.store.now c.loop-lines.store c.step.new.store c.loop-lines.invariant.only_there
          (subst (λ (k : ℕ). OnlyThere ((c.args.line - 1) * k) k c.loop-lines.store c.step.new.store) (ap (λ (o : Panel). o.stride) c.loop-lines.invariant.moves_one) c.step.ensures.only_there);
      follows = λ a shows reaches within in_range limits.
          let meaning = g.V.ValueSystem.meaning in
          let system = g.V.ValueSystem.system in
          let p = panel c.args.lines.now in
          let q = panel c.loop-lines.lines in
          let n = c.args.line in
          let so_far = c.loop-lines.invariant in
          let way = so_far.follows a shows reaches within in_range limits in
          let same = so_far.moves_one in
          let far = way.onward in
          let front = way_front meaning system p a n c.args.goal q c.loop-lines.store way in
          let stepped = c.step.ensures.steps (taken a n way.front) way.shows (omega arith) in_range (limits_stay meaning system p a n c.args.goal q c.loop-lines.store way (q.progress n) same limits) in
          way_goes_on meaning system p a n c.args.goal q c.loop-lines.store way (panel c.step.new.lines) c.step.new.store (subst (Stepped meaning system q (taken a n way.front) n c.args.goal (panel c.step.new.lines) c.step.new.store) c.if-not-step.false stepped);
    }

pub returns-then-not-step-clause-moves_one : goal.returns-then-not-step-clause-moves_one
returns-then-not-step-clause-moves_one g c =
    let p = panel c.args.lines.now in
    let q = panel c.loop-lines.lines in
    moved_on p q (panel c.step.new.lines) c.args.line (q.progress c.args.line) _ c.loop-lines.invariant.moves_one c.step.ensures.moves_one

pub returns-then-not-step-clause-follows : goal.returns-then-not-step-clause-follows
returns-then-not-step-clause-follows g c a shows reaches within in_range limits =
    let meaning = g.V.ValueSystem.meaning in
    let system = g.V.ValueSystem.system in
    let p = panel c.args.lines.now in
    let q = panel c.loop-lines.lines in
    let n = c.args.line in
    let so_far = c.loop-lines.invariant in
    let way = so_far.follows a shows reaches within in_range limits in
    let same = so_far.moves_one in
    let far = way.onward in
    let front = way_front meaning system p a n c.args.goal q c.loop-lines.store way in
    let stepped = c.step.ensures.steps (taken a n way.front) way.shows (omega arith) in_range (limits_stay meaning system p a n c.args.goal q c.loop-lines.store way (q.progress n) same limits) in
    way_stops meaning system p a n c.args.goal q c.loop-lines.store way (q.progress n) same (panel c.step.new.lines) c.step.new.store (subst (Stepped meaning system q (taken a n way.front) n c.args.goal (panel c.step.new.lines) c.step.new.store) c.if-not-step.true stepped)

pub returns-clause-follows : goal.returns-clause-follows
returns-clause-follows g c a shows reaches within in_range limits =
    let p = panel c.args.lines.now in
    let q = panel c.loop-lines.lines in
    let so_far = c.loop-lines.invariant in
    way_ends g.V.ValueSystem.meaning g.V.ValueSystem.system p a c.args.line c.args.goal q c.loop-lines.store (so_far.follows a shows reaches within in_range limits) (q.progress c.args.line) so_far.moves_one c.requires.a_gate (let e = ap (λ (x : Progress). x.tick) c.progress.ensures in let past = c.loop-lines-test.false in omega arith)
