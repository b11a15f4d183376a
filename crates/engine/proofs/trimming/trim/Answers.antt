use Rattle.std.proofs.Common.{◌≤◌, ⊎_elim, arith}
use Rattle.semantics.specs.Moves.{trimmed}
use Rattle.engine.specs.Answers.{Trimming}
use Rattle.engine.specs.Lines.{panel}
use Rattle.engine.proofs.Books.{line_of, of_line}
use Rattle.engine.proofs.Trims.{can_trim, settled_upto, trim_stands}
use Rattle.engine.proofs.trimming.trim.Goals as goal

pub returns-then-lines-eq0-clause-answers : goal.returns-then-lines-eq0-clause-answers
returns-then-lines-eq0-clause-answers g c a h =
    (a, Trimming.no_lines (λ n line. let none = c.if-lines-eq0.true in let range = of_line (panel c.args.lines.now) n line in omega (arith, range.0, range.1, c.lines.ensures)), h)

pub returns-then-tick-lines-clause-answers : goal.returns-then-tick-lines-clause-answers
returns-then-tick-lines-clause-answers g c a h =
    let p = panel c.args.lines.now in
    let some = c.if-lines-eq0.false in
    (a, Trimming.past {n = 1} (line_of p 1 (omega arith, omega (arith, c.lines.ensures))) (let before = c.if-tick-lines.true in omega (arith, h.shows.trim)), h)

pub returns-in-Some-clause-answers : goal.returns-in-Some-clause-answers
returns-in-Some-clause-answers g c a h =
    let p = panel c.args.lines.now in
    let n = c.in-Some._line in
    let found = c.in-Some.ensures in
    let early = found.1 in
    let from = c.if-tick-lines.false in (
      a,
      ⊎_elim (λ an_input. Trimming.beyond_end an_input (omega (arith, h.shows.trim)) (omega (arith, h.shows.ends n an_input))) (λ a_gate. Trimming.beyond_front a_gate (omega (arith, h.shows.trim)) (omega (arith, h.shows.fronts n a_gate))) (line_of p n found.0),
      h,
    )

pub returns-clause-answers : goal.returns-clause-answers
returns-clause-answers g c a h =
    let meaning = g.V.ValueSystem.meaning in
    let system = g.V.ValueSystem.system in
    let p = panel c.args.lines.now in
    let q = panel c.drop_all.new.lines in
    let t = c.args.tick in
    let some = c.if-lines-eq0.false in
    let from = c.if-tick-lines.false in
    let reaches : a.trim ≤ t = omega (arith, h.shows.trim) in
    let upto = c.in_default.ensures in
    let drops = c.drop_all.ensures.drops a h reaches (settled_upto meaning system p q c.args.store.now c.drop_all.new.store a h t reaches upto) in (
      trimmed a t,
      Trimming.accepted {n = 1} (line_of p 1 (omega arith, omega (arith, c.lines.ensures))) (can_trim meaning system p q c.args.store.now c.drop_all.new.store a h t reaches upto),
      trim_stands meaning system p q c.args.store.now c.drop_all.new.store a h t reaches upto c.drop_all.ensures.keeps drops,
    )
