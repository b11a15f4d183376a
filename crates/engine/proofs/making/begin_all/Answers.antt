use Rattle.std.proofs.Common.{◌≡◌, ℕ, ◌+◌, ◌-◌, ◌<◌, ◌≤◌, get_or, refl, sym, ap, ◌∙◌, inl, inr, arith}
use Rattle.std.proofs.lemmas.List.{get_or_past}
use Rattle.semantics.specs.Circuits.{lines, topology}
use Rattle.semantics.proofs.Wiring.{gate_range}
use Rattle.semantics.specs.Machines.{IsLine}
use Rattle.engine.specs.Makings.{base}
use Rattle.engine.specs.Sessions.{given}
use Rattle.engine.specs.Lines.{panel}
use Rattle.engine.specs.Recordings.{begun}
use Rattle.engine.specs.Stores.{part}
use Rattle.engine.proofs.Bases.{begun_none, begun_more, base_begun}
use Rattle.engine.proofs.Beginnings.{right_at_first}
use Rattle.engine.proofs.Books.{sure, of_line}
use Rattle.engine.proofs.Moving.{keeps_on, keeps_there}
use Rattle.engine.proofs.Parts.{part_length}
use Rattle.engine.proofs.making.begin_all.Goals as goal

pub loop-place-init : goal.loop-place-init
loop-place-init g c = record {
  keeps = record { circuit = refl; stride = refl; same_length = refl; beyond = refl };
  begun = begun_none g.V.ValueSystem.START c.args.lines.now.stride (λ n. get_or c.args.starts.now (n - 1) g.V.ValueSystem.START) (panel c.args.lines.now).circuit c.args.store.now;
}

pub loop-place-preserved : goal.loop-place-preserved
loop-place-preserved g c =
    let START = g.V.ValueSystem.START in
    let p = panel c.args.lines.now in
    let k = c.loop-place.place in
    let old = c.loop-place.store in
    let new = c.begin.new.store in
    let so_far = c.loop-place.invariant in
    let there = c.begin.ensures.only_there in
    let place : k + 1 - 1 ≡ k = omega arith in
    let test = c.loop-place-test.true in
    let within : k + 1 ≤ lines p.circuit = omega (arith, c.lines-place-end.ensures) in
    let long = part_length p.stride (lines p.circuit) (k + 1) old (omega arith) within (omega (arith, c.requires, so_far.keeps.same_length)) in
    let still_long = part_length p.stride (lines p.circuit) (k + 1) new (omega arith) within (omega (arith, c.requires, so_far.keeps.same_length, there.same_length)) in
    let value = c.start_of.ensures ∙ ap (λ j. get_or c.args.starts.now j START) (sym place) in
    record {
      keeps = keeps_on p p p c.args.store.now old new so_far.keeps (keeps_there p (k + 1) old new (omega arith) within there);
      begun = begun_more START p.stride (λ n. get_or c.args.starts.now (n - 1) START) p.circuit old new k there (long ∙ sym still_long) (c.begin.ensures.begins ∙ ap (λ v. begun (part p.stride (k + 1) old) v START) value) so_far.begun;
    }

pub returns-clause-begun : goal.returns-clause-begun
returns-clause-begun g c n is_line =
    let START = g.V.ValueSystem.START in
    let p = panel c.args.lines.now in
    let store = c.loop-place.store in
    let range = of_line p n is_line in
    let past = c.loop-place-test.false in
    let some : 0 < p.stride = omega (arith, c.args.lines.now.kept_fit n range.0 range.1) in
    let is = c.loop-place.invariant.begun n is_line (omega (arith, range.1, c.lines-place-end.ensures)) in
    is ∙ ap (λ v. begun (part p.stride n store) v START) (sym (base_begun START p.stride some store n (get_or c.args.starts.now (n - 1) START) is))

pub returns-clause-right : goal.returns-clause-right
returns-clause-right g c as_many =
    let START = g.V.ValueSystem.START in
    let meaning = g.V.ValueSystem.meaning in
    let p = panel c.args.lines.now in
    let store = c.loop-place.store in
    let past = c.loop-place-test.false in
    let starts = c.args.starts.now in
    let begins : (n : ℕ) → IsLine (topology p.circuit) n → meaning (base START p.stride store n) ≡ meaning (get_or starts (n - 1) START) =
    λ n is_line.
    let range = of_line p n is_line in
    ap meaning (base_begun START p.stride (omega (arith, c.args.lines.now.kept_fit n range.0 range.1)) store n (get_or starts (n - 1) START) (c.loop-place.invariant.begun n is_line (omega (arith, range.1, c.lines-place-end.ensures)))) in
    right_at_first g.V.ValueSystem.system p.circuit (sure c.args.lines.now).wired (given meaning START starts) (λ n. meaning (base START p.stride store n)) (λ n an_input. begins n (inl an_input))
    (λ n a_gate.
    let range = gate_range p.circuit n a_gate in
    begins n (inr a_gate) ∙ (ap meaning (get_or_past starts (n - 1) START (omega (arith, as_many, range.0))) ∙ g.met.V.ValueSystem.start_means))
