use Rattle.std.proofs.Common.{◌≡◌, ℕ, ◌+◌, length, refl, sym, ap, ◌∙◌, subst, ⊎_elim, arith}
use Rattle.std.proofs.lemmas.Bool.{cases_lt, cases_eq}
use Rattle.netlist.specs.Gates.{Circuit}
use Rattle.netlist.specs.GateRow.{at_start}
use Rattle.netlist.specs.Closed.{progress_of}
use Rattle.netlist.proofs.Rewriting.{not_moved, count_gates}
use Rattle.netlist.proofs.closed.Netlist.rewind.Goals as goal

pub loop-place-init : goal.loop-place-init
loop-place-init c = record { same = refl; told = λ n low. not_moved c.args.self.now n (λ high. omega arith) }

pub loop-place-preserved : goal.loop-place-preserved
loop-place-preserved c =
    let before = c.args.self.now in
    let now = c.loop-place.self in
    let done = c.loop-place.invariant in
    let moved = c.advance.ensures in
    let inputs : now.size.inputs ≡ before.size.inputs = ap (λ (x : Circuit). x.inputs) done.same in
    let gates : now.size.gates ≡ before.size.gates = sym (count_gates now) ∙ (ap (λ (x : Circuit). length x.gates) done.same ∙ count_gates before) in
    let line = now.size.inputs + 1 + c.loop-place.place in
    record {
      same = moved.same_circuit ∙ done.same;
      told = λ n low.
          ⊎_elim
          (λ is.
          subst (λ m. progress_of c.advance.new.self m ≡ at_start) (sym is) (moved.tells_a_gate (omega arith) (omega (arith, count_gates now)) ∙ ap (λ (t : ℕ × ℕ). record { tick = t.0; kept = t.1 }) (ap (λ t. (t, c.default.result.kept)) c.default.ensures.0 ∙ ap (λ k. (0, k)) c.default.ensures.1)))
          (λ other. moved.tells_no_other n other ∙ done.told n (omega arith))
          (cases_eq n line);
    }

pub returns-clause-same_circuit : goal.returns-clause-same_circuit
returns-clause-same_circuit c = c.loop-place.invariant.same

pub returns-clause-tells_every_gate : goal.returns-clause-tells_every_gate
returns-clause-tells_every_gate c n =
    let before = c.args.self.now in
    let now = c.loop-place.self in
    let done = c.loop-place.invariant in
    let inputs : now.size.inputs ≡ before.size.inputs = ap (λ (x : Circuit). x.inputs) done.same in
    let gates : now.size.gates ≡ before.size.gates = sym (count_gates now) ∙ (ap (λ (x : Circuit). length x.gates) done.same ∙ count_gates before) in
    ⊎_elim (λ low. done.told n low) (λ high. not_moved now n (λ above. omega arith)) (cases_lt n (before.size.inputs + 1 + c.loop-place.place))
