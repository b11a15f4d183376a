use Rattle.std.proofs.Common.{◌≡◌, ◌≤◌, [], ◌++◌, length, None, Some, sym, refl, ap, ◌∙◌, subst, append_assoc, append-nil, arith}
use Rattle.std.proofs.lemmas.List.{length-drop}
use Rattle.std.specs.Io.KnownBytes.{Appends}
use Rattle.std.proofs.KnownBytes.{Appends-nil, Appends-trans}
use Rattle.deck.proofs.Exits.{carried}
use Rattle.engine.specs.Sessions.{lines_of}
use Rattle.netlist.specs.Closed.{circuit, Output}
use Rattle.listing.specs.Listers.{machine_in}
use Rattle.listing.proofs.Outputs.{next_output, none_left}
use Rattle.listing.proofs.Putting.{stopped_within}
use Rattle.listing.proofs.lister.list_outputs.Goals as goal

pub loop-place-init : goal.loop-place-init
loop-place-init g c a stands text rows = record { done = []; left = text; split = refl; took = Appends-nil _; rows = rows }

pub loop-place-preserved : goal.loop-place-preserved
loop-place-preserved g c a stands text rows =
    let before = c.loop-place.invariant a stands text rows in
    let output = subst (λ n. Output (circuit n) c.loop-place.place (Some c.in-Some.line)) c.netlist-in-loop-place.ensures.is_its_netlist c.in-Some.ensures in
    let next = next_output c.args.session.now a c.loop-place.place c.in-Some.line before.left output before.rows in
    let first = next.1 in
    record {
      done = before.done ++ first.rows;
      left = first.others;
      split = before.split ∙ ap (λ l. before.done ++ l) first.is ∙ sym (append_assoc before.done first.rows first.others);
      took = Appends-trans _ _ _ _ _ before.took (c.in_ok-list_line.ensures a stands next.0 first.rows first.line);
      rows = first.left;
    }

pub returns-in_default : goal.returns-in_default
returns-in_default g c a stands text rows =
    let none : length (lines_of c.args.session.now).circuit.outputs ≤ c.loop-place.place = subst (λ n. Output (circuit n) c.loop-place.place None) c.netlist-in-loop-place.ensures.is_its_netlist c.in_default.ensures in
    absurd (omega (arith, none, c.loop-place-test.true, c.outputs-place-end.ensures ∙ ap (λ n. length (circuit n).outputs) c.netlist.ensures.is_its_netlist))

pub returns-in_err-list_line : goal.returns-in_err-list_line
returns-in_err-list_line g c a stands text rows =
    let before = c.loop-place.invariant a stands text rows in
    let output = subst (λ n. Output (circuit n) c.loop-place.place (Some c.in-Some.line)) c.netlist-in-loop-place.ensures.is_its_netlist c.in-Some.ensures in
    let next = next_output c.args.session.now a c.loop-place.place c.in-Some.line before.left output before.rows in
    let first = next.1 in
    carried c.from_residual.result c.in_err-list_line.field-0.0 _ _ c.from_residual.ensures.1
    (stopped_within g.S.Sink.contents g.S.Sink.Refuses c.args.out.now c.loop-place.out c.list_line.new.out before.done first.rows first.others text (before.split ∙ ap (λ l. before.done ++ l) first.is) before.took (c.in_err-list_line.ensures a stands next.0 first.rows first.line))

pub returns : goal.returns
returns g c a stands text rows =
    let outputs = (lines_of c.args.session.now).circuit.outputs in
    let out = g.S.Sink.contents in
    let before = c.loop-place.invariant a stands text rows in
    let count : length outputs ≤ c.loop-place.place = omega (arith, c.loop-place-test.false, c.outputs-place-end.ensures ∙ ap (λ n. length (circuit n).outputs) c.netlist.ensures.is_its_netlist) in
    let none = none_left (machine_in c.args.session.now) a before.rows (let cut = length-drop c.loop-place.place outputs in omega arith) in
    let all : text ≡ before.done = before.split ∙ ap (λ l. before.done ++ l) none ∙ append-nil before.done in
    subst (Appends (out c.args.out.now) (out c.loop-place.out)) (sym all) before.took
