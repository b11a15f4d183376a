use Rattle.std.proofs.Common.{◌≡◌, ◌+◌, ◌∙◌, sym, subst, arith}
use Rattle.deck.specs.Faults.{told, fault_row}
use Rattle.netlist.specs.Closed.{circuit}
use Rattle.semantics.specs.Logs.{Run}
use Rattle.semantics.specs.Logs.Ending.{rest}
use Rattle.listing.specs.Listings.{unknown, deck_records}
use Rattle.listing.specs.Listers.{machine_in}
use Rattle.listing.proofs.Putting.{put_so}
use Rattle.listing.proofs.Simulating.{ready_on, text_at_rest, faulty_so, outputs_so}
use Rattle.listing.proofs.lister.simulate.Goals as goal

pub returns-in-Err : goal.returns-in-Err
returns-in-Err g c =
    let d = circuit c.args.netlist in
    let s = c.make_session-session.result in
    let fault = (c.in-Err.ensures.answers unknown c.make_session-session.ensures.begins).2 in
    let first : c.lines.result + c.outputs.result + 3 ≡ deck_records d + 1 = omega (arith, c.lines.ensures, c.outputs.ensures) in
    let listing = faulty_so d s c.make_session-session.ensures.of_the_netlist c.args.stimulus.now _ (told c.in-Err.fault) first fault in
    (fault_row (told c.in-Err.fault), listing, put_so g.S.Sink.contents g.S.Sink.Refuses c.put.result c.args.out.now c.put.new.self c.row.result (fault_row (told c.in-Err.fault)) c.row.ensures c.put.ensures.takes_or_refuses)

pub returns : goal.returns
returns g c =
    let d = circuit c.args.netlist in
    let begins = c.make_session-session.ensures.begins in
    let s = c.make_session-session.result in
    let is = c.make_session-session.ensures.of_the_netlist in
    let given = c.in_default.ensures.answers unknown begins in
    let t = c.run_to_rest-takes.new.self in
    let mid = ready_on d s c.give_all.new.session is c.in_default.ensures.keeps in
    let there = ready_on d c.give_all.new.session t mid c.run_to_rest-takes.ensures.keeps in
    let rests = c.run_to_rest-takes.ensures.answers given.0 given.1 in
    let same : machine_in c.give_all.new.session ≡ machine_in t = mid.same ∙ sym there.same in
    let run = subst (λ m. Run m c.run_to_rest-takes.result given.0 rests.0 c.run_to_rest-takes.result rest) same rests.1 in
    let rested = c.run_to_rest-takes.ensures.rests given.0 given.1 rests.0 rests.2 in
    let rows = text_at_rest d t there rests.0 rests.2 rested in
    (rows.0, outputs_so d s is c.args.stimulus.now t there given.0 rests.0 c.run_to_rest-takes.result c.run_to_rest-takes.result rest given.2 run rests.2.log rested rows.0 rows.1, c.list_outputs.ensures rests.0 rests.2 rows.0 rows.1)
