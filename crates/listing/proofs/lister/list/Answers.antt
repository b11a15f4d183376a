use Rattle.std.proofs.Common.{◌≡◌, ℕ, ◌+◌, ◌-◌, min, List, length, take, drop, refl, sym, ap, ◌∙◌, subst, ⊎_elim, arith}
use Rattle.std.proofs.lemmas.Bool.{cases_lt}
use Rattle.std.proofs.lemmas.List.{take_all, length-drop}
use Rattle.deck.specs.Closing.{ClosedOutcome}
use Rattle.deck.specs.Faults.{told, fault_row}
use Rattle.deck.specs.Outcomes.{answer_of}
use Rattle.netlist.specs.Closed.{circuit}
use Rattle.listing.specs.Listings.{Listing, Simulated, deck_records}
use Rattle.listing.proofs.Only.{listing_one}
use Rattle.listing.proofs.Putting.{put_so}
use Rattle.listing.proofs.lister.list.Goals as goal

-- so many bytes at most
at_most : (k n : ℕ) (bytes : List ℕ) → n ≡ min (length bytes) k → take n bytes ≡ take k bytes
at_most k n bytes is =
    ⊎_elim (λ few. take_all n bytes (omega arith) ∙ sym (take_all k bytes (omega arith))) (λ many. let same : n ≡ k = omega arith in ap (λ m. take m bytes) same) (cases_lt (length bytes) k)

pub returns-in-Ok-clause-lists : goal.returns-in-Ok-clause-lists
returns-in-Ok-clause-lists g c =
    let bytes = take c.min.result c.args.bytes.now in
    let same = at_most 32768 c.min.result c.args.bytes.now c.min.ensures in
    let netlist = c.read_netlist-outcome.result.1 in
    let deck = subst (λ r. ClosedOutcome bytes (answer_of r) (circuit netlist)) c.in-Ok.is c.read_netlist-outcome.ensures.comes_to in
    let used = c.in-Ok.used in
    let rest : take (length bytes - used) (drop used bytes) ≡ drop used bytes = let long = length-drop used bytes in take_all (length bytes - used) (drop used bytes) (omega arith) in
    let listed = c.simulate.ensures in
    (listed.0, subst (λ l. Listing l listed.0) same (Listing.simulated deck (subst (λ l. Simulated (circuit netlist) (deck_records (circuit netlist) + 1) l listed.0) rest listed.1)), listed.2)

pub returns-in-Err-clause-lists : goal.returns-in-Err-clause-lists
returns-in-Err-clause-lists g c =
    let bytes = take c.min.result c.args.bytes.now in
    let same = at_most 32768 c.min.result c.args.bytes.now c.min.ensures in
    let netlist = c.read_netlist-outcome.result.1 in
    let refused = subst (λ r. ClosedOutcome bytes (answer_of r) (circuit netlist)) c.in-Err.is c.read_netlist-outcome.ensures.comes_to in
    let row = fault_row (told c.in-Err.fault) in
    (row, subst (λ l. Listing l row) same (Listing.refused refused.0 refl), put_so g.S.Sink.contents g.S.Sink.Refuses c.put.result c.args.out.now c.put.new.self c.row.result row c.row.ensures c.put.ensures.takes_or_refuses)

pub returns-in-Ok-clause-only : goal.returns-in-Ok-clause-only
returns-in-Ok-clause-only g c = listing_one (take 32768 c.args.bytes.now)

pub returns-in-Err-clause-only : goal.returns-in-Err-clause-only
returns-in-Err-clause-only g c = listing_one (take 32768 c.args.bytes.now)
