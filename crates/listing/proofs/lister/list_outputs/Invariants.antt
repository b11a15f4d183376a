use Rattle.std.proofs.Common.{ℕ, List, drop}
use Rattle.engine.specs.Sessions.{lines_of}
use Rattle.semantics.specs.Accounts.{Account}
use Rattle.values.specs.declared.ternary.Ternary.{Ternary}
use Rattle.listing.specs.Listers.{machine_in, StandsFor}
use Rattle.listing.specs.Listings.{RowsOf}
use Rattle.listing.proofs.Outputs.{Begun}
use Rattle.listing.proofs.lister.list_outputs.Given as goal

abbrev pub invariant-loop-place : goal.invariant-loop-place
invariant-loop-place g l =
    (a : Account Ternary) → StandsFor l.session a → (text : List ℕ) → RowsOf (machine_in l.session) a (lines_of l.session).circuit.outputs text
    → Begun g.S.Sink.contents (machine_in l.session) a l.initial.out l.out text (drop l.place (lines_of l.session).circuit.outputs)
