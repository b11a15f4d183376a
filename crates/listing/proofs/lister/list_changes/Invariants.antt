use Rattle.std.proofs.Common.{ℕ, List, take}
use Rattle.std.specs.Io.KnownBytes.{Appends}
use Rattle.semantics.specs.Accounts.{Account}
use Rattle.values.specs.declared.ternary.Ternary.{Ternary}
use Rattle.listing.specs.Listers.{machine_in, StandsFor, Contents}
use Rattle.listing.specs.Listings.{change_rows}
use Rattle.listing.proofs.lister.list_changes.Given as goal

abbrev pub invariant-loop-k : goal.invariant-loop-k
invariant-loop-k g l =
    (a : Account Ternary) → StandsFor l.session a → (ticks : List ℕ) → Contents (machine_in l.session) a l.line ticks l.kept
    → Appends (g.S.Sink.contents l.initial.out) (g.S.Sink.contents l.out) (change_rows (machine_in l.session) a l.line (take l.k ticks))
