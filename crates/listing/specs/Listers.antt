-- A session in three values, and what the lister's own functions say of it.
use Rattle.std.specs.Prelude.{◌≡◌, ℕ, List, length}
use Rattle.engine.specs.Sessions as Sessions
use Rattle.engine.specs.declared.session.Session.{Session}
use Rattle.netlist.specs.Gates.{Circuit}
use Rattle.semantics.specs.Accounts.{Account, KeptChanges}
use Rattle.semantics.specs.Machines.{Machine, IsLine}
use Rattle.values.specs.Knowledge.{three_valued}
use Rattle.values.specs.declared.ternary.Ternary.{Ternary}
use Rattle.listing.specs.Listings.{lister_machine}

abbrev pub machine_in : Session Ternary → Machine Ternary
machine_in s = Sessions.machine_in three_valued s

-- a value means itself
abbrev pub StandsFor : Session Ternary → Account Ternary → Type 0
StandsFor s a = Sessions.StandsFor (λ v. v) three_valued s a

-- a session of a circuit, in the lister's store
pub record IsSessionOf (c : Circuit) (s : Session Ternary) : Type 0 where
  pub circuit : (Sessions.lines_of s).circuit ≡ c
  pub same : machine_in s ≡ lister_machine c

-- so many changes of a line are kept, at these ticks
pub record Contents (s : Machine Ternary) (a : Account Ternary) (n : ℕ) (ticks : List ℕ) (count : ℕ) : Type 0 where
  pub a_line : IsLine s.topology n
  pub kept : KeptChanges s a n ticks
  pub so_many : length ticks ≡ count
