-- The machine of a circuit.
use Rattle.std.specs.Prelude.{ℕ}
use Rattle.netlist.specs.Gates.{Circuit}
use Rattle.values.specs.Systems.{System}
use Rattle.semantics.specs.Circuits.{topology}
use Rattle.semantics.specs.Computed.{initial, value}
use Rattle.semantics.specs.Machines.{Rule, Machine}

module _ {M : Type 0} (s : System M) (c : Circuit) where
  abbrev pub rule : Rule M
  rule = record { initial = initial s c; value = value s c }

  abbrev pub machine : ℕ → Machine M
  machine room = record { topology = topology c; rule = rule; room = room }
