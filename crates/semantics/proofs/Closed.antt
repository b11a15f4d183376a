-- Closed netlists are wired, and inputs reach all their gates.
use Rattle.std.proofs.Common.{◌≡◌, ℕ, ◌+◌, ◌-◌, true, sym, subst, arith}
use Rattle.std.specs.List.{list_all}
use Rattle.netlist.specs.declared.closed.Netlist.{Netlist}
use Rattle.netlist.specs.Closed.{circuit}
use Rattle.netlist.specs.Gates.{legal}
use Rattle.netlist.specs.Judging.{AllReached}
use Rattle.netlist.specs.Walks.{Reached}
use Rattle.netlist.proofs.Rewriting.{count_gates}
use Rattle.semantics.specs.Circuits.{Wired}
use Rattle.semantics.proofs.Reachable.{reached}

pub wired : (n : Netlist) → Wired (circuit n)
wired n = subst (λ k. list_all (legal (n.size.inputs + k)) (circuit n).gates ≡ true) (sym (count_gates n)) n.wired

pub all_reached : (n : Netlist) → AllReached (circuit n)
all_reached n k past below =
    let place : ℕ = k - n.size.inputs - 1 in
    let same : n.size.inputs + 1 + place ≡ k = omega arith in
    reached (circuit n) k (subst (λ m. ∥ Reached (circuit n) m ∥₁) same (n.reached place (omega (arith, count_gates n))))
