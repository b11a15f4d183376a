-- How a gate's line follows the lines that the gate reads.
use Rattle.std.proofs.Common.{◌≡◌, ℕ, suc, ◌+◌, ◌-◌, map, ap, sym, ◌∙◌, subst, arith, Contains}
use Rattle.netlist.specs.Gates.{Circuit}
use Rattle.netlist.specs.Walks.{reads}
use Rattle.values.specs.Systems.{System}
use Rattle.gates.specs.Functions.{gate_function}
use Rattle.semantics.specs.Accounts.{Account, value, Stable}
use Rattle.semantics.specs.Changes.{StableOn}
use Rattle.semantics.specs.Circuits.{topology, gate_of_line, Wired}
use Rattle.semantics.specs.CircuitMachine.{machine}
use Rattle.semantics.specs.Machines.{IsGate}
use Rattle.semantics.proofs.Ruling.{obeys, gates_equal}

module _ {M : Type 0} (s : System M) (c : Circuit) (wired : Wired c) (room : ℕ) (a : Account M) (n : ℕ) (a_gate : IsGate (topology c) n) where
  pub one_delay_later : (t : ℕ) → value (machine s c room) a n (t + (gate_of_line c n).delay) ≡ gate_function s (gate_of_line c n).kind (map (λ m. value (machine s c room) a m t) (reads c n))
  one_delay_later t = (obeys s c wired a.start a.waveform).one_delay_later n t a_gate

  -- where the lines are stable that a gate reads, its own line is stable one delay later
  pub stable_later : (t : ℕ) → ((m : ℕ) → Contains (reads c n) m → Stable (machine s c room) a m (suc t)) → Stable (machine s c room) a n (suc (t + (gate_of_line c n).delay))
  stable_later t quiet =
      let place : suc (t + (gate_of_line c n).delay) ≡ suc t + (gate_of_line c n).delay = omega arith in
      ap (value (machine s c room) a n) place
      ∙ (one_delay_later (suc t)
      ∙ (gates_equal s (gate_of_line c n).kind (λ m. value (machine s c room) a m (suc t)) (λ m. value (machine s c room) a m t) (reads c n) quiet ∙ sym (one_delay_later t)))

  pub steady_later : (from until : ℕ) → ((m : ℕ) → Contains (reads c n) m → StableOn (Stable (machine s c room) a m) (suc from) until) → StableOn (Stable (machine s c room) a n) (suc (from + (gate_of_line c n).delay)) (until + (gate_of_line c n).delay)
  steady_later from until quiet u after before =
      let t : ℕ = u - suc (gate_of_line c n).delay in
      let place : suc (t + (gate_of_line c n).delay) ≡ u = omega arith in
      subst (Stable (machine s c room) a n) place (stable_later t (λ m read. quiet m read (suc t) (omega arith) (omega arith)))
