-- Each take moves a front on, and settled times bound fronts, so no more takes can be made than all fronts have ticks to go.
use Rattle.std.proofs.Common.{◌≡◌, ℕ, suc, ◌+◌, ◌-◌, ◌*◌, ◌<◌, ◌≤◌, length, sym, subst, ⊎_elim, arith}
use Rattle.netlist.specs.Gates.{Circuit}
use Rattle.semantics.specs.Machines.{Rule, Machine}
use Rattle.semantics.specs.Accounts.{Account, settled}
use Rattle.semantics.specs.Circuits.{topology}
use Rattle.semantics.specs.Logs.{Takes}
use Rattle.semantics.specs.Moves.{put, taken, CanTake}
use Rattle.semantics.proofs.Goals.{settled_gate}
use Rattle.semantics.proofs.Putting.{put_here, put_grows}
use Rattle.semantics.proofs.Sums.{total, total_more, total_most}
use Rattle.semantics.proofs.Wiring.{a_line, gate_range, input_range}

module _ {M : Type 0} (c : Circuit) (rule : Rule M) (room : ℕ) where
  abbrev s : Machine M
  s = record { topology = topology c; rule = rule; room = room }

  -- how far all fronts have come together
  spent : Account M → ℕ
  spent a = total (λ k. a.front (suc c.inputs + k)) (length c.gates)

  -- a take adds a tick at least
  spends : (a : Account M) (n front : ℕ) → CanTake s a n front → spent a < spent (taken a n front)
  unfolding spent
  spends a n front can =
      let range = gate_range c n can.a_gate in
      let place : ℕ = n - suc c.inputs in
      let is : suc c.inputs + place ≡ n = omega (arith, range.0) in
      total_more (λ k. a.front (suc c.inputs + k)) (λ k. put a.front n front (suc c.inputs + k)) (λ k. put_grows a.front n front (omega (arith, can.onward)) (suc c.inputs + k)) place (length c.gates)
      (omega (arith, range.0, range.1))
      (subst (λ m. a.front m < put a.front n front m) (sym is) (let e = put_here a.front n front in omega (arith, can.onward)))

  takes_spend : {k : ℕ} {a b : Account M} → Takes s k a b → k + spent a ≤ spent b
  takes_spend Takes.none = omega arith
  takes_spend {a = a} (Takes.one_more {n = n} {front = front} first can rest) = let once = spends a n front can in let on = takes_spend rest in omega arith

  spent_most : (a : Account M) (most : ℕ) → ((n : ℕ) → settled (topology c) a n ≤ most) → spent a ≤ length c.gates * most
  unfolding spent
  spent_most a most bounded = total_most (λ k. a.front (suc c.inputs + k)) most (length c.gates) each
    where
      each : (k : ℕ) → k < length c.gates → a.front (suc c.inputs + k) ≤ most
      each k below =
          let n : ℕ = suc c.inputs + k in
          let b = bounded n in
          ⊎_elim (λ an_input. let range = input_range c n an_input in absurd (omega (arith, range.1))) (λ a_gate. let is = settled_gate (topology c) a n a_gate in omega arith) (a_line c n (omega arith) (omega arith))

  pub takes_most : {k : ℕ} {a b : Account M} (most : ℕ) → ((n : ℕ) → settled (topology c) b n ≤ most) → Takes s k a b → k ≤ length c.gates * most
  takes_most {a = a} {b = b} most bounded takes = let spend = takes_spend takes in let all = spent_most b most bounded in omega arith
