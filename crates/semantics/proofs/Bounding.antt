-- Where an input reaches every gate, walks bound how far gates can be taken.
use Rattle.std.proofs.Common.{◌≡◌, ℕ, ◌+◌, ◌≤◌, ◌⊎◌, length, ap, subst, inl, inr, ⊎_elim, arith}
use Rattle.std.proofs.lemmas.Bool.{cases_lt}
use Rattle.std.proofs.lemmas.List.Elements.{Contains-get_or}
use Rattle.netlist.specs.Gates.{Circuit}
use Rattle.netlist.specs.Walks.{reads, Reads, Walk, Reached}
use Rattle.netlist.proofs.Reading.{reads_at_input}
use Rattle.semantics.specs.Machines.{Rule, Machine, IsInput, IsGate, IsLine, ReadsFrom}
use Rattle.semantics.specs.Machines.Driver.{undriven}
use Rattle.semantics.specs.Accounts.{Account, settled}
use Rattle.semantics.specs.Circuits.{topology, driver}
use Rattle.semantics.specs.Distances.{Path}
use Rattle.semantics.proofs.Goals.{settled_gate, not_both, cases_driver}
use Rattle.semantics.proofs.Invariants.{Invariant}
use Rattle.semantics.proofs.Looping.{read_within}
use Rattle.semantics.proofs.Settling.{path_bound}
use Rattle.semantics.proofs.Wiring.{a_line, gate_range, input_range}

module _ (c : Circuit) where
  -- what reads a line is a gate
  pub reader : (n m : ℕ) → Reads c n m → IsGate (topology c) n
  reader n m read = ⊎_elim (λ is. absurd (none (input_range c n is).1)) (λ is. is) (a_line c n (⊎_elim (λ past. omega arith) (λ low. absurd (none low)) (cases_lt c.inputs n)) (read_within c n m read))
    where
      none : n ≤ c.inputs → ⊥
      none low = let nothing : length (reads c n) ≡ 0 = ap length (reads_at_input c n low) in omega (arith, read.within)

  pub reads_from : (n m : ℕ) → Reads c n m → ReadsFrom (topology c) n m
  reads_from n m read = subst (ReadsFrom (topology c) n) read.is (Contains-get_or (reads c n) read.place 0 read.within)

  pub an_input : (n : ℕ) (leads : Reached c n) → IsInput (topology c) leads.from
  an_input n leads =
      ⊎_elim (λ is. is) (λ is. let range = gate_range c leads.from is in absurd (omega (arith, range.0, leads.not_after))) (a_line c leads.from leads.not_before (omega (arith, leads.not_after)))

  undriven_gate : (n : ℕ) → driver c n ≡ undriven → IsGate (topology c) n → ⊥
  undriven_gate n none is = cc

  -- how long a walk is from a tick on
  length_of : {m n : ℕ} → Walk c m n → ℕ → ℕ
  length_of (Walk.step {n = n} read) far = far + (topology c).lag n
  length_of (Walk.on {j = j} read walk) far = length_of walk (far + (topology c).lag j)

  module _ {M : Type 0} (rule : Rule M) (room : ℕ) where
    abbrev S : Machine M
    S = record { topology = topology c; rule = rule; room = room }

    -- a path goes on along a walk
    along : (a : Account M) {m n : ℕ} (walk : Walk c m n) (far : ℕ) → Path S a m far → Path S a n (length_of walk far)
    unfolding length_of
    along a (Walk.step {m = m} {n = n} read) far path = Path.through (reader n m read) (reads_from n m read) path
    along a (Walk.on {m = m} {j = j} read walk) far path = along a walk (far + (topology c).lag j) (Path.through (reader j m read) (reads_from j m read) path)

    module _ (ends : ℕ → ℕ) (reached : (n : ℕ) → IsGate (topology c) n → Reached c n) where
      bound_by : (n : ℕ) → IsLine (topology c) n ⊎ (driver c n ≡ undriven) → ℕ
      bound_by n (inl (inl an_input)) = 0
      bound_by n (inl (inr a_gate)) = let leads = reached n a_gate in length_of leads.walk (ends leads.from)
      bound_by n (inr none) = 0

      -- the length of a path to the line
      pub bound : ℕ → ℕ
      bound n = bound_by n (cases_driver (topology c) n)

      pub bounded : (a : Account M) → a.end ≡ ends → Invariant S a → (n : ℕ) → IsGate (topology c) n → a.front n ≤ bound n
      unfolding bound bound_by
      bounded a same h n is = by_driver (cases_driver (topology c) n)
        where
          by_driver : (d : IsLine (topology c) n ⊎ (driver c n ≡ undriven)) → a.front n ≤ bound_by n d
          by_driver (inl (inl an_input)) = absurd (not_both (topology c) n an_input is)
          by_driver (inl (inr a_gate)) =
              let leads = reached n a_gate in
              let path : Path S a n (length_of leads.walk (a.end leads.from)) = along a leads.walk (a.end leads.from) (Path.from_input (an_input n leads)) in
              let most : settled (topology c) a n ≤ length_of leads.walk (ends leads.from) = subst (λ e. settled (topology c) a n ≤ length_of leads.walk (e leads.from)) same (path_bound S a h path) in
              let is = settled_gate (topology c) a n a_gate in
              omega arith
          by_driver (inr none) = absurd (undriven_gate n none is)
