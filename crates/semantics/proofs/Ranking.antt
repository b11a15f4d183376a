-- Where an input reaches every gate, settled times are bounded: a line's rank is how many lines are settled less, and it
-- bounds how far the line is settled.
use Rattle.std.proofs.Common.{ℕ, zero, suc, ◌+◌, ◌*◌, ◌<◌, ◌≤◌, ⊎_elim, arith}
use Rattle.std.proofs.lemmas.Bool.{cases_lt}
use Rattle.netlist.specs.Gates.{Circuit}
use Rattle.netlist.specs.Judging.{AllReached}
use Rattle.netlist.specs.Walks.{Reads, Walk, Reached}
use Rattle.values.specs.Systems.{System}
use Rattle.semantics.specs.Machines.{IsInput, IsGate}
use Rattle.semantics.specs.Accounts.{Account, settled}
use Rattle.semantics.specs.Circuits.{lines, topology, Wired}
use Rattle.semantics.specs.CircuitMachine.{machine}
use Rattle.semantics.proofs.Bounding.{reader, reads_from, an_input}
use Rattle.semantics.proofs.Counting.{rank, rank_rises, rank_bound}
use Rattle.semantics.proofs.Goals.{settled_undriven, cases_driver}
use Rattle.semantics.proofs.Invariants.{Invariant}
use Rattle.semantics.proofs.Settling.{input_bound, gate_bound}
use Rattle.semantics.proofs.Wiring.{gate_range, gate_delay, read_line, line_range}

module _ {M : Type 0} (s : System M) (c : Circuit) (room : ℕ) (wired : Wired c) (a : Account M) (h : Invariant (machine s c room) a) where
  abbrev far : ℕ → ℕ
  far n = settled (topology c) a n

  abbrev rank_of : ℕ → ℕ
  rank_of n = rank far (suc (lines c)) n

  -- a line whose settled time is before a tick, by no more than the greatest delay
  record JustBefore (tick : ℕ) : Type 0 where
    line : ℕ
    a_line : line < suc (lines c)
    before : far line < tick
    near : tick ≤ far line + 65535

  -- the line that is read where a tick is passed
  here : (n m tick : ℕ) → Reads c n m → far m < tick → tick ≤ far n → JustBefore tick
  here n m tick read before passed =
      let a_gate = reader c n m read in
      let most = gate_bound (machine s c room) a h n m (far m) a_gate (reads_from c n m read) (omega arith) in
      let delay = gate_delay c wired n a_gate in
      let within = line_range c m (read_line c wired n a_gate m read) in
      record { line = m; a_line = omega arith; before = before; near = omega arith }

  -- a walk from a line settled before a tick to one that is not passes the tick
  passing : {m n : ℕ} (tick : ℕ) → Walk c m n → far m < tick → tick ≤ far n → JustBefore tick
  passing tick (Walk.step {m = m} {n = n} read) before passed = here n m tick read before passed
  passing tick (Walk.on {m = m} {j = j} read walk) before passed = ⊎_elim (λ still. passing tick walk still passed) (here j m tick read before) (cases_lt (far j) tick)

  input_most : (n : ℕ) → IsInput (topology c) n → far n ≤ 2000000000
  input_most n is = let e = input_bound (machine s c room) a h n is in let end = h.ends_in_time n is in omega arith

  module _ (reached : AllReached c) where
    from_gate : (n : ℕ) → IsGate (topology c) n → 2000000000 < far n → JustBefore (far n)
    from_gate n is beyond =
        let range = gate_range c n is in
        let leads : Reached c n = reached n range.0 (omega (arith, range.1)) in
        let first = input_most leads.from (an_input c n leads) in
        passing (far n) leads.walk (omega arith) (omega arith)

    -- near each line that is settled further than inputs can be is one that is settled less
    lower : (n : ℕ) → 2000000000 < far n → JustBefore (far n)
    lower n beyond =
        ⊎_elim (⊎_elim (λ is. let most = input_most n is in absurd (omega arith)) (λ is. from_gate n is beyond))
        (λ none. absurd (omega (arith, settled_undriven (topology c) a n none))) (cases_driver (topology c) n)

    -- a line is settled no further than its rank lets it be, for ranks below k
    by_rank : (k n : ℕ) → rank_of n < k → far n ≤ 2000000000 + 65535 * rank_of n
    by_rank zero n within = absurd (omega arith)
    by_rank (suc k) n within =
        ⊎_elim
        (λ beyond.
        let found = lower n beyond in
        let rises = rank_rises far (suc (lines c)) found.line n found.a_line found.before in
        let rest = by_rank k found.line (omega arith) in
        omega (arith, found.near))
        (λ near. omega arith) (cases_lt 2000000000 (far n))

    pub settled_most : (n : ℕ) → settled (topology c) a n ≤ 2000000000 + 65535 * lines c
    settled_most n =
        ⊎_elim (λ line. let within = line_range c n line in let ranked = rank_bound far (suc (lines c)) n (omega arith) in let most = by_rank (suc (lines c)) n ranked in omega arith)
        (λ none. omega (arith, settled_undriven (topology c) a n none)) (cases_driver (topology c) n)
