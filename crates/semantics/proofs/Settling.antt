-- At rest every line is settled just to its distance.
use Rattle.std.proofs.Common.{◌≡◌, ℕ, zero, suc, ◌+◌, ◌<◌, ◌≤◌, sym, subst, ⊎_elim, arith}
use Rattle.std.proofs.lemmas.Bool.{cases_lt}
use Rattle.semantics.specs.Machines.{Machine, IsInput, IsGate, IsLine, ReadsFrom}
use Rattle.semantics.specs.Accounts.{Account, settled, goal, Overflows}
use Rattle.semantics.specs.Moves.{Rest, Rests}
use Rattle.semantics.specs.Distances.{Path, LimitedPath, Overfull, Distance}
use Rattle.semantics.proofs.Goals.{settled_input, settled_gate, not_both, goal_each, goal_attained}
use Rattle.semantics.proofs.Listing.{no_room}
use Rattle.semantics.proofs.Invariants.{Invariant}
use Rattle.semantics.proofs.Locality.{Sound}

module _ {M : Type 0} (s : Machine M) (a : Account M) (h : Invariant s a) where
  -- a line is settled no further than where a change comes for which there is no room
  pub stops : (n stop : ℕ) → Overflows s a n stop → settled s.topology a n ≤ stop
  stops n stop over =
      ⊎_elim (λ beyond. absurd (no_room stop over.from_trim over.changes over.room_is_full beyond (h.fits n))) (λ within. within) (cases_lt stop (settled s.topology a n))

  pub input_bound : (n : ℕ) → IsInput s.topology n → settled s.topology a n ≤ a.end n
  input_bound n an_input = let e = settled_input s.topology a n an_input in omega arith

  pub gate_bound : (n m far : ℕ) → IsGate s.topology n → ReadsFrom s.topology n m → settled s.topology a m ≤ far → settled s.topology a n ≤ far + s.topology.lag n
  gate_bound n m far a_gate read within = let e = settled_gate s.topology a n a_gate in let f = h.follows n m a_gate read in omega arith

  -- a line is settled no further than any path is long
  pub path_bound : {n far : ℕ} → Path s a n far → settled s.topology a n ≤ far
  path_bound (Path.from_input {n = n} an_input) = input_bound n an_input
  path_bound (Path.through {m = m} {n = n} {far = far} a_gate read path) = gate_bound n m far a_gate read (path_bound path)

  limited_bound : {n far : ℕ} → LimitedPath s a n far → settled s.topology a n ≤ far
  limited_bound (LimitedPath.from_input {n = n} an_input) = input_bound n an_input
  limited_bound (LimitedPath.from_stop {n = n} {stop = stop} overfull) = stops n stop overfull.overflows
  limited_bound (LimitedPath.through {m = m} {n = n} {far = far} a_gate read path) = gate_bound n m far a_gate read (limited_bound path)

  -- a gate that is full below its goal is overfull at its settled time
  pub overfull : (n : ℕ) → IsGate s.topology n → a.front n < goal s.topology a n → Overflows s a n (a.front n + s.topology.lag n) → Overfull s a n (a.front n + s.topology.lag n)
  overfull n a_gate below over = record { overflows = over; early = early }
    where
      early : (far : ℕ) → Path s a n far → a.front n + s.topology.lag n < far
      early far (Path.from_input an_input) = absurd (not_both s.topology n an_input a_gate)
      early far (Path.through {m = m} {far = near} gate' read path) =
          let g = goal_each s.topology a n m read in let p = path_bound path in omega arith

  module _ (sound : Sound s.topology) (rest : Rest s a) where
    -- some limited path to a line is as long as the line is settled, to a depth of so many ticks
    reached : (depth n : ℕ) → IsLine s.topology n → settled s.topology a n < depth → LimitedPath s a n (settled s.topology a n)
    reached zero n line within = absurd (omega arith)
    reached (suc depth) n line within = ⊎_elim at_input (λ a_gate. at_gate a_gate (rest n a_gate) (reached depth)) line
      where
        at_input : IsInput s.topology n → LimitedPath s a n (settled s.topology a n)
        at_input an_input = subst (LimitedPath s a n) (sym (settled_input s.topology a n an_input)) (LimitedPath.from_input an_input)

        at_gate : IsGate s.topology n → Rests s a n → ((m : ℕ) → IsLine s.topology m → settled s.topology a m < depth → LimitedPath s a m (settled s.topology a m)) → LimitedPath s a n (settled s.topology a n)
        at_gate a_gate (Rests.idle at_goal) nearer =
            let e = settled_gate s.topology a n a_gate in
            let found = goal_attained s.topology a n sound a_gate in
            let time = sound.takes_time n a_gate in
            let same : settled s.topology a found.line + s.topology.lag n ≡ settled s.topology a n = omega (arith, found.is) in
            subst (LimitedPath s a n) same (LimitedPath.through a_gate found.among (nearer found.line (sound.reads_lines n found.line a_gate found.among) (omega (arith, found.is))))
        at_gate a_gate (Rests.full below over) nearer =
            subst (LimitedPath s a n) (sym (settled_gate s.topology a n a_gate)) (LimitedPath.from_stop (overfull n a_gate below over))

    pub settled_is_distance : (n : ℕ) → IsLine s.topology n → Distance s a n (settled s.topology a n)
    settled_is_distance n line = record { reached = reached (suc (settled s.topology a n)) n line (omega arith); least = λ other path. limited_bound path }
