-- What a step of a gate comes to.
use Rattle.std.proofs.Common.{◌≡◌, ◌↔◌, ℕ, suc, ◌+◌, ◌-◌, ◌*◌, ◌<◌, ◌≤◌, true, false, List, length, map, min, None, Some, refl, ap, sym, ◌∙◌, subst, inr, arith, Contains}
use Rattle.std.specs.Prelude.{Option}
use Rattle.std.specs.Option.{unwrap_or}
use Rattle.events.specs.declared.record.EventRecord.{EventRecord}
use Rattle.netlist.specs.Gates.{Gate, Circuit}
use Rattle.netlist.specs.Walks.{reads}
use Rattle.netlist.specs.declared.progress.Progress.{Progress}
use Rattle.netlist.proofs.Reading.{reads_at_gate}
use Rattle.gates.specs.Functions.{gate_function}
use Rattle.semantics.specs.Accounts.{Account, settled, value}
use Rattle.semantics.specs.Circuits.{lines, topology, gate_of_line, Wired}
use Rattle.semantics.specs.Machines.{Machine, IsGate, IsLine}
use Rattle.semantics.specs.Moves.{taken}
use Rattle.semantics.proofs.Goals.{settled_gate, not_both}
use Rattle.semantics.proofs.Invariants.{settled_same}
use Rattle.semantics.proofs.Putting.{put_here, put_there}
use Rattle.semantics.proofs.Wiring.{gate_range}
use Rattle.values.specs.Systems.{System}
use Rattle.engine.specs.declared.evaluation.Look.{Look}
use Rattle.engine.specs.Lines.{Panel, Holds}
use Rattle.engine.specs.Panels.{moved, last_tick}
use Rattle.engine.specs.Looks.{Evaluated, Stepped}
use Rattle.engine.specs.Looks.Stepped.{onward, stopped}
use Rattle.engine.specs.Recordings.{RecordedIn, OnlyThere}
use Rattle.engine.specs.Standing.{Tells, machine_of, Shows}
use Rattle.engine.specs.Stores.{part, seen}
use Rattle.engine.proofs.Following.{one_delay_later, steady_later}
use Rattle.engine.proofs.Moving.{Others, shows_moved}
use Rattle.engine.proofs.Parts.{part_length, same_store}
use Rattle.engine.proofs.Recordings.{ToldOn, told_on}
use Rattle.engine.proofs.Retelling.{tell_on}

-- a gate reads the lines that its circuit names
pub same_reads : (c : Circuit) (n : ℕ) → IsGate (topology c) n → reads c n ≡ (gate_of_line c n).reads
same_reads c n a_gate = let range = gate_range c n a_gate in reads_at_gate c n (n - suc c.inputs) (omega arith)

module _ {V M : Type 0} (meaning : V → M) (system : System M) (p : Panel) (a : Account M) (n : ℕ) (a_gate : IsGate (topology p.circuit) n) where
  abbrev lag : ℕ
  lag = (gate_of_line p.circuit n).delay

  abbrev s : Machine M
  s = machine_of system p

  -- the others stay where one gate is taken
  pub others_stay : (old new : List (EventRecord V)) (until : ℕ) (x : Progress) (h : Shows meaning system p old a) (line : IsLine (topology p.circuit) n) (there : OnlyThere ((n - 1) * p.stride) p.stride old new) → Others meaning system p old new a (taken a n until) n x h line there
  others_stay old new until x h line there = record {
    trim = refl;
    ends = λ m other. refl;
    fronts = λ m other. sym (put_there a.front n until m other);
    records = λ m kept rs a_line other told. again m kept rs other told;
  }
    where
      again : (m kept : ℕ) (rs : List (ℕ × M)) → (m ≡ n → ⊥) → Tells s system.start a m (settled s.topology a m) kept rs → Tells s system.start (taken a n until) m (settled s.topology (taken a n until) m) kept rs
      again m kept rs other told =
          subst (λ to. Tells s system.start (taken a n until) m to kept rs) (settled_same s a (taken a n until) m refl (sym (put_there a.front n until m other)))
          (record { ticks = told.ticks; changes = told.changes; count = told.count; shown = told.shown; spare = told.spare })

module _ {V M : Type 0} (meaning : V → M) (Alike : V → V → Type 0) (compared : (x y : V) → Alike x y ↔ (meaning x ≡ meaning y)) (system : System M) (p : Panel) (wired : Wired p.circuit) (old new : List (EventRecord V)) (a : Account M) (n goal : ℕ) (a_gate : IsGate (topology p.circuit) n) (h : Shows meaning system p old a) (reaches : a.trim ≤ a.front n) (holds : Holds p old) (kept_fits : (p.progress n).kept < p.stride) (there : OnlyThere ((n - 1) * p.stride) p.stride old new) where
  line : IsLine (topology p.circuit) n
  line = inr a_gate

  -- the tick up to which the line was told
  from_front : settled (topology p.circuit) a n ≡ a.front n + lag meaning system p a n a_gate
  from_front = settled_gate (topology p.circuit) a n a_gate

  told : Tells (s meaning system p a n a_gate) system.start a n (a.front n + lag meaning system p a n a_gate) (p.progress n).kept (map (seen meaning) (part p.stride n old))
  told = subst (λ to. Tells (s meaning system p a n a_gate) system.start a n to (p.progress n).kept (map (seen meaning) (part p.stride n old))) from_front (h.records n line)

  module _ (tick : ℕ) (look : Look V) (seen_here : Evaluated meaning (machine_of system p) a system (gate_of_line p.circuit n).kind (gate_of_line p.circuit n).reads (a.front n) goal look) (in_range : goal + (gate_of_line p.circuit n).delay ≤ last_tick) (at : tick ≡ min (a.front n + (gate_of_line p.circuit n).delay) last_tick) where
    shown_here : meaning look.value ≡ value (machine_of system p) a n (a.front n + (gate_of_line p.circuit n).delay)
    shown_here =
        seen_here.shown
        ∙ sym (one_delay_later system p.circuit wired (p.stride - 1) a n a_gate (a.front n) ∙ ap (λ ms. gate_function system (gate_of_line p.circuit n).kind (map (λ m. value (machine_of system p) a m (a.front n)) ms)) (same_reads p.circuit n a_gate))

    below : a.front n < goal
    below = let later = seen_here.later in let within = seen_here.within in omega arith

    on_time : tick ≡ a.front n + (gate_of_line p.circuit n).delay
    on_time = let b = below in grind arith

    whole : length (part p.stride n old) ≡ suc (p.stride - 1)
    whole = let range = gate_range p.circuit n a_gate in omega (arith, part_length p.stride (lines p.circuit) n old (omega (arith, range.0)) range.1 holds)

    whole_new : length (part p.stride n new) ≡ suc (p.stride - 1)
    whole_new = let range = gate_range p.circuit n a_gate in omega (arith, part_length p.stride (lines p.circuit) n new (omega (arith, range.0)) range.1 (let h = holds in omega (arith, there.same_length)))

    written : (result : Option ℕ) → unwrap_or result (p.progress n).kept < p.stride → RecordedIn Alike (p.progress n).kept (record { tick = tick; value = look.value }) (part p.stride n old) result (part p.stride n new) → ToldOn meaning Alike compared (machine_of system p) system.start a n (a.front n + (gate_of_line p.circuit n).delay) look.value shown_here (omega arith) (part p.stride n old) (part p.stride n new) result
    written result fits recorded =
        told_on meaning Alike compared (machine_of system p) system.start a n (a.front n + (gate_of_line p.circuit n).delay) look.value shown_here (omega arith) (p.progress n).kept (part p.stride n old) told (omega (arith, whole)) (part p.stride n new) whole whole_new result (omega (arith, whole_new))
        (subst (λ t. RecordedIn Alike (p.progress n).kept (record { tick = t; value = look.value }) (part p.stride n old) result (part p.stride n new)) on_time recorded)

    -- where there is no room nothing is another
    stops : ToldOn meaning Alike compared (machine_of system p) system.start a n (a.front n + (gate_of_line p.circuit n).delay) look.value shown_here (omega arith) (part p.stride n old) (part p.stride n new) None → Stepped meaning system p a n goal p new false
    stops (ToldOn.stopped over same) =
        let some = gate_range p.circuit n a_gate in
        stopped over (subst (λ store. Shows meaning system p store a) (sym (same_store p.stride n old new (omega (arith, some.0)) there same)) h)

    -- else the front moves on
    goes_on : (k until : ℕ) → until ≡ look.until → ToldOn meaning Alike compared (machine_of system p) system.start a n (a.front n + (gate_of_line p.circuit n).delay) look.value shown_here (omega arith) (part p.stride n old) (part p.stride n new) (Some k) → Stepped meaning system p a n goal (moved p n (record { tick = until; kept = k })) new true
    goes_on k until is (ToldOn.on tells) =
        let later = seen_here.later in
        let within = seen_here.within in
        let x : Progress = record { tick = until; kept = k } in
        let t : Account M = taken a n until in
        let further : settled (topology p.circuit) t n ≡ until + (gate_of_line p.circuit n).delay = settled_gate (topology p.circuit) t n a_gate ∙ ap (λ f. f + (gate_of_line p.circuit n).delay) (put_here a.front n until) in
        let steady = steady_later system p.circuit wired (p.stride - 1) a n a_gate (a.front n) look.until (λ m read. seen_here.steady m (subst (λ ms. Contains ms m) (same_reads p.circuit n a_gate) read)) in
        let on : Tells (machine_of system p) system.start a n (until + (gate_of_line p.circuit n).delay) k (map (seen meaning) (part p.stride n new)) = tell_on (machine_of system p) system.start n (suc (a.front n + (gate_of_line p.circuit n).delay)) k (map (seen meaning) (part p.stride n new)) a (until + (gate_of_line p.circuit n).delay) (omega arith) (λ u from before. steady u from (omega arith)) tells in
        onward (omega arith) (omega arith)
        (shows_moved meaning system p old new a t n x h line there
        (record {
          ends = λ an_input. absurd (not_both (topology p.circuit) n an_input a_gate);
          fronts = λ is. sym (put_here a.front n until);
          records = subst (λ to. Tells (machine_of system p) system.start t n to k (map (seen meaning) (part p.stride n new))) (sym further) (record { ticks = on.ticks; changes = on.changes; count = on.count; shown = on.shown; spare = on.spare });
        })
        (others_stay meaning system p a n a_gate old new until x h line there))

    pub step_stops : (result : Option ℕ) → result ≡ None → unwrap_or result (p.progress n).kept < p.stride → RecordedIn Alike (p.progress n).kept (record { tick = tick; value = look.value }) (part p.stride n old) result (part p.stride n new) → Stepped meaning system p a n goal p new false
    step_stops result is fits recorded = stops (subst (ToldOn meaning Alike compared (machine_of system p) system.start a n (a.front n + (gate_of_line p.circuit n).delay) look.value shown_here (omega arith) (part p.stride n old) (part p.stride n new)) is (written result fits recorded))

    pub step_goes_on : (result : Option ℕ) (k until : ℕ) → result ≡ Some k → until ≡ look.until → unwrap_or result (p.progress n).kept < p.stride → RecordedIn Alike (p.progress n).kept (record { tick = tick; value = look.value }) (part p.stride n old) result (part p.stride n new) → Stepped meaning system p a n goal (moved p n (record { tick = until; kept = k })) new true
    step_goes_on result k until is same fits recorded = goes_on k until same (subst (ToldOn meaning Alike compared (machine_of system p) system.start a n (a.front n + (gate_of_line p.circuit n).delay) look.value shown_here (omega arith) (part p.stride n old) (part p.stride n new)) is (written result fits recorded))

-- what was seen of a row that holds a line's gate was seen of the line
pub seen_of_line : {V M : Type 0} (meaning : V → M) (s : Machine M) (system : System M) (a : Account M) (c : Circuit) (n goal : ℕ) (look : Look V) (gate : Gate) (front : ℕ) → gate ≡ gate_of_line c n → front ≡ a.front n → Evaluated meaning s a system gate.kind gate.reads front goal look → Evaluated meaning s a system (gate_of_line c n).kind (gate_of_line c n).reads (a.front n) goal look
seen_of_line meaning s system a c n goal look gate front its at seen_here =
    subst (λ f. Evaluated meaning s a system (gate_of_line c n).kind (gate_of_line c n).reads f goal look) at (subst (λ (g : Gate). Evaluated meaning s a system g.kind g.reads front goal look) its seen_here)

-- the lines that a row reads are those that its line's gate reads
pub read_of_line : (c : Circuit) (n : ℕ) (a_gate : IsGate (topology c) n) (gate : Gate) → gate ≡ gate_of_line c n → (m : ℕ) → Contains gate.reads m → Contains (reads c n) m
read_of_line c n a_gate gate its m read = subst (λ ms. Contains ms m) (sym (same_reads c n a_gate)) (subst (λ (g : Gate). Contains g.reads m) its read)
