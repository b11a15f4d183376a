-- The topology of a wired circuit is sound.
use Rattle.std.proofs.Common.{◌≡◌, ℕ, zero, suc, ◌-◌, ◌<◌, ◌≤◌, Bool, true, false, cond, ltb, ◌&&◌, [], ◌∷◌, length, get_or, refl, ap, sym, ◌∙◌, subst, inl, inr, ⊎_elim, arith}
use Rattle.std.proofs.lemmas.Bool.{ltb-true, ltb-false, lt-ltb, le-ltb, and_parts, cases_lt}
use Rattle.std.proofs.lemmas.List.Sums.{AllPass-from_list_all}
use Rattle.netlist.specs.Gates.{Circuit, legal, fits, delay_fits, on_lines}
use Rattle.netlist.specs.Walks.{no_gate, reads, Reads}
use Rattle.netlist.proofs.Ranges.{bounds, count_fits}
use Rattle.netlist.proofs.Reading.{reads_at_gate, read_bounds}
use Rattle.semantics.specs.Machines.{IsInput, IsGate, IsLine, ReadsFrom}
use Rattle.semantics.specs.Machines.Driver.{undriven, input, gate}
use Rattle.semantics.specs.Circuits.{lines, gate_of_line, topology, Wired}
use Rattle.semantics.proofs.Locality.{Sound}

when_gate : (x y : Bool) → cond x input (cond y gate undriven) ≡ gate → (x ≡ false) × (y ≡ true)
when_gate true y is = cc
when_gate false true is = (refl, refl)
when_gate false false is = cc

when_input : (x y : Bool) → cond x input (cond y gate undriven) ≡ input → x ≡ true
when_input true y is = refl
when_input false true is = cc
when_input false false is = cc

pub gate_range : (c : Circuit) (n : ℕ) → IsGate (topology c) n → (c.inputs < n) × (n ≤ lines c)
gate_range c zero is = cc
gate_range c (suc k) is =
    let tests = when_gate (ltb k c.inputs) (ltb k (lines c)) is in
    let past = ltb-false k c.inputs tests.0 in
    let within = ltb-true k (lines c) tests.1 in
    (omega arith, omega arith)

pub gate_below : (c : Circuit) (n : ℕ) → IsGate (topology c) n → n < suc (lines c)
gate_below c n is = let range = gate_range c n is in omega (arith, range.1)

pub input_range : (c : Circuit) (n : ℕ) → IsInput (topology c) n → (1 ≤ n) × (n ≤ c.inputs)
input_range c zero is = cc
input_range c (suc k) is = let within = ltb-true k c.inputs (when_input (ltb k c.inputs) (ltb k (lines c)) is) in (omega arith, omega arith)

-- all numbers from 1 to that of lines are lines
pub a_line : (c : Circuit) (n : ℕ) → 1 ≤ n → n ≤ lines c → IsLine (topology c) n
a_line c zero low high = absurd (omega arith)
a_line c (suc k) low high = ⊎_elim (λ below. inl (ap (λ b. cond b input (cond (ltb k (lines c)) gate undriven)) (lt-ltb k c.inputs below)))
    (λ past. inr (ap (λ b. cond b input (cond (ltb k (lines c)) gate undriven)) (le-ltb k c.inputs past) ∙ ap (λ b. cond b gate undriven) (lt-ltb k (lines c) (omega arith))))
    (cases_lt k c.inputs)

pub line_range : (c : Circuit) (n : ℕ) → IsLine (topology c) n → n ≤ lines c
line_range c n line = ⊎_elim (λ an_input. let r = input_range c n an_input in omega (arith, r.1)) (λ a_gate. (gate_range c n a_gate).1) line

pub reads_of : (c : Circuit) (n m : ℕ) → ReadsFrom (topology c) n m → Reads c n m
reads_of c n m read = record { place = read.0; within = read.1; is = read_at (reads c n) read.0 m read.1 read.2 }
  where
    read_at : (ms : _) (k m : ℕ) → k < length ms → get_or ms k m ≡ m → get_or ms k 0 ≡ m
    read_at [] k m within is = absurd (omega arith)
    read_at (j ∷ js) zero m within is = is
    read_at (j ∷ js) (suc k) m within is = read_at js k m (omega arith) is

module _ (c : Circuit) (wired : Wired c) (n : ℕ) (a_gate : IsGate (topology c) n) where
  its_gate : legal (lines c) (gate_of_line c n) ≡ true
  its_gate = let range = gate_range c n a_gate in AllPass-from_list_all (legal (lines c)) c.gates wired (n - suc c.inputs) no_gate (omega arith)

  its_parts : (delay_fits (gate_of_line c n).delay ≡ true) × (fits (gate_of_line c n).kind (length (gate_of_line c n).reads) ≡ true)
  its_parts =
      let g = gate_of_line c n in
      let parts = and_parts (delay_fits g.delay && on_lines (lines c) g.reads) (fits g.kind (length g.reads)) its_gate in
      ((and_parts (delay_fits g.delay) (on_lines (lines c) g.reads) parts.0).0, parts.1)

  pub gate_time : 0 < (gate_of_line c n).delay
  gate_time = let b = bounds 1 65535 (gate_of_line c n).delay its_parts.0 in omega (arith, b.0)

  pub gate_delay : (gate_of_line c n).delay ≤ 65535
  gate_delay = (bounds 1 65535 (gate_of_line c n).delay its_parts.0).1

  reads_count : (0 < length (reads c n)) × (length (reads c n) ≤ 4)
  reads_count =
      let range = gate_range c n a_gate in
      let is = reads_at_gate c n (n - suc c.inputs) (omega arith) in
      subst (λ ms. (0 < length ms) × (length ms ≤ 4)) (sym is) (count_fits (gate_of_line c n).kind (length (gate_of_line c n).reads) its_parts.1)

  pub gate_reads : 0 < length (reads c n)
  gate_reads = reads_count.0

  pub gate_reads_few : length (reads c n) ≤ 4
  gate_reads_few = reads_count.1

  pub read_line : (m : ℕ) → Reads c n m → IsLine (topology c) m
  read_line m read = let b = read_bounds c (lines c) n m wired read in a_line c m b.0 b.1

pub sound : (c : Circuit) → Wired c → Sound (topology c)
sound c wired = record {
  takes_time = gate_time c wired;
  reads_some = gate_reads c wired;
  reads_lines = λ n m a_gate read. read_line c wired n a_gate m (reads_of c n m read);
}
