-- What is known of lines that stand for an account.
use Rattle.std.proofs.Common.{◌≡◌, ℕ, suc, ◌-◌, ◌<◌, ◌≤◌, cond, ltb, min, List, [], ◌∷◌, length, map, refl, ap, sym, ◌∙◌, subst, ⊎_elim, arith, Contains}
use mathlib.Core.Path.{ap₂}
use Rattle.std.specs.Prelude.{fold}
use Rattle.std.proofs.lemmas.Bool.{lt-ltb, le-ltb, cond-true, cond-false}
use Rattle.events.specs.declared.record.EventRecord.{EventRecord}
use Rattle.netlist.specs.Judging.{AllReached}
use Rattle.netlist.specs.Walks.{reads}
use Rattle.netlist.proofs.Rewriting.{count_gates}
use Rattle.semantics.specs.Accounts.{Account, settled, goal, least}
use Rattle.netlist.specs.Gates.{Circuit}
use Rattle.semantics.specs.Circuits.{lines, topology, gate_of_line, Wired}
use Rattle.semantics.specs.Laws.{InOrder}
use Rattle.semantics.specs.Machines.{IsGate, IsLine}
use Rattle.semantics.proofs.Closed.{wired, all_reached}
use Rattle.semantics.proofs.Goals.{settled_input, settled_gate, goal_attained}
use Rattle.semantics.proofs.Proved.{logs_are_in_order, settled_times_are_bounded}
use Rattle.semantics.proofs.Wiring.{a_line, line_range, gate_range, input_range, gate_reads, sound}
use Rattle.values.specs.Systems.{System}
use Rattle.engine.specs.declared.lines.Lines.{Lines}
use Rattle.engine.specs.Lines.{Panel, panel}
use Rattle.engine.specs.Panels.{settled_in, last_tick}
use Rattle.engine.specs.Standing.{machine_of, Shows, Stands}

-- what holds of the lines of every session
pub record Sure (p : Panel) : Type 0 where
  pub wired : Wired p.circuit
  pub reached : AllReached p.circuit
  pub few : lines p.circuit ≤ 1024

pub sure : (l : Lines) → Sure (panel l)
sure l = record {
  wired = wired l.netlist;
  reached = all_reached l.netlist;
  few = let inputs = l.netlist.places.few_inputs in let gates = l.netlist.places.few_gates in omega (arith, count_gates l.netlist);
}

-- the same is told of the lines of a list
pub same_each : {X : Type 0} (f g : ℕ → X) (ms : List ℕ) → ((m : ℕ) → Contains ms m → f m ≡ g m) → map f ms ≡ map g ms
same_each f g [] same = refl
same_each f g (m ∷ ms) same = ap₂ ◌∷◌ (same m (0, omega arith, refl)) (same_each f g ms (λ k among. same k (suc among.0, omega (arith, among.1), among.2)))

-- the least of some ticks that can all be told
told_least : (most : ℕ) (f : ℕ → ℕ) (ms : List ℕ) → 0 < length ms → ((m : ℕ) → Contains ms m → f m ≤ most) → fold min most (map f ms) ≡ least (map f ms)
told_least most f [] some within = absurd (omega arith)
told_least most f (m ∷ ms) some within = let first = within m (0, omega arith, refl) in let less : min most (f m) ≡ f m = grind arith in ap (λ t. fold min t (map f ms)) less

module _ {V M : Type 0} (meaning : V → M) (system : System M) (p : Panel) (store : List (EventRecord V)) (a : Account M) where
  -- settled times are as told
  pub settled_told : Shows meaning system p store a → (m : ℕ) → IsLine (topology p.circuit) m → settled_in p m ≡ settled (topology p.circuit) a m
  settled_told h m line = ⊎_elim
      (λ an_input.
      let range = input_range p.circuit m an_input in
      let none : cond (ltb p.circuit.inputs m) (gate_of_line p.circuit m).delay 0 ≡ 0 = cond-false (ltb p.circuit.inputs m) _ _ (le-ltb p.circuit.inputs m (omega (arith, range.1))) in
      omega (arith, none, h.ends m an_input, settled_input (topology p.circuit) a m an_input))
      (λ a_gate.
      let range = gate_range p.circuit m a_gate in
      let lag : cond (ltb p.circuit.inputs m) (gate_of_line p.circuit m).delay 0 ≡ (gate_of_line p.circuit m).delay = cond-true (ltb p.circuit.inputs m) _ _ (lt-ltb p.circuit.inputs m (omega (arith, range.0))) in
      omega (arith, lag, h.fronts m a_gate, settled_gate (topology p.circuit) a m a_gate))
      line

  module _ (is : Sure p) (h : Stands meaning system p store a) where
    pub in_order : InOrder (machine_of system p) a
    in_order = logs_are_in_order system p.circuit (p.stride - 1) is.wired a h.log

    -- settled times can be told, and one delay more
    pub bounded : (m : ℕ) → settled (topology p.circuit) a m ≤ 2067107840
    bounded m = let most = settled_times_are_bounded system p.circuit (p.stride - 1) is.wired is.reached a h.log m in let few = is.few in omega arith

    pub goal_in_range : (n : ℕ) → IsGate (topology p.circuit) n → goal (topology p.circuit) a n ≤ 2067107840
    goal_in_range n a_gate = let found = goal_attained (topology p.circuit) a n (sound p.circuit is.wired) a_gate in let b = bounded found.line in omega (arith, found.is)

    -- a goal is as told
    pub goal_told : (n : ℕ) → IsGate (topology p.circuit) n → (ms : List ℕ) → reads p.circuit n ≡ ms → fold min last_tick (map (settled_in p) ms) ≡ goal (topology p.circuit) a n
    goal_told n a_gate ms same =
        ap (fold min last_tick) (same_each (settled_in p) (settled (topology p.circuit) a) ms (λ m read. settled_told h.shows m ((sound p.circuit is.wired).reads_lines n m a_gate (subst (λ ns. Contains ns m) (sym same) read))))
        ∙ (told_least last_tick (settled (topology p.circuit) a) ms (subst (λ ns. 0 < length ns) same (gate_reads p.circuit is.wired n a_gate)) (λ m read. let b = bounded m in omega arith)
        ∙ ap (λ ns. least (map (settled (topology p.circuit) a) ns)) (sym same))

    -- settled times are told exactly
    pub settled_exact : (m : ℕ) → IsLine (topology p.circuit) m → min (settled_in p m) last_tick ≡ settled (topology p.circuit) a m
    settled_exact m line = let b = bounded m in let e = settled_told h.shows m line in let small : settled (topology p.circuit) a m ≤ last_tick = omega arith in ap (λ t. min t last_tick) e ∙ whole (settled (topology p.circuit) a m) small
      where
        whole : (t : ℕ) → t ≤ last_tick → min t last_tick ≡ t
        whole t small = grind arith

    -- every line is settled to the trim tick at least
    pub trim_reached : (m : ℕ) → IsLine (topology p.circuit) m → a.trim ≤ settled (topology p.circuit) a m
    trim_reached m line = ⊎_elim (λ an_input. let r = in_order.trim_within_ends m an_input in omega (arith, settled_input (topology p.circuit) a m an_input)) (λ a_gate. let r = in_order.trim_within_fronts m a_gate in omega (arith, settled_gate (topology p.circuit) a m a_gate)) line

-- what a test whether there is such a line tells
pub line_of : (p : Panel) (n : ℕ) → (0 < n) × (n ≤ lines p.circuit) → IsLine (topology p.circuit) n
line_of p n range = a_line p.circuit n range.0 range.1

-- lines are numbered from 1
pub positive : (c : Circuit) (n : ℕ) → IsLine (topology c) n → 0 < n
positive c n line = ⊎_elim (λ an_input. let r = input_range c n an_input in omega (arith, r.0)) (λ a_gate. let r = gate_range c n a_gate in omega (arith, r.0)) line

pub of_line : (p : Panel) (n : ℕ) → IsLine (topology p.circuit) n → (0 < n) × (n ≤ lines p.circuit)
of_line p n line = (positive p.circuit n line, line_range p.circuit n line)
