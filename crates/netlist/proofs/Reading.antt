-- The lines that a line reads.
use Rattle.std.proofs.Common.{◌≡◌, ℕ, suc, ◌+◌, ◌-◌, ◌<◌, ◌≤◌, true, ◌&&◌, ltb, ◌⊎◌, [], length, get_or, sym, ap, ◌∙◌, ⊎_elim, arith}
use Rattle.std.proofs.lemmas.List.{get_or_past}
use Rattle.std.proofs.lemmas.List.Sums.{AllPass-from_list_all}
use Rattle.std.proofs.lemmas.Bool.{lt-ltb, le-ltb, cond-true, cond-false, cases_lt, and_parts}
use Rattle.std.specs.List.{list_all}
use Rattle.std.specs.Int.{is_in_range}
use Rattle.netlist.specs.Gates.{Gate, Circuit, legal, on_lines, delay_fits}
use Rattle.netlist.specs.Walks.{reads, no_gate, Reads, Walk, Looped}
use Rattle.netlist.specs.Walks.Walk.{step, on}
use Rattle.netlist.proofs.Ranges.{bounds}

pub reads_at_input : (c : Circuit) (n : ℕ) → n ≤ c.inputs → reads c n ≡ []
reads_at_input c n below = cond-false (ltb c.inputs n) _ _ (le-ltb c.inputs n below)

-- the gate at place k drives the line that is k past the first after the inputs
pub reads_at_gate : (c : Circuit) (n k : ℕ) → n ≡ c.inputs + 1 + k → reads c n ≡ (get_or c.gates k no_gate).reads
reads_at_gate c n k is =
    let place : n - suc c.inputs ≡ k = omega arith in
    cond-true (ltb c.inputs n) _ _ (lt-ltb c.inputs n (omega arith)) ∙ ap (λ j. (get_or c.gates j no_gate).reads) place

pub reads_past : (c : Circuit) (n : ℕ) → c.inputs + length c.gates < n → reads c n ≡ []
reads_past c n above =
    let k = n - c.inputs - 1 in
    let past : length c.gates ≤ k = omega arith in
    reads_at_gate c n k (omega arith) ∙ ap (λ (g : Gate). g.reads) (get_or_past c.gates k no_gate past)

-- a line that no gate drives reads nothing, and no walk leads to it
pub reads_nothing : (c : Circuit) (n : ℕ) → (n ≤ c.inputs) ⊎ (c.inputs + length c.gates < n) → reads c n ≡ []
reads_nothing c n none = ⊎_elim (reads_at_input c n) (reads_past c n) none

pub no_walk : (c : Circuit) (m n : ℕ) → reads c n ≡ [] → Walk c m n → ⊥
no_walk c m n none (step read) = omega (arith, read.within, ap length none)
no_walk c m n none (on {j = j} read walk) = no_walk c j n none walk

pub not_looped : (c : Circuit) (n : ℕ) → (n ≤ c.inputs) ⊎ (c.inputs + length c.gates < n) → Looped c n → ⊥
not_looped c n none walk = no_walk c n n (reads_nothing c n none) walk

-- where all gates are legal, every line reads lines only
pub reads_on_lines : (c : Circuit) (lines n : ℕ) → list_all (legal lines) c.gates ≡ true → on_lines lines (reads c n) ≡ true
reads_on_lines c lines n all =
    ⊎_elim (λ high. ap (on_lines lines) (reads_at_gate c n (n - c.inputs - 1) (omega arith)) ∙ at_gate (n - c.inputs - 1)) (λ low. ap (on_lines lines) (reads_at_input c n low))
    (cases_lt c.inputs n)
  where
    at_gate : (k : ℕ) → on_lines lines (get_or c.gates k no_gate).reads ≡ true
    at_gate k =
        ⊎_elim (λ within. let g = get_or c.gates k no_gate in (and_parts (delay_fits g.delay) _ (and_parts (delay_fits g.delay && on_lines lines g.reads) _ (AllPass-from_list_all (legal lines) c.gates all k no_gate within)).0).1)
        (λ past. ap (λ (g : Gate). on_lines lines g.reads) (get_or_past c.gates k no_gate past)) (cases_lt k (length c.gates))

pub read_bounds : (c : Circuit) (lines n m : ℕ) → list_all (legal lines) c.gates ≡ true → Reads c n m → (1 ≤ m) × (m ≤ lines)
read_bounds c lines n m all read =
    bounds 1 lines m (ap (is_in_range 1 lines) (sym read.is) ∙ AllPass-from_list_all (is_in_range 1 lines) (reads c n) (reads_on_lines c lines n all) read.place 0 read.within)
