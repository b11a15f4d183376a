-- What stays where a row of a closed netlist is replaced by one of the same gate with the same mark.
use Rattle.std.proofs.Common.{◌≡◌, ℕ, suc, ◌+◌, ◌-◌, ◌<◌, ◌≤◌, Bool, ltb, List, length, take, get_or, set, ap, sym, ◌∙◌, ⊎_elim, arith}
use Rattle.std.proofs.lemmas.Bool.{cases_lt, lt-ltb, le-ltb, cond-true, cond-false}
use Rattle.std.proofs.lemmas.List.{length-map, length-take-le, get_or_past}
use Rattle.std.proofs.Math.ListN.{get_or-map}
use Rattle.std.proofs.Math.Seq.{map-set_same}
use Rattle.netlist.specs.declared.size.Size.{Size}
use Rattle.netlist.specs.declared.closed.Netlist.{Netlist}
use Rattle.netlist.specs.Closed.{circuit, progress_of}
use Rattle.netlist.specs.GateRow.{MarkedGate, empty, at_start}
use Rattle.netlist.specs.Rows.{gate_of, circuit_of}
use Rattle.netlist.proofs.Closing.{same_gates}

is_looped : MarkedGate → Bool
is_looped row = row.looped

pub same_marks : (rows : List MarkedGate) (k : ℕ) (row old : MarkedGate) → row.looped ≡ (get_or rows k old).looped → (j : ℕ) → (get_or (set rows k row) j empty).looped ≡ (get_or rows j empty).looped
unfolding is_looped
same_marks rows k row old same j =
    sym (get_or-map is_looped (set rows k row) j empty) ∙ (ap (λ marks. get_or marks j (is_looped empty)) (map-set_same is_looped rows k row old same) ∙ get_or-map is_looped rows j empty)

pub same_circuit : (size : Size) (rows : List MarkedGate) (ends : List ℕ) (k : ℕ) (row old : MarkedGate) → row.gate ≡ (get_or rows k old).gate → circuit_of size (set rows k row) ends ≡ circuit_of size rows ends
same_circuit size rows ends k row old same =
    ap (λ gates. record (circuit_of size rows ends) { gates = gates }) (same_gates size.gates rows k row old same)

pub count_gates : (n : Netlist) → length (circuit n).gates ≡ n.size.gates
count_gates n = length-map (take n.size.gates n.rows) gate_of ∙ length-take-le n.size.gates n.rows (let few = n.places.few_gates in omega (arith, n.table))

-- lines that are no gate's count as not moved
pub not_moved : (n : Netlist) (line : ℕ) → (n.size.inputs < line → n.size.inputs + n.size.gates < line) → progress_of n line ≡ at_start
not_moved n line outside = ⊎_elim beyond within (cases_lt n.size.inputs line)
  where
    within : line ≤ n.size.inputs → progress_of n line ≡ at_start
    within low = cond-false (ltb n.size.inputs line) _ _ (le-ltb n.size.inputs line low)

    beyond : n.size.inputs < line → progress_of n line ≡ at_start
    beyond high =
        cond-true (ltb n.size.inputs line) _ _ (lt-ltb n.size.inputs line high)
        ∙ ap (λ (r : MarkedGate). r.progress) (get_or_past (take n.size.gates n.rows) (line - suc n.size.inputs) empty (let past = outside high in omega (arith, length-take-le n.size.gates n.rows (let few = n.places.few_gates in omega (arith, n.table)))))

-- the lines up to some gate's are told to be at the start
pub record Rewound (before : Netlist) (place : ℕ) (now : Netlist) : Type 0 where
  pub same : circuit now ≡ circuit before
  pub told : (n : ℕ) → n < before.size.inputs + 1 + place → progress_of now n ≡ at_start
