-- How the looped gates of a draft come to be marked.
use Rattle.std.proofs.Common.{◌≡◌, ℕ, ◌+◌, ◌<◌, Bool, true, false, List, length, get_or, set, take, sym, ap, ◌∙◌, subst, ⊎_elim, arith, below_more}
use Rattle.std.proofs.lemmas.Bool.{cases_Bool}
use Rattle.std.proofs.lemmas.List.{get_or-set_same, get_or-set_other, take-map}
use Rattle.std.proofs.Math.Seq.{map-set_same}
use Rattle.netlist.specs.declared.draft.Draft.{Draft}
use Rattle.netlist.specs.Drafts.{sheet}
use Rattle.netlist.specs.GateRow.{MarkedGate, empty}
use Rattle.netlist.specs.Gates.{Circuit}
use Rattle.netlist.specs.Rows.{gate_of, gates_of}
use Rattle.netlist.specs.Walks.{Walk, Leads, Looped}

-- a row that stands for the same gate as the one it replaces leaves the gates as they were
pub same_gates : (n : ℕ) (rows : List MarkedGate) (k : ℕ) (row old : MarkedGate) → row.gate ≡ (get_or rows k old).gate → gates_of n (set rows k row) ≡ gates_of n rows
same_gates n rows k row old same =
    sym (take-map gate_of n (set rows k row)) ∙ ap (take n) (map-set_same gate_of rows k row old same) ∙ take-map gate_of n rows

-- of the first rows, just those whose line leads back to itself are marked as looped
pub record Marks (c : Circuit) (inputs : ℕ) (rows : List MarkedGate) (n : ℕ) : Type 0 where
  pub looped : (k : ℕ) → k < n → (get_or rows k empty).looped ≡ true → Looped c (inputs + 1 + k)
  pub marked : (k : ℕ) → k < n → Looped c (inputs + 1 + k) → (get_or rows k empty).looped ≡ true

pub marks_more : (c : Circuit) (inputs : ℕ) (rows : List MarkedGate) (n : ℕ) (row : MarkedGate) → n < length rows → (row.looped ≡ true → Looped c (inputs + 1 + n)) → (Looped c (inputs + 1 + n) → row.looped ≡ true) → Marks c inputs rows n → Marks c inputs (set rows n row) (n + 1)
marks_more c inputs rows n row within back all so_far = record {
  looped = below_more _ n (λ k below e. so_far.looped k below (sym (kept k below) ∙ e)) (λ e. back (sym here ∙ e));
  marked = below_more _ n (λ k below walk. kept k below ∙ so_far.marked k below walk) (λ walk. here ∙ all walk);
}
  where
    kept : (k : ℕ) → k < n → (get_or (set rows n row) k empty).looped ≡ (get_or rows k empty).looped
    kept k below = ap (λ (r : MarkedGate). r.looped) (get_or-set_other rows n k row empty (omega arith))

    here : (get_or (set rows n row) n empty).looped ≡ row.looped
    here = ap (λ (r : MarkedGate). r.looped) (get_or-set_same rows n row empty within)

-- the draft as before, with its first gates marked
pub record Marking (before : Draft) (n : ℕ) (now : Draft) : Type 0 where
  pub drawn : now.drawn ≡ before.drawn
  pub same : sheet now ≡ sheet before
  pub marks : Marks (sheet before).circuit now.size.inputs now.rows n

-- a line is looped just where a search for walks from itself finds one
pub from_itself : (c : Circuit) (n : ℕ) → Leads c n n n → Looped c n
from_itself c n lead =
    let same : lead.from ≡ n = omega arith in
    subst (λ m. Walk c m n) same lead.walk

pub found_looped : (c : Circuit) (n : ℕ) (found : Bool) → (found ≡ false → Leads c n n n → ⊥) → Looped c n → found ≡ true
found_looped c n found none walk =
    ⊎_elim (λ e. e) (λ e. absurd (none e (record { from = n; not_before = omega arith; not_after = omega arith; walk = walk }))) (cases_Bool found)
