-- The lines that a netlist's outputs name, and their rows.
use Rattle.std.proofs.Common.{◌≡◌, ℕ, ◌+◌, ◌<◌, ◌≤◌, true, List, [], ◌∷◌, ◌++◌, length, get_or, drop, Option, Some, refl, sym, ap, ◌∙◌, subst, arith}
use Rattle.std.proofs.lemmas.List.{drop_more}
use Rattle.std.specs.Io.KnownBytes.{Appends}
use Rattle.std.proofs.ByRecursion.{All-get_or}
use Rattle.std.specs.Int.{is_in_range}
use Rattle.std.specs.List.{AllByRecursion}
use Rattle.std.proofs.lemmas.Bool.{and_parts}
use Rattle.engine.specs.Sessions.{lines_of, netlist_of}
use Rattle.engine.specs.declared.session.Session.{Session}
use Rattle.netlist.specs.Closed.{circuit, Output}
use Rattle.netlist.specs.declared.closed.Netlist.{Netlist}
use Rattle.netlist.proofs.Ranges.{bounds}
use Rattle.netlist.proofs.Rewriting.{count_gates}
use Rattle.semantics.specs.Accounts.{Account}
use Rattle.netlist.specs.Gates.{Circuit, on_lines}
use Rattle.semantics.specs.Circuits.{lines, topology}
use Rattle.semantics.proofs.Wiring.{a_line}
use Rattle.semantics.specs.Machines.{Machine, IsLine}
use Rattle.values.specs.declared.ternary.Ternary.{Ternary}
use Rattle.listing.specs.Listers.{machine_in}
use Rattle.listing.specs.Listings.{LineRows, RowsOf}

-- a text of which a part was put into a sink; what is left has the rows of these lines
pub record Begun {S : Type 0} (contents : S → Option (List ℕ)) (s : Machine Ternary) (a : Account Ternary) (old now : S) (text : List ℕ) (ns : List ℕ) : Type 0 where
  pub done : List ℕ
  pub left : List ℕ
  pub split : text ≡ done ++ left
  pub took : Appends (contents old) (contents now) done
  pub rows : RowsOf s a ns left

module _ (s : Machine Ternary) (a : Account Ternary) where
  -- the rows of the first of some lines, and those of the others
  pub record First (n : ℕ) (ns text : List ℕ) : Type 0 where
    pub rows : List ℕ
    pub line : LineRows s a n rows
    pub others : List ℕ
    pub left : RowsOf s a ns others
    pub is : text ≡ rows ++ others

  first_of : (n : ℕ) (ns : List ℕ) {text : List ℕ} → RowsOf s a (n ∷ ns) text → First n ns text
  first_of n ns (RowsOf.next {rows = rows} {text = text} line left) = record { rows = rows; line = line; others = text; left = left; is = refl }

  next_line : (ns : List ℕ) (place n : ℕ) (text : List ℕ) → place < length ns → get_or ns place 0 ≡ n → RowsOf s a (drop place ns) text → First n (drop (place + 1) ns) text
  next_line ns place n text within is rows =
      first_of n (drop (place + 1) ns) (subst (λ ms. RowsOf s a ms text) (drop_more ns place 0 within ∙ ap (λ m. m ∷ drop (place + 1) ns) is) rows)

  -- where there are no lines, there is no text
  pub none_left : {ns text : List ℕ} → RowsOf s a ns text → length ns ≡ 0 → text ≡ []
  none_left RowsOf.none none = refl
  none_left (RowsOf.next {ns = ns} line left) none = absurd (omega arith)

  -- lines of which each has rows have a text
  pub some_text : (ns : List ℕ) → AllByRecursion (IsLine s.topology) ns → ((n : ℕ) → IsLine s.topology n → (rows : List ℕ) × LineRows s a n rows) → (text : List ℕ) × RowsOf s a ns text
  some_text [] all each = ([], RowsOf.none)
  some_text (n ∷ ns) all each =
      let first = each n all.0 in
      let others = some_text ns all.1 each in
      (first.0 ++ others.0, RowsOf.next first.1 others.1)

-- each of some numbers is that of a line
pub all_lines : (c : Circuit) (ns : List ℕ) → on_lines (lines c) ns ≡ true → AllByRecursion (IsLine (topology c)) ns
all_lines c [] on = tt
all_lines c (n ∷ ns) on =
    let parts = and_parts (is_in_range 1 (lines c) n) (on_lines (lines c) ns) on in
    let range = bounds 1 (lines c) n parts.0 in
    (a_line c n range.0 range.1, all_lines c ns parts.1)

-- the outputs of a netlist are lines
pub outputs_are_lines : (n : Netlist) → AllByRecursion (IsLine (topology (circuit n))) (circuit n).outputs
outputs_are_lines n = all_lines (circuit n) (circuit n).outputs (subst (λ k. on_lines (n.size.inputs + k) (circuit n).outputs ≡ true) (sym (count_gates n)) n.ends_on_lines)

pub few_lines : (n : Netlist) → lines (circuit n) ≤ 1024
few_lines n = let inputs = n.places.few_inputs in let gates = n.places.few_gates in omega (arith, count_gates n)

-- the line that an output names, and its rows
pub next_output : (t : Session Ternary) (a : Account Ternary) (place line : ℕ) (text : List ℕ) → Output (circuit (netlist_of t)) place (Some line) → RowsOf (machine_in t) a (drop place (lines_of t).circuit.outputs) text → IsLine (machine_in t).topology line × First (machine_in t) a line (drop (place + 1) (lines_of t).circuit.outputs) text
next_output t a place line text output rows =
    (subst (IsLine (machine_in t).topology) output.1 (All-get_or (IsLine (machine_in t).topology) (lines_of t).circuit.outputs place 0 output.0 (outputs_are_lines (netlist_of t))), next_line (machine_in t) a (lines_of t).circuit.outputs place line text output.0 output.1 rows)
