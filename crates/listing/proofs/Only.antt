-- The listing is determined by its bytes: at alike rests the outputs have the same rows.
use Rattle.std.proofs.Common.{◌≡◌, ℕ, ◌+◌, ◌-◌, ◌/◌, ◌^◌, ◌<◌, ◌≤◌, true, ◌&&◌, eqb, ltb, List, [], ◌∷◌, ◌++◌, length, drop, sym, refl, ap, ◌∙◌, subst, arith}
use mathlib.Core.Path.{ap₂}
use Rattle.std.specs.List.{flat_map, list_all, AllByRecursion}
use Rattle.std.proofs.lemmas.Bool.{and_parts, eqb-true}
use Rattle.deck.specs.Closing.{Sound, Refused}
use Rattle.deck.specs.Faults.{Told, fault_row}
use Rattle.deck.specs.Outcomes.{Answer, used, fault}
use Rattle.deck.proofs.ClosedDecks.{closed_unique}
use Rattle.deck.proofs.Following.{limited}
use Rattle.netlist.specs.Gates.{Circuit, nothing, legal, on_lines}
use Rattle.semantics.specs.Accounts.{Account, value}
use Rattle.semantics.specs.Changes.{Changes}
use Rattle.semantics.specs.Circuits.{lines, topology, Wired}
use Rattle.semantics.specs.Comparisons.{Alike, Agree}
use Rattle.semantics.specs.Machines.{Machine, IsLine, IsInput}
use Rattle.semantics.proofs.Listing.{one_list}
use Rattle.semantics.proofs.Proved.{alike_rests_agree}
use Rattle.semantics.proofs.Wiring.{input_range}
use Rattle.values.specs.Knowledge.{three_valued}
use Rattle.values.specs.declared.ternary.Ternary.{Ternary}
use Rattle.listing.specs.Listings.{lister_machine, unknown, LineRows, RowsOf, Simulated, deck_records, Listing, change_rows}
use Rattle.listing.specs.Rows.{line_row, change_row}
use Rattle.listing.proofs.Outputs.{all_lines}
use Rattle.listing.proofs.Unique.{whole_one, fault_one, whole_no_fault}

-- rows of changes below a tick are the same where they are alike below it
alike_rows : {S : ℕ → Type 0} {to from : ℕ} {ts : List ℕ} (f g : ℕ → List ℕ) → ((t : ℕ) → t < to → f t ≡ g t) → Changes S to from ts → flat_map f ts ≡ flat_map g ts
alike_rows f g same (Changes.none stable) = refl
alike_rows f g same (Changes.next {t = t} low high stable changes rest) = ap₂ ◌++◌ (same t high) (alike_rows f g same rest)

module _ (s : Machine Ternary) (a b : Account Ternary) (agree : Agree s a b) where
  line_one : (n : ℕ) (rows others : List ℕ) → IsLine s.topology n → LineRows s a n rows → LineRows s b n others → rows ≡ others
  line_one n rows others line r q =
      let ticks : r.ticks ≡ q.ticks = one_list (agree.kept_changes n r.ticks line r.kept) q.kept in
      let to = agree.settled_times n line in
      let changes : change_rows s a n r.ticks ≡ change_rows s b n r.ticks = alike_rows (λ t. change_row t (value s a n t)) (λ t. change_row t (value s b n t)) (λ t below. ap (change_row t) (agree.values n t line below)) r.kept in
      r.are ∙ ap₂ ◌++◌ (ap₂ (λ x ts. line_row n x (length ts)) to ticks) (changes ∙ ap (change_rows s b n) ticks) ∙ sym q.are

  rows_one : (ns : List ℕ) → AllByRecursion (IsLine s.topology) ns → {text other : List ℕ} → RowsOf s a ns text → RowsOf s b ns other → text ≡ other
  rows_one [] all RowsOf.none RowsOf.none = refl
  rows_one (n ∷ ns) all (RowsOf.next {rows = x} r rs) (RowsOf.next {rows = y} q qs) = ap₂ ◌++◌ (line_one n x y all.0 r q) (rows_one ns all.1 rs qs)

-- two accounts that are alike with one are alike
alike_both : (s : Machine Ternary) (given a b : Account Ternary) → Alike s given a → Alike s given b → Alike s a b
alike_both s given a b left right = record {
  starts = λ n an_input. sym (left.starts n an_input) ∙ right.starts n an_input;
  ends = λ n an_input. sym (left.ends n an_input) ∙ right.ends n an_input;
  waveforms = λ n t an_input before. let early = subst (λ e. t < e) (sym (left.ends n an_input)) before in sym (left.waveforms n t an_input early) ∙ right.waveforms n t an_input early;
  trims = sym left.trims ∙ right.trims;
}

module _ (c : Circuit) (wired : Wired c) (on : on_lines (lines c) c.outputs ≡ true) (few : lines c < 10 ^ 4) (first : ℕ) (stimulus : List ℕ) where
  inputs_are_lines : (n : ℕ) → IsInput (topology c) n → (1 ≤ n) × (n ≤ lines c)
  inputs_are_lines n an_input = let range = input_range c n an_input in (omega (arith, range.0), omega (arith, range.1))

  simulated_one : (text other : List ℕ) → Simulated c first stimulus text → Simulated c first stimulus other → text ≡ other
  simulated_one text other (Simulated.outputs {given = given} {rest = a} whole log alike rests rows) (Simulated.outputs {given = given'} {rest = b} whole' log' alike' rests' rows') =
      let same : given ≡ given' = whole_one (lister_machine c) (lines c) few inputs_are_lines unknown given given' stimulus whole whole' in
      let both = alike_both (lister_machine c) given a b alike (subst (λ d. Alike (lister_machine c) d b) (sym same) alike') in
      rows_one (lister_machine c) a b (alike_rests_agree three_valued c (4096 / lines c - 1) wired a b log log' rests rests' both) c.outputs (all_lines c c.outputs on) rows rows'
  simulated_one text other (Simulated.outputs {given = given} whole log alike rests rows) (Simulated.faulty {f = f} bad is) = absurd (whole_no_fault (lister_machine c) (lines c) few inputs_are_lines unknown given first stimulus f whole bad)
  simulated_one text other (Simulated.faulty {f = f} bad is) (Simulated.outputs {given = given} whole log alike rests rows) = absurd (whole_no_fault (lister_machine c) (lines c) few inputs_are_lines unknown given first stimulus f whole bad)
  simulated_one text other (Simulated.faulty {f = f} bad is) (Simulated.faulty {f = g} bad' is') = is ∙ ap fault_row (fault_one (lister_machine c) (lines c) few inputs_are_lines unknown first stimulus f g bad bad') ∙ sym is'

-- what is known of the circuit of a deck
record Known (c : Circuit) : Type 0 where
  wired : Wired c
  on : on_lines (lines c) c.outputs ≡ true
  few : lines c < 10 ^ 4

known : (bytes : List ℕ) (n : ℕ) (c : Circuit) → Sound bytes n c → Known c
known bytes n c sound =
    let s = sound.draft in
    let begun = sound.deck.whole.begun in
    let gates = and_parts (ltb 0 s.gates) (eqb (length s.circuit.gates) s.gates) (and_parts (ltb 0 s.gates && eqb (length s.circuit.gates) s.gates) (eqb (length s.circuit.outputs) s.outputs) sound.deck.whole.all_there).0 in
    let count : s.gates ≡ length s.circuit.gates = sym (eqb-true _ _ gates.1) in
    let size = limited s.circuit.inputs s.gates s.outputs begun.limits in
    subst Known (sym sound.same) (record {
      wired = subst (λ k. list_all (legal (s.circuit.inputs + k)) s.circuit.gates ≡ true) count begun.gates_legal;
      on = subst (λ k. on_lines (s.circuit.inputs + k) s.circuit.outputs ≡ true) count begun.outputs_on_lines;
      few = omega (arith, count, size.inputs.1, size.gates.1);
    })

fault_of : Answer → Told → Told
fault_of (used n) f = f
fault_of (fault g) f = g

count_of : Answer → ℕ
count_of (used n) = n
count_of (fault g) = 0

module _ (bytes : List ℕ) where
  one_refused : (f g : Told) → Refused bytes f → Refused bytes g → f ≡ g
  unfolding fault_of
  one_refused f g r q = ap (λ x. fault_of x f) (closed_unique bytes (fault f) (fault g) nothing nothing (r, refl) (q, refl)).0

  sound_or_refused : (n : ℕ) (c : Circuit) (f : Told) → Sound bytes n c → Refused bytes f → ⊥
  sound_or_refused n c f sound r = let same = (closed_unique bytes (used n) (fault f) c nothing sound (r, refl)).0 in cc

  both_simulated : (n m : ℕ) (c d : Circuit) (text other : List ℕ) → Sound bytes n c → Sound bytes m d → Simulated c (deck_records c + 1) (drop n bytes) text → Simulated d (deck_records d + 1) (drop m bytes) other → text ≡ other
  unfolding count_of
  both_simulated n m c d text other sound sound' simulated simulated' =
      let k = known bytes n c sound in
      let same = closed_unique bytes (used n) (used m) c d sound sound' in
      let there = subst (λ x. Simulated x (deck_records x + 1) (drop n bytes) other) (sym same.1) (subst (λ x. Simulated d (deck_records d + 1) (drop x bytes) other) (sym (ap count_of same.0)) simulated') in
      simulated_one c k.wired k.on k.few (deck_records c + 1) (drop n bytes) text other simulated there

  pub listing_one : (text other : List ℕ) → Listing bytes text → Listing bytes other → text ≡ other
  listing_one text other (Listing.refused {f = f} r is) (Listing.refused {f = g} q is') = is ∙ ap fault_row (one_refused f g r q) ∙ sym is'
  listing_one text other (Listing.refused {f = f} r is) (Listing.simulated {used = n} {c = c} sound simulated) = absurd (sound_or_refused n c f sound r)
  listing_one text other (Listing.simulated {used = n} {c = c} sound simulated) (Listing.refused {f = f} r is) = absurd (sound_or_refused n c f sound r)
  listing_one text other (Listing.simulated {used = n} {c = c} sound simulated) (Listing.simulated {used = m} {c = d} sound' simulated') = both_simulated n m c d text other sound sound' simulated simulated'
