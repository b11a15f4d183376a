-- A netlist is simulated in a session that was just made.
use Rattle.std.proofs.Common.{◌≡◌, ℕ, ◌+◌, ◌-◌, ◌/◌, ◌^◌, ◌<◌, ◌≤◌, List, length, get_or, take, replicate, Result, refl, ap, ◌∙◌, subst, ⊎_elim, arith}
use mathlib.Core.Path.{ap₂}
use Rattle.std.proofs.Math.Nat.{div-le_self}
use Rattle.std.proofs.lemmas.Bool.{cases_lt}
use Rattle.std.proofs.lemmas.List.{get_or-replicate, get_or_past, get_or-take, length-replicate, length-take}
use Rattle.deck.specs.Faults.{Told, fault_row}
use Rattle.engine.specs.Answers.{Making}
use Rattle.engine.specs.Sessions.{Fresh, Made, KeepsItsOwn, lines_of, netlist_of, given}
use Rattle.engine.specs.declared.session.Session.{Session}
use Rattle.engine.specs.Lines.{room}
use Rattle.engine.proofs.Books.{sure, bounded, of_line}
use Rattle.engine.proofs.Runs.{same_machine, takes_of}
use Rattle.events.specs.declared.record.EventRecord.{EventRecord}
use Rattle.netlist.specs.Gates.{Circuit}
use Rattle.semantics.specs.Accounts.{Account}
use Rattle.semantics.specs.Circuits.{lines}
use Rattle.semantics.specs.CircuitMachine.{machine}
use Rattle.semantics.specs.Comparisons.{Alike}
use Rattle.semantics.specs.Logs.{Takes, Run, Ending, Log}
use Rattle.semantics.specs.Machines.{Machine}
use Rattle.semantics.specs.Moves.{made, Rest}
use Rattle.semantics.proofs.Proved.{kept_changes_fit, settled_is_the_distance}
use Rattle.values.specs.Knowledge.{three_valued}
use Rattle.values.specs.declared.ternary.Ternary.{Ternary}
use Rattle.values.specs.declared.ternary.Ternary.TheVariants.{X}
use Rattle.listing.specs.Listers.{machine_in, StandsFor, IsSessionOf}
use Rattle.listing.specs.Given.{Whole, FirstFault}
use Rattle.listing.proofs.Changing.{some_rows}
use Rattle.listing.proofs.Outputs.{outputs_are_lines, some_text}
use Rattle.listing.specs.Listings.{unknown, deck_records, RowsOf, Simulated}

-- takes give nothing
takes_alike : (s : Machine Ternary) {k : ℕ} {a b : Account Ternary} → Takes s k a b → Alike s a b
takes_alike s Takes.none = record { starts = λ n an_input. refl; ends = λ n an_input. refl; waveforms = λ n t an_input before. refl; trims = refl }
takes_alike s (Takes.one_more first can rest) = let on = takes_alike s rest in record { starts = on.starts; ends = on.ends; waveforms = on.waveforms; trims = on.trims }

pub run_alike : (s : Machine Ternary) {most count : ℕ} {ending : Ending} {a b : Account Ternary} → Run s most a b count ending → Alike s a b
run_alike s run = takes_alike s (takes_of s run)

pub ready_on : (c : Circuit) (s t : Session Ternary) → IsSessionOf c s → KeepsItsOwn s t → IsSessionOf c t
ready_on c s t ready keeps = record {
  circuit = keeps.keeps.circuit ∙ ready.circuit;
  same = same_machine three_valued (lines_of s) (lines_of t) s.store.now t.store.now keeps.keeps ∙ ready.same;
}

pub few_changes : (c : Circuit) (s : Session Ternary) → IsSessionOf c s → (machine_in s).room < 10 ^ 4
few_changes c s ready = let most : 4096 / lines c ≤ 4096 = div-le_self 4096 (lines c) in let room : (machine_in s).room ≡ 4096 / lines c - 1 = ap (λ (m : Machine Ternary). m.room) ready.same in omega arith

-- whatever stands in part of a list of equal elements is that element
all_one : {A : Type 0} (k m i : ℕ) (x : A) → get_or (take k (replicate m x)) i x ≡ x
all_one k m i x = ⊎_elim (λ within. get_or-take k (replicate m x) i x within ∙ whole) (λ past. get_or_past (take k (replicate m x)) i x (let long = length-take k (replicate m x) in omega arith)) (cases_lt i k)
  where
    whole : get_or (replicate m x) i x ≡ x
    whole = ⊎_elim (λ within. get_or-replicate m i x x within) (λ past. get_or_past (replicate m x) i x (let long = length-replicate m x in omega arith)) (cases_lt i m)

module _ (c : Circuit) (some : 0 < lines c) (few : lines c ≤ 1024) (store : List (EventRecord Ternary)) (starts : List Ternary) (enough : length store ≡ 4096) (one_each : length starts ≡ c.inputs) (s : Session Ternary) where
  -- making is accepted
  fresh : (r : Result Unit ℕ) → Making c (length store) (length starts) r → Made (λ v. v) three_valued X c starts store s r → Fresh (λ v. v) three_valued X c starts store s
  fresh _ (Making.no_lines none) m = absurd (omega arith)
  fresh _ (Making.few_records there short) m = absurd (omega arith)
  fresh _ (Making.other_starts there records other) m = absurd (other one_each)
  fresh _ (Making.accepted there records each) (Made.accepted is) = is

  pub opened : (r : Result Unit ℕ) → Making c (length store) (length starts) r → Made (λ v. v) three_valued X c starts store s r → IsSessionOf c s
  opened r making m =
      let is = fresh r making m in
      let stride : (lines_of s).stride ≡ 4096 / lines c = is.stride ∙ ap (λ n. n / lines c) enough in
      record { circuit = is.circuit; same = ap₂ (λ d k. machine three_valued d (k - 1)) is.circuit stride }

  pub begins_unknown : (inputs : ℕ) → starts ≡ take inputs (replicate 256 X) → (r : Result Unit ℕ) → Making c (length store) (length starts) r → Made (λ v. v) three_valued X c starts store s r → StandsFor s unknown
  begins_unknown inputs are r making m =
      let at_first : (n : ℕ) → given (λ v. v) X starts n ≡ X = λ n. ap (λ l. get_or l (n - 1) X) are ∙ all_one inputs 256 (n - 1) X in
      let same : made (given (λ v. v) X starts) ≡ unknown = λ i. made (λ n. at_first n i) in
      subst (StandsFor s) same (fresh r making m).stands

module _ (c : Circuit) (s : Session Ternary) (is : IsSessionOf c s) (stimulus : List ℕ) where
  pub faulty_so : (first : ℕ) (f : Told) → first ≡ deck_records c + 1 → FirstFault (machine_in s) unknown (lines (lines_of s).circuit) first stimulus f → Simulated c (deck_records c + 1) stimulus (fault_row f)
  faulty_so first f counted fault =
      Simulated.faulty
      (subst (λ m. FirstFault m unknown (lines c) (deck_records c + 1) stimulus f) is.same (subst (λ d. FirstFault (machine_in s) unknown (lines d) (deck_records c + 1) stimulus f) is.circuit (subst (λ n. FirstFault (machine_in s) unknown (lines (lines_of s).circuit) n stimulus f) counted fault)))
      refl

  -- what was given was run to rest, and the outputs were listed
  pub outputs_so : (t : Session Ternary) → IsSessionOf c t → (given rest : Account Ternary) (most count : ℕ) (ending : Ending) → Whole (machine_in s) unknown stimulus given → Run (machine_in t) most given rest count ending → Log (machine_in t) rest → Rest (machine_in t) rest → (text : List ℕ) → RowsOf (machine_in t) rest (lines_of t).circuit.outputs text → Simulated c (deck_records c + 1) stimulus text
  outputs_so t there given rest most count ending whole run log rests text rows =
      Simulated.outputs (subst (λ m. Whole m unknown stimulus given) is.same whole) (subst (λ m. Log m rest) there.same log) (subst (λ m. Alike m given rest) there.same (run_alike (machine_in t) run)) (subst (λ m. Rest m rest) there.same rests)
      (subst (λ m. RowsOf m rest c.outputs text) there.same (subst (λ (d : Circuit). RowsOf (machine_in t) rest d.outputs text) there.circuit rows))

-- at rest the outputs have a text
pub text_at_rest : (c : Circuit) (t : Session Ternary) → IsSessionOf c t → (a : Account Ternary) → StandsFor t a → Rest (machine_in t) a → (text : List ℕ) × RowsOf (machine_in t) a (lines_of t).circuit.outputs text
text_at_rest c t is a stands rests =
    let p = lines_of t in
    let sure_of = sure t.lines in
    some_text (machine_in t) a p.circuit.outputs (outputs_are_lines (netlist_of t)) (λ n line.
    let range = of_line p n line in
    let early = bounded (λ v. v) three_valued p t.store.now a sure_of stands n in
    some_rows (machine_in t) a n (settled_is_the_distance three_valued p.circuit (room p) sure_of.wired a stands.log rests n line) (omega (arith, range.1, sure_of.few)) (omega (arith, early))
    ((kept_changes_fit three_valued p.circuit (room p) sure_of.wired a stands.log).in_room n) (few_changes c t is))
