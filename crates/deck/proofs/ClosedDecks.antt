-- Reading and closing comes to one outcome, which the draft's judging decides.
use Rattle.std.proofs.Common.{◌≡◌, ℕ, zero, suc, ◌+◌, ◌-◌, ◌<◌, ◌≤◌, true, false, List, [], ◌∷◌, ◌++◌, length, get_or, Ok, Err, Result, sym, refl, ap, ◌∙◌, subst, ⊎_elim, arith}
use Rattle.std.proofs.lemmas.List.{length-append, get_or_append_left, get_or-append_right}
use Rattle.std.proofs.lemmas.Bool.{both_ways, cases_order}
use Rattle.netlist.specs.Drafts.{Sheet, complete, dead}
use Rattle.netlist.specs.Gates.{Gate, Circuit, nothing}
use Rattle.netlist.specs.Judging.{AllReached, LowestFree, Judged}
use Rattle.netlist.specs.Judging.Judged.{missing, free, sound}
use Rattle.netlist.specs.Walks.{no_gate}
use Rattle.deck.specs.Closing.{Sound, FreeFault, Refused, unread, unreached, ClosedOutcome, Passed}
use Rattle.deck.specs.Faults.{Told}
use Rattle.deck.specs.Outcomes.{Deck, Answer, used, fault, answer_of, Outcome}
use Rattle.deck.specs.Progress.{rows, over}
use Rattle.deck.specs.Rows.{gate, end, input_rows, gate_rows, output_rows}
use Rattle.deck.specs.declared.fault.Fault.{Fault}
use Rattle.deck.proofs.Taking.{length-input_rows, length-gate_rows}
use Rattle.deck.proofs.Unique.{deck_no_fault, outcome_unique}

gate_row_at : (n : ℕ) (gs : List Gate) (k : ℕ) → k < length gs → get_or (gate_rows n gs) k end ≡ gate (n + k) (get_or gs k no_gate)
gate_row_at n [] k within = absurd (omega arith)
gate_row_at n (g ∷ gs) zero within = ap (λ m. gate m g) (omega arith)
gate_row_at n (g ∷ gs) (suc k) within = gate_row_at (suc n) gs k (omega arith) ∙ ap (λ m. gate m (get_or gs k no_gate)) (omega arith)

-- the row of a gate's line stands after as many rows as the line's number
pub row_of_line : (s : Sheet) (line : ℕ) → s.circuit.inputs < line → line ≤ s.circuit.inputs + length s.circuit.gates → get_or (rows (over s)) line end ≡ gate line (get_or s.circuit.gates (line - suc s.circuit.inputs) no_gate)
row_of_line s line past within =
    let i = s.circuit.inputs in
    let is = input_rows i in
    let gs = gate_rows (suc i) s.circuit.gates in
    let os = output_rows s.circuit.outputs in
    let k = line - suc i in
    let long = length-input_rows i in
    let gates = length-gate_rows (suc i) s.circuit.gates in
    let both = length-append gs os in
    let all = length-append is (gs ++ os) in
    let at : line ≡ suc (i + k) = omega arith in
    let back : suc i + k ≡ line = omega arith in
    let place : i + k - i ≡ k = omega arith in
    ap (λ n. get_or (rows (over s)) n end) at
    ∙ get_or_append_left (is ++ (gs ++ os)) (end ∷ []) end (i + k) (omega arith)
    ∙ get_or-append_right is (gs ++ os) i (i + k) end long (omega arith)
    ∙ ap (λ n. get_or (gs ++ os) n end) place
    ∙ get_or_append_left gs os end k (omega arith)
    ∙ gate_row_at (suc i) s.circuit.gates k (omega arith)
    ∙ ap (λ n. gate n (get_or s.circuit.gates k no_gate)) back

-- what judging answers, by what is known of the draft
pub judged_open : (s : Sheet) (n : ℕ) → complete s ≡ false → Judged s n → n ≡ 0 → ⊥
judged_open s n open' (missing is e) zero' = omega arith
judged_open s n open' (free is e m low) zero' = omega arith
judged_open s n open' (sound is e all) zero' = both_ways (complete s) open' e

below_all : (c : Circuit) (m : ℕ) → LowestFree c m → AllReached c → ⊥
below_all c m low all = low.free (all m low.past_inputs (omega (arith, low.a_line)))

pub judged_reached : (s : Sheet) (n : ℕ) → complete s ≡ true → AllReached s.circuit → Judged s n → n ≡ 0
judged_reached s n whole all (missing is e) = absurd (both_ways (complete s) e whole)
judged_reached s n whole all (free is e m low) = absurd (below_all s.circuit m low all)
judged_reached s n whole all (sound is e reached) = is

pub judged_free : (s : Sheet) (n m : ℕ) → LowestFree s.circuit m → Judged s n → n ≡ 0 → ⊥
judged_free s n m low (missing is e) zero' = omega arith
judged_free s n m low (free is e k other) zero' = omega arith
judged_free s n m low (sound is e all) zero' = below_all s.circuit m low all

lowest_one : (c : Circuit) (m n : ℕ) → LowestFree c m → LowestFree c n → m ≡ n
lowest_one c m n a b =
    ⊎_elim (λ e. e) (λ apart. ⊎_elim (λ less. absurd (a.free (b.lower_reached m a.past_inputs less))) (λ more. absurd (b.free (a.lower_reached n b.past_inputs more))) apart)
    (cases_order m n)

free_one : (c d : Circuit) (f g : Told) → c ≡ d → FreeFault c f → FreeFault d g → f ≡ g
free_one c d f g same a b =
    let b' = subst (λ x. FreeFault x g) (sym same) b in
    a.is ∙ ap (λ n. record { number = 9; layer = 78; at = suc n; column = 1 }) (lowest_one c a.line b'.line a.free b'.free) ∙ sym b'.is

drafts_one : (bytes : List ℕ) (m n : ℕ) (s t : Sheet) → Deck bytes m s → Deck bytes n t → (m ≡ n) × (s ≡ t)
drafts_one bytes m n s t a b =
    let same = outcome_unique bytes (used m) (used n) s t a b in
    let count : m ≡ n = let e = same.0 in cc in
    (count, same.1)

refused_one : (bytes : List ℕ) (f g : Told) → Refused bytes f → Refused bytes g → f ≡ g
refused_one bytes f g (unread a) (unread b) =
    let same = (outcome_unique bytes (fault f) (fault g) dead dead (a, refl) (b, refl)).0 in
    cc
refused_one bytes f g (unread a) (unreached b) = absurd (deck_no_fault bytes b.count b.draft f b.deck a)
refused_one bytes f g (unreached a) (unread b) = absurd (deck_no_fault bytes a.count a.draft g a.deck b)
refused_one bytes f g (unreached a) (unreached b) =
    free_one _ _ f g (ap (λ (s : Sheet). s.circuit) (drafts_one bytes _ _ _ _ a.deck b.deck).1) a.fault b.fault

sound_refused : (bytes : List ℕ) (n : ℕ) (c : Circuit) (f : Told) → Sound bytes n c → Refused bytes f → ⊥
sound_refused bytes n c f a (unread b) = deck_no_fault bytes n a.draft f a.deck b
sound_refused bytes n c f a (unreached b) =
    let same = ap (λ (s : Sheet). s.circuit) (drafts_one bytes _ _ _ _ a.deck b.deck).1 in
    below_all b.draft.circuit b.fault.line b.fault.free (subst AllReached (a.same ∙ same) a.reached)

pub closed_unique : (bytes : List ℕ) (a b : Answer) (c d : Circuit) → ClosedOutcome bytes a c → ClosedOutcome bytes b d → (a ≡ b) × (c ≡ d)
closed_unique bytes (used m) (used n) c d x y =
    let same = drafts_one bytes m n x.draft y.draft x.deck y.deck in
    (ap used same.0, x.same ∙ ap (λ (s : Sheet). s.circuit) same.1 ∙ sym y.same)
closed_unique bytes (used m) (fault g) c d x y = absurd (sound_refused bytes m c g x y.0)
closed_unique bytes (fault f) (used n) c d x y = absurd (sound_refused bytes n d f y x.0)
closed_unique bytes (fault f) (fault g) c d x y = (ap fault (refused_one bytes f g x.0 y.0), x.1 ∙ sym y.1)

-- from what was read, what was checked and what closing gave
pub closes : (bytes : List ℕ) (o r : Result ℕ Fault) (s : Sheet) (n : ℕ) (c : Circuit) → Outcome bytes (answer_of o) s → Passed o s.circuit r → Judged s n → (n ≡ 0 → c ≡ s.circuit) → ((n ≡ 0 → ⊥) → c ≡ nothing) → ClosedOutcome bytes (answer_of r) c
closes bytes (Err f) r s n c read passed judged kept emptied =
    subst (λ x. ClosedOutcome bytes (answer_of x) c) (sym passed) (unread read.0, emptied (judged_open s n (ap complete read.1) judged))
closes bytes (Ok m) (Ok k) s n c read passed judged kept emptied =
    let whole = kept (judged_reached s n read.whole.all_there passed.1 judged) in
    record { draft = s; deck = subst (λ x. Deck bytes x s) (sym passed.0) read; reached = subst AllReached (sym whole) passed.1; same = whole }
closes bytes (Ok m) (Err f) s n c read passed judged kept emptied = (
  unreached (record { count = m; draft = s; deck = read; fault = passed; its_gate = _; its_record = row_of_line s passed.line passed.free.past_inputs passed.free.a_line }),
  emptied (judged_free s n passed.line passed.free judged),
)
