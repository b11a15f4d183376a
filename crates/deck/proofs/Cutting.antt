-- Fields cut from the left: a text whose columns are known is those columns, one after the other.
use Rattle.std.proofs.Common.{◌≡◌, ℕ, suc, ◌+◌, ◌-◌, ◌*◌, ◌/◌, ◌<◌, ◌≤◌, true, false, eqb, List, [], ◌∷◌, ◌++◌, length, get_or, take, drop, Decides, sym, refl, ap, ◌∙◌, subst, ⊎_elim, arith, take-append-drop}
use Rattle.std.specs.List.{flat_map, HoldsAt}
use Rattle.std.proofs.lemmas.List.{drop-drop, append_assoc}
use Rattle.std.proofs.lemmas.Bool.{and_from, eqb-true, or_cases, false≢true}
use Rattle.std.proofs.lemmas.Bool.Decides.{Decides-by_or, Decides-like, Decides-eqb}
use Rattle.std.specs.Int.{is_in_range}
use Rattle.netlist.specs.Gates.{on_lines}
use Rattle.columns.specs.Spelling.{spelled}
use Rattle.deck.specs.Tests.{has}

pub cut : (fs x : List ℕ) (k w : ℕ) → take w (drop k fs) ≡ x → drop k fs ≡ x ++ drop (k + w) fs
cut fs x k w e = sym (take-append-drop w (drop k fs)) ∙ ap (λ l. l ++ drop w (drop k fs)) e ∙ ap (λ l. x ++ l) (drop-drop w k fs)

-- numbers of four columns each, from place k on
pub cut_joined : (fs ns : List ℕ) (k : ℕ) → ((i : ℕ) → i < length ns → take 4 (drop (k + 4 * i) fs) ≡ spelled 4 (get_or ns i 0)) → drop k fs ≡ flat_map (spelled 4) ns ++ drop (k + 4 * length ns) fs
cut_joined fs [] k each = ap (λ j. drop j fs) (omega arith)
cut_joined fs (n ∷ ns) k each =
    let here : k + 4 * 0 ≡ k = omega arith in
    let past : k + 4 + 4 * length ns ≡ k + 4 * suc (length ns) = omega arith in
    let first = cut fs (spelled 4 n) k 4 (subst (λ j. take 4 (drop j fs) ≡ spelled 4 n) here (each 0 (omega arith))) in
    let rest = cut_joined fs ns (k + 4) (λ i below. let on : k + 4 * suc i ≡ k + 4 + 4 * i = omega arith in subst (λ j. take 4 (drop j fs) ≡ spelled 4 (get_or ns i 0)) on (each (suc i) (omega arith))) in
    first ∙ ap (λ l. spelled 4 n ++ l) (rest ∙ ap (λ j. flat_map (spelled 4) ns ++ drop j fs) past) ∙ sym (append_assoc (spelled 4 n) (flat_map (spelled 4) ns) _)

pub has_one : (n m : ℕ) → has n (m ∷ []) ≡ true → n ≡ m
has_one n m e = ⊎_elim (λ same. eqb-true n m same) (λ none. absurd (false≢true none)) (or_cases (eqb n m) false e)

pub has_decides : (n : ℕ) (ms : List ℕ) → Decides (has n ms) ((k : ℕ) × (k < length ms) × HoldsAt (λ m. m ≡ n) ms k)
has_decides n ms =
    Decides-by_or (eqb n) (λ m. m ≡ n) (has n) (λ m. Decides-like (eqb n m) sym sym (Decides-eqb n m)) refl (λ _ _. refl) ms

-- the lengths of a gate's record, by the number of lines that the gate reads
pub gate_lengths : (n : ℕ) → has (suc n) (18 ∷ 22 ∷ 26 ∷ 30 ∷ []) ≡ true → (n ≡ 13 + 4 * ((n - 13) / 4)) × ((n - 13) / 4 ≤ 4)
gate_lengths n e =
    ⊎_elim (λ a. let h = eqb-true _ _ a in (omega arith, omega arith))
    (λ bcd. ⊎_elim (λ b. let h = eqb-true _ _ b in (omega arith, omega arith)) (λ cd. ⊎_elim (λ c. let h = eqb-true _ _ c in (omega arith, omega arith)) (λ d. let h = has_one _ 30 d in (omega arith, omega arith)) (or_cases (eqb (suc n) 26) (has (suc n) (30 ∷ [])) cd)) (or_cases (eqb (suc n) 22) (has (suc n) (26 ∷ 30 ∷ [])) bcd))
    (or_cases (eqb (suc n) 18) (has (suc n) (22 ∷ 26 ∷ 30 ∷ [])) e)

-- each of the numbers is a line
pub on_lines_of : (lines : ℕ) (ns : List ℕ) → ((i : ℕ) → i < length ns → is_in_range 1 lines (get_or ns i 0) ≡ true) → on_lines lines ns ≡ true
on_lines_of lines [] each = refl
on_lines_of lines (n ∷ ns) each = and_from _ _ (each 0 (omega arith)) (on_lines_of lines ns (λ i below. each (suc i) (omega arith)))
