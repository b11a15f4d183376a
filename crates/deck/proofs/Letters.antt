-- The letter of a record is tested first, against the letter that is expected.
use Rattle.std.proofs.Common.{◌≡◌, ℕ, suc, ◌+◌, List, [], ◌∷◌, length, get_or, Result, sym, refl, ap, ◌∙◌, subst, add-one}
use Rattle.std.proofs.lemmas.Result.{MatchResult-weaker}
use Rattle.deck.specs.Faults.{told}
use Rattle.deck.specs.Progress.{Expected, header_next, input_next, gate_next, output_next, end_next, nothing_next, expected, rows}
use Rattle.deck.specs.Readers.{progress_of, Answers}
use Rattle.deck.specs.Records.{Failed, fields_tests}
use Rattle.deck.specs.Tests.{Test, letter, out_of_order, tests, Passes, fault_of}
use Rattle.deck.specs.declared.entry.Entry.{Entry}
use Rattle.deck.specs.declared.fault.Fault.{Fault}
use Rattle.deck.specs.declared.reader.DeckReader.{DeckReader}
use Rattle.deck.proofs.Failing.{failed_one, failed_after}

abbrev pub letter_of : Expected → Test
letter_of header_next = letter 78
letter_of (input_next n) = letter 73
letter_of (gate_next n m) = letter 71
letter_of (output_next m) = letter 79
letter_of end_next = letter 69
letter_of nothing_next = out_of_order

letter_first : (e : Expected) (n : ℕ) → letter_of e ∷ fields_tests e n ≡ tests e n
letter_first header_next n = refl
letter_first (input_next m) n = refl
letter_first (gate_next m k) n = refl
letter_first (output_next m) n = refl
letter_first end_next n = refl
letter_first nothing_next n = refl

letter_fault : (e : Expected) (at : ℕ) → fault_of at (letter_of e) ≡ record { number = 2; layer = 82; at = at; column = 1 }
letter_fault header_next at = refl
letter_fault (input_next m) at = refl
letter_fault (gate_next m k) at = refl
letter_fault (output_next m) at = refl
letter_fault end_next at = refl
letter_fault nothing_next at = refl

-- no letter passes in an empty record
pub none_empty : (e : Expected) → Passes [] (letter_of e) → ⊥
none_empty header_next (fs, is) = cc
none_empty (input_next m) (fs, is) = cc
none_empty (gate_next m k) (fs, is) = cc
none_empty (output_next m) (fs, is) = cc
none_empty end_next (fs, is) = cc
none_empty nothing_next never = never

pub wrong_letter : (e : Expected) (r : List ℕ) (at n : ℕ) (f : Fault) → (Passes r (letter_of e) → ⊥) → told f ≡ record { number = 2; layer = 82; at = at; column = 1 } → Failed r at (tests e n) f
wrong_letter e r at n f out is =
    subst (λ ts. Failed r at ts f) (letter_first e n) (failed_one r at (letter_of e) _ f (record { fails = out; is = is ∙ sym (letter_fault e at) }))

-- a record that begins with another byte
pub other_byte : (r : List ℕ) (b : ℕ) → (get_or r 0 0 ≡ b → ⊥) → Passes r (letter b) → ⊥
other_byte r b other (fs, is) = other (ap (λ l. get_or l 0 0) is)

right_letter : (e : Expected) (r : List ℕ) (at n : ℕ) (f : Fault) → Passes r (letter_of e) → Failed r at (fields_tests e n) f → Failed r at (tests e n) f
right_letter e r at n f pass bad = subst (λ ts. Failed r at ts f) (letter_first e n) (failed_after r at (letter_of e) _ f pass bad)

-- the number of the record
pub numbered : (d : DeckReader) → d.records + 1 ≡ suc (length (rows (progress_of d)))
numbered d = add-one d.records ∙ ap suc d.counted

-- what a row's own reader answers, as the answer for the whole record
pub by_letter : (d t : DeckReader) (bytes fields : List ℕ) (b : ℕ) (x : Result Entry Fault) → bytes ≡ get_or bytes 0 0 ∷ fields → get_or bytes 0 0 ≡ b → letter_of (expected (progress_of d)) ≡ letter b → Answers d t (get_or bytes 0 0 ∷ fields) (d.records + 1) fields_tests x → Answers d t bytes (suc (length (rows (progress_of d)))) tests x
by_letter d t bytes fields b x split begins expects answered =
    let pass : Passes bytes (letter_of (expected (progress_of d))) = subst (Passes bytes) (sym expects) (fields, split ∙ ap (λ c. c ∷ fields) begins) in
    let there = subst (λ n. Answers d t bytes n fields_tests x) (numbered d) (subst (λ r. Answers d t r (d.records + 1) fields_tests x) (sym split) answered) in
    MatchResult-weaker x there (λ e took. took) (λ f bad. (right_letter (expected (progress_of d)) bytes _ _ f pass bad.0, bad.1))
