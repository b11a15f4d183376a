use Rattle.std.proofs.Common.{◌≡◌, ℕ, suc, ◌+◌, ◌<◌, List, [], length, get_or, refl, ap, ◌∙◌, subst, arith, rules}
use Rattle.std.proofs.lemmas.List.{nil_from_length}
use Rattle.std.proofs.lemmas.Slice.{first_rest}
use Rattle.deck.specs.Faults.{told}
use Rattle.netlist.specs.Drafts.{sheet}
use Rattle.deck.specs.Phases.{progress}
use Rattle.deck.specs.Progress.{rows, expected}
use Rattle.deck.specs.Readers.{progress_of}
use Rattle.deck.specs.Tests.{letter, out_of_order, Passes, tests}
use Rattle.deck.specs.Records.{Failed}
use Rattle.deck.specs.declared.fault.Fault.{Fault}
use Rattle.deck.specs.declared.phase.Phase.TheVariants.{Header, Inputs, Gates, Outputs, End, Done}
use Rattle.deck.specs.declared.reader.DeckReader.{DeckReader}
use Rattle.deck.proofs.Letters.{letter_of, none_empty, wrong_letter, other_byte, numbered, by_letter}
use Rattle.deck.proofs.Readers.{few_records, reader_expects_input, reader_expects_gate, reader_expects_output, reader_expects_end}
use Rattle.deck.proofs.reader.DeckReader.take_record.Goals as goal
use Rattle.deck.proofs.reader.DeckReader.take_record.Goals.{in_default-2-via-in-Header+in_default, in_default-2-via-in-Inputs+in_default, in_default-2-via-in-Gates+in_default, in_default-2-via-in-Outputs+in_default, in_default-2-via-in-End+in_default, in_default-2-via-in_default}

-- the letter that each phase expects
header_letter : (d : DeckReader) → d.phase ≡ Header → letter_of (expected (progress_of d)) ≡ letter 78
header_letter d e = ap (λ p. letter_of (expected (progress p (sheet d.draft)))) e

input_letter : (d : DeckReader) (told : ℕ) → d.phase ≡ Inputs told → letter_of (expected (progress_of d)) ≡ letter 73
input_letter d told e = ap letter_of (reader_expects_input d told e)

gate_letter : (d : DeckReader) → d.phase ≡ Gates → letter_of (expected (progress_of d)) ≡ letter 71
gate_letter d e = ap letter_of (reader_expects_gate d e)

output_letter : (d : DeckReader) → d.phase ≡ Outputs → letter_of (expected (progress_of d)) ≡ letter 79
output_letter d e = ap letter_of (reader_expects_output d e)

end_letter : (d : DeckReader) → d.phase ≡ End → letter_of (expected (progress_of d)) ≡ letter 69
end_letter d e = ap letter_of (reader_expects_end d e)

done_letter : (d : DeckReader) → d.phase ≡ Done → letter_of (expected (progress_of d)) ≡ out_of_order
done_letter d e = ap (λ p. letter_of (expected (progress p (sheet d.draft)))) e

pub overflow_add-source : goal.overflow_add-source
overflow_add-source c = omega (arith, few_records c.args.self.now)

pub returns-in_default : goal.returns-in_default
returns-in_default c =
    let d = c.args.self.now in
    let none : length c.args.bytes.now < 1 = search rules in
    let empty : c.args.bytes.now ≡ [] = nil_from_length _ (omega arith) in
    (wrong_letter (expected (progress_of d)) c.args.bytes.now _ _ _ (λ p. none_empty (expected (progress_of d)) (subst (λ r. Passes r (letter_of (expected (progress_of d)))) empty p)) (ap told c.fault.ensures ∙ ap (λ n. record { number = 2; layer = 82; at = n; column = 1 }) (numbered d)), refl)

pub returns-in-Header-eq78 : goal.returns-in-Header-eq78
returns-in-Header-eq78 c =
    let d = c.args.self.now in
    let some : 0 < length c.args.bytes.now = search rules in
    by_letter d c.header.new.self c.args.bytes.now _ 78 c.header.result (first_rest c.args.bytes.now 0 some) c.in-Header-eq78.is-1 (header_letter d c.in-Header-eq78.is-0) c.header.ensures

pub returns-in-Inputs-eq73 : goal.returns-in-Inputs-eq73
returns-in-Inputs-eq73 c =
    let d = c.args.self.now in
    let some : 0 < length c.args.bytes.now = search rules in
    by_letter d c.input.new.self c.args.bytes.now _ 73 c.input.result (first_rest c.args.bytes.now 0 some) c.in-Inputs-eq73.is-1 (input_letter d _ c.in-Inputs-eq73.is-0) c.input.ensures

pub returns-in-Gates-eq71 : goal.returns-in-Gates-eq71
returns-in-Gates-eq71 c =
    let d = c.args.self.now in
    let some : 0 < length c.args.bytes.now = search rules in
    by_letter d c.gate.new.self c.args.bytes.now _ 71 c.gate.result (first_rest c.args.bytes.now 0 some) c.in-Gates-eq71.is-1 (gate_letter d c.in-Gates-eq71.is-0) c.gate.ensures

pub returns-in-Outputs-eq79 : goal.returns-in-Outputs-eq79
returns-in-Outputs-eq79 c =
    let d = c.args.self.now in
    let some : 0 < length c.args.bytes.now = search rules in
    by_letter d c.output.new.self c.args.bytes.now _ 79 c.output.result (first_rest c.args.bytes.now 0 some) c.in-Outputs-eq79.is-1 (output_letter d c.in-Outputs-eq79.is-0) c.output.ensures

pub returns-in-End-eq69 : goal.returns-in-End-eq69
returns-in-End-eq69 c =
    let d = c.args.self.now in
    let some : 0 < length c.args.bytes.now = search rules in
    by_letter d c.end.new.self c.args.bytes.now _ 69 c.end.result (first_rest c.args.bytes.now 0 some) c.in-End-eq69.is-1 (end_letter d c.in-End-eq69.is-0) c.end.ensures

-- a record that begins with another letter than the phase expects
refused : (d : DeckReader) (bytes : List ℕ) (b n : ℕ) (f : Fault) → letter_of (expected (progress_of d)) ≡ letter b → (get_or bytes 0 0 ≡ b → ⊥) → told f ≡ record { number = 2; layer = 82; at = d.records + 1; column = 1 } → Failed bytes (suc (length (rows (progress_of d)))) (tests (expected (progress_of d)) n) f
refused d bytes b n f expects other is =
    wrong_letter (expected (progress_of d)) bytes _ n f (λ p. other_byte bytes b other (subst (Passes bytes) expects p)) (is ∙ ap (λ m. record { number = 2; layer = 82; at = m; column = 1 }) (numbered d))

pub returns-in_default-2 : goal.returns-in_default-2
returns-in_default-2 c =
    let d = c.args.self.now in
    let bytes = c.args.bytes.now in
    let f = c.fault-in_default-2.result in
    let is = ap told c.fault-in_default-2.ensures in
    elim c.in_default-2.branch [
      | in_default-2-via-in-Header+in_default w ↦ (refused d bytes 78 _ f (header_letter d w.in_default-2.is-0) w.in_default-2.is-1.1 is, refl)
      | in_default-2-via-in-Inputs+in_default w ↦ (refused d bytes 73 _ f (input_letter d _ w.in_default-2.is-0) w.in_default-2.is-1.1 is, refl)
      | in_default-2-via-in-Gates+in_default w ↦ (refused d bytes 71 _ f (gate_letter d w.in_default-2.is-0) w.in_default-2.is-1.1 is, refl)
      | in_default-2-via-in-Outputs+in_default w ↦ (refused d bytes 79 _ f (output_letter d w.in_default-2.is-0) w.in_default-2.is-1.1 is, refl)
      | in_default-2-via-in-End+in_default w ↦ (refused d bytes 69 _ f (end_letter d w.in_default-2.is-0) w.in_default-2.is-1.1 is, refl)
      | in_default-2-via-in_default w ↦ let p : d.phase ≡ Done = search rules in (wrong_letter (expected (progress_of d)) bytes _ _ f (λ q. subst (Passes bytes) (done_letter d p) q) (is ∙ ap (λ m. record { number = 2; layer = 82; at = m; column = 1 }) (numbered d)), refl)
    ]
