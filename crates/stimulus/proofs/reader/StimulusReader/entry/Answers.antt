use Rattle.std.proofs.Common.{◌≡◌, [], length, get_or, ap, ◌∙◌, arith}
use Rattle.std.proofs.lemmas.List.{nil_from_length}
use Rattle.std.proofs.lemmas.Slice.{first_rest}
use Rattle.std.specs.List.{between}
use Rattle.deck.specs.Faults.{told}
use Rattle.stimulus.specs.Tests.{tests}
use Rattle.stimulus.specs.declared.reader.Phase.TheVariants.{Given}
use Rattle.stimulus.proofs.Letters.{unexpected, empty_record, other_letter}
use Rattle.stimulus.proofs.reader.StimulusReader.entry.Goals as goal
use Rattle.stimulus.proofs.reader.StimulusReader.entry.Goals.{in_default-2-via-in-Given+in_default, in_default-2-via-in_default}

pub returns-in_default : goal.returns-in_default
returns-in_default c =
    let r = c.args.self.now in
    let empty : c.args.bytes.now ≡ [] = nil_from_length _ (omega (arith, c.in_default.len_below)) in
    unexpected r.phase r.lines r.«record» c.args.bytes.now c.fault.result (ap (tests r.phase r.lines) empty ∙ empty_record r.phase r.lines) (ap told c.fault.ensures)

pub returns-in_default-2 : goal.returns-in_default-2
returns-in_default-2 c =
    let r = c.args.self.now in
    let bytes = c.args.bytes.now in
    let split = first_rest bytes 0 (omega (arith, c.in-len1-up.len_at_least)) in
    unexpected r.phase r.lines r.«record» bytes c.fault-in_default-2.result (elim c.in_default-2.branch [
      | in_default-2-via-in-Given+in_default w ↦
          let others = w.in_default-2.is-1 in
          ap (λ p. tests p r.lines bytes) w.in_default-2.is-0 ∙ ap (tests Given r.lines) split ∙ other_letter r.lines (get_or bytes 0 0) (between 1 (length bytes) bytes) others.0.0.1 others.0.1 others.1
      | in_default-2-via-in_default w ↦ ap (λ p. tests p r.lines bytes) w.in_default-2.is-0
    ]) (ap told c.fault-in_default-2.ensures)
