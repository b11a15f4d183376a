use Rattle.std.proofs.Common.{◌≡◌, ℕ, suc, ◌+◌, ◌<◌, List, ◌∷◌, ◌++◌, length, get_or, take, drop, ap, ◌∙◌, arith}
use Rattle.std.proofs.lemmas.List.{length-take-le}
use Rattle.deck.specs.Faults.{told}
use Rattle.deck.specs.Outcomes.{Unended, Fails}
use Rattle.deck.specs.Outcomes.FailsTest.{failed}
use Rattle.deck.specs.Progress.{Progress, expected, rows}
use Rattle.deck.specs.Readers.{progress_of, Took, TookFrom}
use Rattle.deck.specs.Records.{Failed}
use Rattle.deck.specs.Tests.{tests}
use Rattle.deck.specs.declared.entry.Entry.{Entry}
use Rattle.deck.specs.declared.fault.Fault.{Fault}
use Rattle.deck.specs.declared.reader.DeckReader.{DeckReader}
use Rattle.deck.proofs.Bytes.{at_ending}
use Rattle.deck.proofs.Exits.{carried}
use Rattle.deck.proofs.reader.DeckReader.next.Goals as goal

-- what is said of the record holds of the bytes that begin with it
module _ (bytes : List ℕ) (n : ℕ) (within : n < length bytes) (ends : get_or bytes n 0 ≡ 10) where
  fails_here : (p : Progress) (at : ℕ) (f : Fault) → Unended (take n bytes) → Failed (take n bytes) at (tests (expected p) (length (take n bytes))) f → Fails p at bytes (told f)
  fails_here p at f clean bad = failed (take n bytes) (drop (suc n) bytes) bad.test (at_ending bytes n within ends) clean bad.first bad.is

  took_here : (d t : DeckReader) (e : Entry) → Took d t (take n bytes) e → TookFrom d t bytes (record { entry = e; bytes = n + 1 })
  took_here d t e took = record {
    rest = drop (suc n) bytes;
    spelling = at_ending bytes n within ends ∙ ap (λ l. l ++ (10 ∷ drop (suc n) bytes)) took.spelling;
    as_drawn = took.as_drawn;
    count = let long = length-take-le n bytes (omega arith) in omega (arith, ap length took.spelling);
    one_more = took.one_more;
  }

pub returns-in_err-entry : goal.returns-in_err-entry
returns-in_err-entry c =
    let bytes = c.args.bytes.now in
    let found = c.in-Some.ensures in
    let f = c.in_err-entry.field-0.0 in
    let p = progress_of c.args.self.now in
    let bad = c.in_err-entry.ensures in
    carried c.from_residual.result f _ _ c.from_residual.ensures.1
    (fails_here bytes c.in-Some.length found.0 found.1 p (suc (length (rows p))) f found.2 bad.0, bad.1)

pub returns : goal.returns
returns c =
    let bytes = c.args.bytes.now in
    let found = c.in-Some.ensures in
    took_here bytes c.in-Some.length found.0 found.1 _ _ _ c.in_ok-entry.ensures
