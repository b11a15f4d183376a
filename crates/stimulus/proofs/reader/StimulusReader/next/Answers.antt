use Rattle.std.proofs.Common.{◌≡◌, IsErrAnd, length, Result, Some, Ok, Err, take, drop, suc, sym, refl, ap, ◌∙◌, subst, arith, rules}
use Rattle.std.proofs.lemmas.Grind.{common_steps}
use Rattle.std.proofs.lemmas.Result.{err_from_is_err_and}
use Rattle.deck.proofs.Bytes.{at_ending}
use Rattle.stimulus.specs.Readers.{place, answer_of, Outcome}
use Rattle.deck.specs.Outcomes.FailsTest.{failed}
use Rattle.stimulus.proofs.Unique.{outcome_one}
use Rattle.stimulus.proofs.reader.StimulusReader.next.Goals as goal

-- an error that was carried on is that error
err_is : {T E : Type 0} (r : Result T E) (f : E) → IsErrAnd r (λ y. y ≡ f) → r ≡ Err f
err_is r f carried = let out = err_from_is_err_and r carried in out.1 ∙ ap Err out.2

pub returns-in_err-entry-clause-answers : goal.returns-in_err-entry-clause-answers
returns-in_err-entry-clause-answers c =
    let p = place c.args.self.now in
    let bytes = c.args.self.now.rest.now in
    let found = c.in-Some.ensures in
    let n = c.in-Some.length in
    let bad = c.in_err-entry.ensures in
    subst (λ r. Outcome p (answer_of r) p) (sym (err_is c.from_residual.result c.in_err-entry.field-0.0 c.from_residual.ensures.1))
    ((λ over. omega (arith, found.0, ap length over.1), failed (take n bytes) (drop (suc n) bytes) bad.test (at_ending bytes n found.0 found.1) found.2 bad.first bad.is), refl)

pub returns-in_err-entry-clause-only : goal.returns-in_err-entry-clause-only
returns-in_err-entry-clause-only c = λ a p other. outcome_one _ p _ a _ other (returns-in_err-entry-clause-answers c)

pub returns-in_default-clause-only : goal.returns-in_default-clause-only
returns-in_default-clause-only c = λ a p other. outcome_one _ p _ a (Err _) other (search rules)

pub returns-clause-answers : goal.returns-clause-answers
returns-clause-answers c = grind (arith, common_steps)

pub returns-clause-only : goal.returns-clause-only
returns-clause-only c = λ a p other. outcome_one _ p _ a (Ok (Some _)) other (returns-clause-answers c)
