-- What is answered of the next record of a stimulus is determined by its bytes.
use Rattle.std.proofs.Common.{◌≡◌, ℕ, List, ◌∷◌, ◌++◌, Option, None, Some, Result, Ok, Err, sym, refl, ap, ◌∙◌, subst₂}
use Rattle.deck.specs.Faults.{Told}
use Rattle.deck.proofs.Records.{cut_one}
use Rattle.deck.proofs.Unique.{fails_one, passes_all}
use Rattle.stimulus.specs.Readers.{Place, phase_after, Took, Outcome}
use Rattle.stimulus.specs.Rows.{text, Legal}
use Rattle.stimulus.specs.Tests.{tests, Over, Fails}
use Rattle.stimulus.specs.declared.entry.Entry.{Entry}
use Rattle.stimulus.specs.declared.entry.Taken.{Taken}
use Rattle.stimulus.specs.declared.reader.Phase.TheVariants.{Given, Done}
use Rattle.stimulus.proofs.Texts.{text_unended, text_passes, text_one}

-- bytes begin with one record
pub record_one : (lines : ℕ) (e d : Entry) (x y : List ℕ) → Legal lines e → Legal lines d → text e ++ (10 ∷ x) ≡ text d ++ (10 ∷ y) → (e ≡ d) × (x ≡ y)
record_one lines e d x y legal legal' same =
    let cuts = cut_one (text e) (text d) x y (text_unended lines e legal) (text_unended lines d legal') same in
    (text_one lines e d legal legal' cuts.0, cuts.1)

-- a record that fails is not the text of a legal one
pub not_failed : (lines at : ℕ) (e : Entry) (x : List ℕ) (f : Told) → Legal lines e → Fails Given lines at (text e ++ (10 ∷ x)) f → ⊥
not_failed lines at e x f legal fails = passes_all (tests Given lines) at (text e) x f (text_unended lines e legal) (text_passes lines e legal) fails.1

given_not_done : Given ≡ Done → ⊥
given_not_done e = cc

took_one : (p q u : Place) (t v : Taken) → Took p q t → Took p u v → (t ≡ v) × (q ≡ u)
took_one p q u t v a b =
    let one = record_one p.lines t.entry v.entry q.rest u.rest a.legal b.legal (sym a.spelling ∙ b.spelling) in
    let numbers = a.number ∙ sym b.number in
    let ats = a.one_more ∙ sym b.one_more in
    let so_many = a.same_lines ∙ sym b.same_lines in
    let phases = a.phase ∙ ap phase_after one.0 ∙ sym b.phase in
    ((λ i. record { «record» = numbers i; entry = one.0 i }), (λ i. record { rest = one.1 i; at = ats i; lines = so_many i; phase = phases i }))

took_not_over : (p q : Place) (t : Taken) → Took p q t → Over p.phase p.rest → ⊥
took_not_over p q t a over = given_not_done (sym a.in_order ∙ over.0)

took_not_failed : (p q : Place) (t : Taken) (f : Told) → Took p q t → Fails p.phase p.lines p.at p.rest f → ⊥
took_not_failed p q t f a fails =
    not_failed p.lines p.at t.entry q.rest f a.legal (subst₂ (λ x y. Fails x p.lines p.at y f) a.in_order a.spelling fails)

-- a place has one answer and one place after it
pub outcome_one : (p q u : Place) (a b : Result (Option Taken) Told) → Outcome p a q → Outcome p b u → (a ≡ b) × (q ≡ u)
outcome_one p q u (Ok None) (Ok None) a b = (refl, a.1 ∙ sym b.1)
outcome_one p q u (Ok None) (Ok (Some v)) a b = absurd (took_not_over p u v b a.0)
outcome_one p q u (Ok None) (Err g) a b = absurd (b.0.0 a.0)
outcome_one p q u (Ok (Some t)) (Ok None) a b = absurd (took_not_over p q t a b.0)
outcome_one p q u (Ok (Some t)) (Ok (Some v)) a b = let same = took_one p q u t v a b in (ap (λ x. Ok (Some x)) same.0, same.1)
outcome_one p q u (Ok (Some t)) (Err g) a b = absurd (took_not_failed p q t g a b.0)
outcome_one p q u (Err f) (Ok None) a b = absurd (a.0.0 b.0)
outcome_one p q u (Err f) (Ok (Some v)) a b = absurd (took_not_failed p u v f b a.0)
outcome_one p q u (Err f) (Err g) a b = (ap Err (fails_one (tests p.phase p.lines) p.at p.rest f g a.0.1 b.0.1), a.1 ∙ sym b.1)
