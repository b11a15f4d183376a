-- What reading a deck comes to is determined by its bytes.
use Rattle.std.proofs.Common.{◌≡◌, ℕ, suc, ◌⊎◌, List, [], ◌∷◌, ◌++◌, length, sym, ap, ◌∙◌, subst, subst₂, inl, inr, append_assoc}
use Rattle.std.specs.List.{AllByRecursion}
use Rattle.netlist.specs.Drafts.{Sheet}
use Rattle.deck.specs.Faults.{Told}
use Rattle.deck.specs.Progress.{Progress, blank, over, rows, Legal, expected, deck_text}
use Rattle.deck.specs.Rows.{Row, text, spell}
use Rattle.deck.specs.Tests.{Test, Passes, FirstFailed, fault_of}
use Rattle.deck.specs.Outcomes.FailsTest.{cut, failed}
use Rattle.deck.specs.Outcomes.{Unended, FailsTest, Fails, FirstFault, Deck, Answer, used, fault, Outcome}
use Rattle.deck.proofs.Following.{Follows, nothing_follows, after, Leads, legal_leads}
use Rattle.deck.proofs.Texts.{text_unended, text_one}
use Rattle.deck.proofs.Passing.{none_failed, first_failed_one, follows_passes}
use Rattle.deck.proofs.Records.{ended, cut_one}

-- rows lead from p, before the bytes x, to q, before the bytes y
abbrev Ahead : Progress → List ℕ → Progress → List ℕ → Type 0
Ahead p x q y = (rs : List Row) × Leads p rs q × (x ≡ spell rs ++ y)

-- of two ways through the same bytes, one goes on from where the other ends
compare : (p q t : Progress) (rs ss : List Row) (x y : List ℕ) → Leads p rs q → Leads p ss t → spell rs ++ x ≡ spell ss ++ y → Ahead q x t y ⊎ Ahead t y q x
compare p q t [] ss x y here there same = inl (ss, subst (λ z. Leads z ss t) here there, same)
compare p q t (r ∷ rs) [] x y here there same = inr (r ∷ rs, subst (λ z. Leads z (r ∷ rs) q) there here, sym same)
compare p q t (r ∷ rs) (s ∷ ss) x y (f, here) (g, there) same =
    let grouped = sym (append_assoc (text r) _ x) ∙ same ∙ append_assoc (text s) _ y in
    let cuts = cut_one (text r) (text s) (spell rs ++ x) (spell ss ++ y) (text_unended _ r f) (text_unended _ s g) grouped in
    let one = text_one _ r s f g cuts.0 in
    compare (after p r) q t rs ss x y here (subst (λ z. Leads (after p z) ss t) (sym one) there) cuts.1

module _ (tests_of : List ℕ → List Test) (at : ℕ) where
  -- the same record fails with one fault
  pub fails_one : (bytes : List ℕ) (f g : Told) → FailsTest tests_of at bytes f → FailsTest tests_of at bytes g → f ≡ g
  fails_one bytes f g (cut u is) (cut v is') = is ∙ sym is'
  fails_one bytes f g (cut u is) (failed r x t e v first is') = absurd (ended r x (rw e at u))
  fails_one bytes f g (failed r x t e v first is) (cut u is') = absurd (ended r x (rw e at u))
  fails_one bytes f g (failed r x t e u first is) (failed q y w e' v first' is') =
      let same = (cut_one r q x y u v (sym e ∙ e')).0 in
      is ∙ ap (fault_of at) (first_failed_one q _ t w (subst (λ z. FirstFailed z (tests_of z) t) same first) first') ∙ sym is'

  -- a record that passes all its tests does not fail
  pub passes_all : (r x : List ℕ) (f : Told) → Unended r → AllByRecursion (Passes r) (tests_of r) → FailsTest tests_of at (r ++ (10 ∷ x)) f → ⊥
  passes_all r x f whole passes (cut u is) = ended r x u
  passes_all r x f whole passes (failed q y t e u first is) =
      let same = (cut_one r q x y whole u e).0 in
      none_failed r _ t passes (subst (λ z. FirstFailed z (tests_of z) t) (sym same) first)

-- a record that fails is not the text of a row that follows
not_ahead : (p : Progress) (at : ℕ) (r : Row) (x : List ℕ) (f : Told) → Follows (expected p) r → Fails p at (text r ++ (10 ∷ x)) f → ⊥
not_ahead p at r x f follows = passes_all _ at (text r) x f (text_unended _ r follows) (follows_passes _ r follows)

-- what p has is read, and the rest does not go on with a row that follows
record Stop (bytes : List ℕ) (p : Progress) (rest : List ℕ) : Type 0 where
  legal : Legal p
  read : bytes ≡ spell (rows p) ++ rest
  stuck : (r : Row) (x : List ℕ) → Follows (expected p) r → rest ≡ text r ++ (10 ∷ x) → ⊥

nothing_ahead : (bytes : List ℕ) (p q : Progress) (x y : List ℕ) → Stop bytes p x → Ahead p x q y → (p ≡ q) × (x ≡ y)
nothing_ahead bytes p q x y stop ([], there, same) = (there, same)
nothing_ahead bytes p q x y stop (r ∷ rs, there, same) = absurd (stop.stuck r (spell rs ++ y) there.0 (same ∙ append_assoc (text r) _ y))

-- bytes have one stop
stop_one : (bytes : List ℕ) (p q : Progress) (x y : List ℕ) → Stop bytes p x → Stop bytes q y → (p ≡ q) × (x ≡ y)
stop_one bytes p q x y a b =
    elim (compare blank p q (rows p) (rows q) x y (legal_leads p a.legal) (legal_leads q b.legal) (sym a.read ∙ b.read)) [
      | inl on ↦ nothing_ahead bytes p q x y a on
      | inr on ↦ let same = nothing_ahead bytes q p y x b on in (sym same.0, sym same.1)
    ]

fault_stops : (bytes : List ℕ) (f : Told) (a : FirstFault bytes f) → Stop bytes a.before a.rest
fault_stops bytes f a =
    record { legal = a.legal; read = a.spelled_before; stuck = λ r x follows same. not_ahead a.before _ r x f follows (rw same at a.fails) }

deck_stops : (bytes : List ℕ) (n : ℕ) (s : Sheet) (a : Deck bytes n s) → Stop bytes (over s) a.rest
deck_stops bytes n s a = record { legal = a.whole; read = a.spelled; stuck = λ r x follows same. nothing_follows r follows }

-- a deck that is read and one that is not are not one
pub deck_no_fault : (bytes : List ℕ) (n : ℕ) (s : Sheet) (f : Told) → Deck bytes n s → FirstFault bytes f → ⊥
deck_no_fault bytes n s f a b = b.unfinished s (stop_one bytes b.before (over s) b.rest a.rest (fault_stops bytes f b) (deck_stops bytes n s a)).0

pub outcome_unique : (bytes : List ℕ) (a b : Answer) (s t : Sheet) → Outcome bytes a s → Outcome bytes b t → (a ≡ b) × (s ≡ t)
outcome_unique bytes (used m) (used n) s t a b =
    let ends = (stop_one bytes (over s) (over t) a.rest b.rest (deck_stops bytes m s a) (deck_stops bytes n t b)).0 in
    let same : s ≡ t = cc in
    (ap used (a.count_is ∙ ap (λ z. length (deck_text z)) same ∙ sym b.count_is), same)
outcome_unique bytes (used m) (fault g) s t a b = absurd (deck_no_fault bytes m s g a b.0)
outcome_unique bytes (fault f) (used n) s t a b = absurd (deck_no_fault bytes n t f b a.0)
outcome_unique bytes (fault f) (fault g) s t a b =
    let ends = stop_one bytes _ _ _ _ (fault_stops bytes f a.0) (fault_stops bytes g b.0) in
    let fails = subst₂ (λ p x. Fails p (suc (length (rows p))) x f) ends.0 ends.1 a.0.fails in
    (ap fault (fails_one _ _ _ f g fails b.0.fails), a.1 ∙ sym b.1)
