-- What the text of a record shows, that it holds no byte 10 and passes its tests, and that no two legal records share one.
use Rattle.std.proofs.Common.{◌≡◌, ℕ, suc, ◌+◌, cond, eqb, List, [], ◌∷◌, ◌++◌, length, get_or, drop, sym, refl, ap, ◌∙◌, subst, append_assoc, append-nil, arith, length-append}
use Rattle.std.specs.List.{AllByRecursion}
use Rattle.std.proofs.ByRecursion.{All-append}
use Rattle.columns.specs.Spelling.{spelled}
use Rattle.columns.proofs.Spelled.{length-spelled, spelled_no_newline}
use Rattle.values.specs.Knowledge.{letter}
use Rattle.values.specs.declared.ternary.Ternary.{Ternary}
use Rattle.values.specs.declared.ternary.Ternary.TheVariants.{Zero, One, X}
use Rattle.deck.specs.Outcomes.{Unended}
use Rattle.deck.specs.Tests.{columns, Shows, Passes, has, value_known}
use Rattle.deck.proofs.Numbers.{shows_one}
use Rattle.deck.proofs.Texts.{columns_at, shown}
use Rattle.stimulus.specs.Rows.{text, Named, Legal}
use Rattle.stimulus.specs.Tests.{tests, place_tests}
use Rattle.stimulus.specs.declared.entry.Entry.{Entry}
use Rattle.stimulus.specs.declared.entry.Entry.TheVariants.{Feed, Hold, End}
use Rattle.stimulus.specs.declared.reader.Phase.TheVariants.{Given}
use Rattle.stimulus.proofs.Places.{place_pass}

-- the value that a letter tells
abbrev value_of : List ℕ → Ternary
value_of l = cond (eqb (get_or l 0 0) 48) Zero (cond (eqb (get_or l 0 0) 49) One X)

letter_facts : (v : Ternary) → (length (letter v) ≡ 1) × Unended (letter v) × (value_of (letter v) ≡ v)
letter_facts Zero = (refl, omega arith, refl)
letter_facts One = (refl, omega arith, refl)
letter_facts X = (refl, omega arith, refl)

letter_one : (v w : Ternary) → letter v ≡ letter w → v ≡ w
letter_one v w e = sym (letter_facts v).2 ∙ ap value_of e ∙ (letter_facts w).2

-- a letter, a line and a tick, and so many bytes more, none of them byte 10
record Placed (t : List ℕ) (byte line tick more : ℕ) : Type 0 where
  begins : get_or t 0 0 ≡ byte
  long : length t ≡ 15 + more
  at_line : Shows t 2 4 line
  at_tick : Shows t 6 10 tick
  unended : Unended t

placed : (t : List ℕ) (byte lines line tick more : ℕ) (back : List ℕ) → (byte ≡ 10 → ⊥) → (length back ≡ more) × Unended back → Named lines line tick → t ≡ byte ∷ (spelled 4 line ++ (spelled 10 tick ++ back)) → Placed t byte line tick more
placed t byte lines line tick more back other clean named is =
    let four = length-spelled 4 line named.four_columns (omega arith) (omega arith) in
    let ten = length-spelled 10 tick (omega arith) (omega arith) (omega arith) in
    let long = length-append (spelled 4 line) (spelled 10 tick ++ back) in
    let longer = length-append (spelled 10 tick) back in
    rw is (record {
      begins = refl;
      long = omega arith;
      at_line = shown (byte ∷ []) (spelled 10 tick ++ back) 2 4 line refl (omega arith) named.four_columns;
      at_tick = shown (byte ∷ spelled 4 line) back 6 10 tick (omega arith) (omega arith) (omega arith);
      unended = (other, All-append _ (spelled 4 line) _ (spelled_no_newline 4 line (omega arith)) (All-append _ (spelled 10 tick) back (spelled_no_newline 10 tick (omega arith)) clean.1));
    })

placed_one : (t : List ℕ) (byte line n tick u more : ℕ) → Placed t byte line tick more → Placed t byte n u more → (line ≡ n) × (tick ≡ u)
placed_one t byte line n tick u more a b =
    (shows_one t 2 4 line n (omega arith) a.at_line b.at_line, shows_one t 6 10 tick u (omega arith) a.at_tick b.at_tick)

-- the bytes show the fields of the record
abbrev Says : List ℕ → Entry → Type 0
Says t (Feed line tick value) = Placed t 70 line tick 2 × (columns t 16 2 ≡ 32 ∷ letter value)
Says t (Hold line tick) = Placed t 72 line tick 0
Says t End = (get_or t 0 0 ≡ 69) × Unended t

says_text : (lines : ℕ) (e : Entry) → Legal lines e → Says (text e) e
says_text lines (Feed line tick value) legal =
    let front = spelled 4 line ++ spelled 10 tick in
    let back = 32 ∷ letter value in
    let two : length back ≡ 2 = ap suc (letter_facts value).0 in
    let a = placed _ 70 lines line tick 2 back (omega arith) (two, (omega arith, (letter_facts value).1)) legal refl in
    let grouped = append_assoc (spelled 4 line) (spelled 10 tick) back in
    let long = length-append front back in
    let before : length (70 ∷ front) ≡ 15 = omega (arith, a.long, ap length grouped) in
    (a, subst (λ l. columns (70 ∷ l) 16 2 ≡ back) (ap (λ l. front ++ l) (append-nil back) ∙ grouped) (columns_at (70 ∷ front) back [] 16 2 before two))
says_text lines (Hold line tick) legal = placed _ 72 lines line tick 0 [] (omega arith) (refl, tt) legal (ap (λ l. 72 ∷ (spelled 4 line ++ l)) (sym (append-nil (spelled 10 tick))))
says_text lines End legal = (refl, (omega arith, tt))

says_one : (t : List ℕ) (e d : Entry) → Says t e → Says t d → e ≡ d
says_one t (Feed line tick value) (Feed n u v) a b =
    let same = placed_one t 70 line n tick u 2 a.0 b.0 in
    let values = letter_one value v (ap (drop 1) (sym a.1 ∙ b.1)) in
    λ x. Feed (same.0 x) (same.1 x) (values x)
says_one t (Feed line tick value) (Hold n u) a b = absurd (omega arith)
says_one t (Feed line tick value) End a b = absurd (omega arith)
says_one t (Hold line tick) (Feed n u v) a b = absurd (omega arith)
says_one t (Hold line tick) (Hold n u) a b =
    let same = placed_one t 72 line n tick u 0 a b in
    λ x. Hold (same.0 x) (same.1 x)
says_one t (Hold line tick) End a b = absurd (omega arith)
says_one t End (Feed n u v) a b = absurd (omega arith)
says_one t End (Hold n u) a b = absurd (omega arith)
says_one t End End a b = refl

says_unended : (t : List ℕ) (e : Entry) → Says t e → Unended t
says_unended t (Feed line tick value) a = a.0.unended
says_unended t (Hold line tick) a = a.unended
says_unended t End a = a.1

says_passes : (lines : ℕ) (e : Entry) → Legal lines e → Says (text e) e → AllByRecursion (Passes (text e)) (tests Given lines (text e))
says_passes lines (Feed line tick value) legal a =
    (ap (λ n. has n (17 ∷ [])) a.0.long, All-append (Passes (text (Feed line tick value))) (place_tests lines) (value_known ∷ []) (place_pass 70 _ lines line tick (a.0.at_line, legal.a_line.0, legal.a_line.1) (a.0.at_tick, legal.a_tick)) ((value, a.1), tt))
says_passes lines (Hold line tick) legal a =
    (ap (λ n. has n (15 ∷ [])) a.long, place_pass 72 _ lines line tick (a.at_line, legal.a_line.0, legal.a_line.1) (a.at_tick, legal.a_tick))
says_passes lines End legal a = (refl, tt)

pub text_unended : (lines : ℕ) (e : Entry) → Legal lines e → Unended (text e)
text_unended lines e legal = says_unended (text e) e (says_text lines e legal)

pub text_passes : (lines : ℕ) (e : Entry) → Legal lines e → AllByRecursion (Passes (text e)) (tests Given lines (text e))
text_passes lines e legal = says_passes lines e legal (says_text lines e legal)

pub text_one : (lines : ℕ) (e d : Entry) → Legal lines e → Legal lines d → text e ≡ text d → e ≡ d
text_one lines e d legal legal' same = says_one (text e) e d (says_text lines e legal) (subst (λ t. Says t d) (sym same) (says_text lines d legal'))
