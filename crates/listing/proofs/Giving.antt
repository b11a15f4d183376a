-- A stimulus is given record by record.
use Rattle.std.proofs.Common.{◌≡◌, ℕ, suc, ◌+◌, List, [], ◌∷◌, ◌++◌, length, Ok, Err, Result, sym, refl, ap, ◌∙◌, subst, append-nil, length-append, arith}
use Rattle.deck.specs.Faults.{Told, told}
use Rattle.deck.specs.declared.fault.Fault.{Fault}
use Rattle.engine.specs.Answers.{Feeding, Holding}
use Rattle.engine.specs.Sessions.{KeepsItsOwn, lines_of}
use Rattle.engine.specs.declared.session.Session.{Session}
use Rattle.engine.proofs.Moving.{keeps_on}
use Rattle.engine.proofs.Runs.{same_machine}
use Rattle.semantics.specs.Accounts.{Account}
use Rattle.semantics.specs.Circuits.{lines}
use Rattle.semantics.specs.Machines.{Machine}
use Rattle.stimulus.specs.Readers.{Place, Took, phase_after}
use Rattle.stimulus.specs.Rows.{text, spell, Legal}
use Rattle.deck.proofs.Bytes.{ended_more}
use Rattle.stimulus.specs.Tests.{Over, Fails}
use Rattle.stimulus.specs.declared.entry.Entry.{Entry}
use Rattle.stimulus.specs.declared.entry.Entry.TheVariants.{Feed, Hold, End}
use Rattle.stimulus.specs.declared.entry.Taken.{Taken}
use Rattle.stimulus.specs.declared.reader.Phase.{Phase}
use Rattle.stimulus.specs.declared.reader.Phase.TheVariants as phase
use Rattle.values.specs.Knowledge.{three_valued}
use Rattle.values.specs.declared.ternary.Ternary.{Ternary}
use Rattle.listing.specs.Given.{Gives, Given, Whole, Stops, FirstFault}
use Rattle.listing.specs.Listers.{machine_in, StandsFor}

module _ (s : Machine Ternary) where
  pub given_more : (b d : Account Ternary) (e : Entry) → Gives s b e (Ok tt) d → {a : Account Ternary} {es : List Entry} → Given s b es a → Given s d (es ++ (e ∷ [])) a
  given_more b d e gives Given.none = Given.next gives Given.none
  given_more b d e gives (Given.next first rest) = Given.next first (given_more b d e gives rest)

  -- what is refused leaves the account as it was
  fed_stays : {n t number : ℕ} {v : Ternary} {b d : Account Ternary} → Feeding s b n t v (Err number) d → d ≡ b
  fed_stays (Feeding.no_input other) = refl
  fed_stays (Feeding.past is before) = refl
  fed_stays (Feeding.late is from after) = refl
  fed_stays (Feeding.full is from upto more) = refl

  held_stays : {n t number : ℕ} {b d : Account Ternary} → Holding s b n t (Err number) d → d ≡ b
  held_stays (Holding.no_input other) = refl
  held_stays (Holding.past is before) = refl
  held_stays (Holding.late is from after) = refl

  pub stays : (e : Entry) (number : ℕ) (b d : Account Ternary) → Gives s b e (Err number) d → d ≡ b
  stays (Feed n t v) number b d gives = fed_stays gives
  stays (Hold n t) number b d gives = held_stays gives
  stays End number b d gives = absurd gives

-- the records taken up to a phase
abbrev pub taken : Phase → List Entry → List Entry
taken phase.Given es = es
taken phase.Done es = es ++ (End ∷ [])

keeps_all : {V : Type 0} (s t u : Session V) → KeepsItsOwn s t → KeepsItsOwn t u → KeepsItsOwn s u
keeps_all s t u first second =
    record { lends_this_store = second.lends_this_store ∙ first.lends_this_store; keeps = keeps_on (lines_of s) (lines_of t) (lines_of u) s.store.now t.store.now u.store.now first.keeps second.keeps }

module _ (start : Session Ternary) (stimulus : List ℕ) (first : ℕ) where
  -- these records were taken up to a place, and all that they give was accepted
  pub record Under (now : Session Ternary) (p : Place) (es : List Entry) : Type 0 where
    pub keeps : KeepsItsOwn start now
    pub spelled : stimulus ≡ spell (taken p.phase es) ++ p.rest
    pub number : p.at ≡ first + length (taken p.phase es)
    pub same_lines : p.lines ≡ lines (lines_of start).circuit
    pub stands : (a : Account Ternary) → StandsFor start a → (b : Account Ternary) × Given (machine_in start) b es a × StandsFor now b

  pub record Giving (now : Session Ternary) (p : Place) : Type 0 where
    pub entries : List Entry
    pub under : Under now p entries

  module _ (now : Session Ternary) (p : Place) (giving : Giving now p) where
    abbrev es : List Entry
    es = giving.entries

    abbrev under : Under now p es
    under = giving.under

    -- the machine is still that of the start
    same : machine_in now ≡ machine_in start
    same = same_machine three_valued (lines_of start) (lines_of now) start.store.now now.store.now under.keeps.keeps

    module _ (q : Place) (t : Taken) (took : Took p q t) where
      -- before an end, what is spelled and counted
      spelled_before : stimulus ≡ spell es ++ p.rest
      spelled_before = subst (λ x. stimulus ≡ spell (taken x es) ++ p.rest) took.in_order under.spelled

      number_before : p.at ≡ first + length es
      number_before = subst (λ x. p.at ≡ first + length (taken x es)) took.in_order under.number

      spelled_on : stimulus ≡ spell (es ++ (t.entry ∷ [])) ++ q.rest
      spelled_on = spelled_before ∙ ap (λ l. spell es ++ l) took.spelling ∙ sym (ended_more text es t.entry q.rest)

      number_on : q.at ≡ first + length (es ++ (t.entry ∷ []))
      number_on = let longer = length-append es (t.entry ∷ []) in omega (arith, took.one_more, number_before)

      -- the end was taken
      ended : t.entry ≡ End → q.phase ≡ phase.Done → Giving now q
      ended is done = record {
        entries = es;
        under = record {
          keeps = under.keeps;
          spelled = subst (λ x. stimulus ≡ spell (taken x es) ++ q.rest) (sym done) (subst (λ e. stimulus ≡ spell (es ++ (e ∷ [])) ++ q.rest) is spelled_on);
          number = subst (λ x. q.at ≡ first + length (taken x es)) (sym done) (subst (λ e. q.at ≡ first + length (es ++ (e ∷ []))) is number_on);
          same_lines = took.same_lines ∙ under.same_lines;
          stands = under.stands;
        };
      }

      -- a record was given
      gave : (after : Session Ternary) → KeepsItsOwn now after → q.phase ≡ phase.Given → ((a : Account Ternary) → StandsFor now a → (b : Account Ternary) × Gives (machine_in now) a t.entry (Ok tt) b × StandsFor after b) → Giving after q
      gave after keeps goes_on answers = record {
        entries = es ++ (t.entry ∷ []);
        under = record {
          keeps = keeps_all start now after under.keeps keeps;
          spelled = subst (λ x. stimulus ≡ spell (taken x (es ++ (t.entry ∷ []))) ++ q.rest) (sym goes_on) spelled_on;
          number = subst (λ x. q.at ≡ first + length (taken x (es ++ (t.entry ∷ [])))) (sym goes_on) number_on;
          same_lines = took.same_lines ∙ under.same_lines;
          stands = λ a stands. let b = under.stands a stands in let d = answers b.0 b.2 in (d.0, given_more (machine_in start) b.0 d.0 t.entry (subst (λ m. Gives m b.0 t.entry (Ok tt) d.0) same d.1) b.1, d.2);
        };
      }

      -- by what the record says
      pub went_on : (after : Session Ternary) (r : Result Unit ℕ) → r ≡ Ok tt → KeepsItsOwn now after → (t.entry ≡ End → after ≡ now) → ((t.entry ≡ End → ⊥) → (a : Account Ternary) → StandsFor now a → (b : Account Ternary) × Gives (machine_in now) a t.entry r b × StandsFor after b) → Giving after q
      went_on after r accepted keeps ends answers = by_entry t.entry refl
        where
          moved : q.phase ≡ phase.Given → (t.entry ≡ End → ⊥) → Giving after q
          moved goes_on no_end = gave after keeps goes_on (λ a stands. subst (λ x. (b : Account Ternary) × Gives (machine_in now) a t.entry x b × StandsFor after b) accepted (answers no_end a stands))

          by_entry : (e : Entry) → t.entry ≡ e → Giving after q
          by_entry (Feed n v w) is = moved (took.phase ∙ ap phase_after is) (λ end. let other = sym is ∙ end in cc)
          by_entry (Hold n v) is = moved (took.phase ∙ ap phase_after is) (λ end. let other = sym is ∙ end in cc)
          by_entry End is = subst (λ x. Giving x q) (sym (ends is)) (ended is (took.phase ∙ ap phase_after is))

      -- a record was refused
      pub refused : (after : Session Ternary) (number : ℕ) (f : Fault) → told f ≡ record { number = number; layer = 83; at = p.at; column = 1 } → (t.entry ≡ End → ⊥) → after ≡ now → ((a : Account Ternary) → StandsFor now a → (b : Account Ternary) × Gives (machine_in now) a t.entry (Err number) b × StandsFor after b) → (a : Account Ternary) → StandsFor start a → (b : Account Ternary) × StandsFor after b × FirstFault (machine_in start) a (lines (lines_of start).circuit) first stimulus (told f)
      refused after number f is no_end unchanged answers a stands =
          let b = under.stands a stands in
          let d = answers b.0 b.2 in
          let stayed : d.0 ≡ b.0 = stays (machine_in now) t.entry number b.0 d.0 d.1 in
          let gives = subst (λ m. Gives m b.0 t.entry (Err number) b.0) same (subst (λ x. Gives (machine_in now) b.0 t.entry (Err number) x) stayed d.1) in (
            d.0,
            d.2,
            record {
              before = es;
              account = b.0;
              given = b.1;
              rest = p.rest;
              spelled = spelled_before;
              stops = Stops.refused t.entry q.rest took.spelling (subst (λ n. Legal n t.entry) (took_lines) took.legal) gives (is ∙ ap (λ n. record { number = number; layer = 83; at = n; column = 1 }) number_before);
            },
          )
        where
          took_lines : p.lines ≡ lines (lines_of start).circuit
          took_lines = under.same_lines

    -- nothing is left
    pub all_given : Over p.phase p.rest → (a : Account Ternary) → StandsFor start a → (b : Account Ternary) × StandsFor now b × Whole (machine_in start) a stimulus b
    all_given over a stands =
        let b = under.stands a stands in
        let spelled : stimulus ≡ spell (es ++ (End ∷ [])) ++ [] = subst (λ l. stimulus ≡ spell (es ++ (End ∷ [])) ++ l) over.1 (subst (λ x. stimulus ≡ spell (taken x es) ++ p.rest) over.0 under.spelled) in
        (b.0, b.2, record { entries = es; spelled = spelled ∙ append-nil _; given = b.1 })

    -- the next record is not as it should be
    pub stopped : (f : Told) → Fails p.phase p.lines p.at p.rest f → (a : Account Ternary) → StandsFor start a → (b : Account Ternary) × StandsFor now b × FirstFault (machine_in start) a (lines (lines_of start).circuit) first stimulus f
    stopped f fails a stands = by_phase p.phase refl
      where
        by_phase : (x : Phase) → p.phase ≡ x → (b : Account Ternary) × StandsFor now b × FirstFault (machine_in start) a (lines (lines_of start).circuit) first stimulus f
        by_phase phase.Given is =
            let b = under.stands a stands in
            let number = subst (λ x. p.at ≡ first + length (taken x es)) is under.number in (
              b.0,
              b.2,
              record {
                before = es;
                account = b.0;
                given = b.1;
                rest = p.rest;
                spelled = subst (λ x. stimulus ≡ spell (taken x es) ++ p.rest) is under.spelled;
                stops = Stops.unread (subst (λ x. Fails x (lines (lines_of start).circuit) (first + length es) p.rest f) is (subst (λ n. Fails p.phase n (first + length es) p.rest f) under.same_lines (subst (λ n. Fails p.phase p.lines n p.rest f) number fails)));
              },
            )
        by_phase phase.Done is =
            let b = under.stands a stands in
            let longer = length-append es (End ∷ []) in
            let number : p.at ≡ suc (first + length es) = omega (arith, subst (λ x. p.at ≡ first + length (taken x es)) is under.number) in (
              b.0,
              b.2,
              record {
                before = es;
                account = b.0;
                given = b.1;
                rest = text End ++ (10 ∷ p.rest);
                spelled = subst (λ x. stimulus ≡ spell (taken x es) ++ p.rest) is under.spelled ∙ ended_more text es End p.rest;
                stops = Stops.past_end p.rest refl (subst (λ x. Fails x (lines (lines_of start).circuit) (suc (first + length es)) p.rest f) is (subst (λ n. Fails p.phase n (suc (first + length es)) p.rest f) under.same_lines (subst (λ n. Fails p.phase p.lines n p.rest f) number fails)));
              },
            )

  pub begun : (p : Place) → p.rest ≡ stimulus → p.at ≡ first → p.lines ≡ lines (lines_of start).circuit → p.phase ≡ phase.Given → Giving start p
  begun p rest at same_lines begins = record {
    entries = [];
    under = record {
      keeps = record { lends_this_store = refl; keeps = record { circuit = refl; stride = refl; same_length = refl; beyond = refl } };
      spelled = subst (λ x. stimulus ≡ spell (taken x []) ++ p.rest) (sym begins) (sym rest);
      number = subst (λ x. p.at ≡ first + length (taken x [])) (sym begins) (omega (arith, at));
      same_lines = same_lines;
      stands = λ a stands. (a, Given.none, stands);
    };
  }
