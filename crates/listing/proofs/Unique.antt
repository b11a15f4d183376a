-- What a stimulus comes to is determined by its bytes.
use Rattle.std.proofs.Common.{◌≡◌, ℕ, suc, ◌+◌, ◌^◌, ◌<◌, ◌≤◌, ◌⊎◌, List, [], ◌∷◌, ◌++◌, length, Ok, Err, Result, inl, inr, sym, refl, ap, ◌∙◌, subst, append_assoc, append-nil, arith}
use Rattle.std.proofs.Math.Path.{subst₃}
use Rattle.deck.specs.Faults.{Told}
use Rattle.engine.specs.Answers.{Feeding, Holding}
use Rattle.semantics.specs.Accounts.{Account, Stable}
use Rattle.semantics.specs.Changes.{AtMost}
use Rattle.semantics.specs.Machines.{Machine, IsInput}
use Rattle.semantics.specs.Moves.{fed, held}
use Rattle.stimulus.specs.Rows.{text, spell, Named, Legal}
use Rattle.deck.proofs.Bytes.{ended_more}
use Rattle.deck.proofs.Unique.{fails_one}
use Rattle.stimulus.specs.Tests.{tests, Fails}
use Rattle.stimulus.specs.declared.entry.Entry.{Entry}
use Rattle.stimulus.specs.declared.entry.Entry.TheVariants.{Feed, Hold, End}
use Rattle.stimulus.specs.declared.reader.Phase.TheVariants as phase
use Rattle.stimulus.proofs.Unique.{record_one, not_failed}
use Rattle.values.specs.declared.ternary.Ternary.{Ternary}
use Rattle.listing.specs.Given.{Gives, Given, Whole, Stops, FirstFault}

-- an answer to a call, and the account then
abbrev Ends : Type 1
Ends = Result Unit ℕ → Account Ternary → Type 0

-- there is only one
abbrev One : Ends → Type 0
One R = (r q : Result Unit ℕ) (b d : Account Ternary) → R r b → R q d → (r ≡ q) × (b ≡ d)

-- the call is refused, unless the condition holds; then it ends as it may
abbrev Asks : Type 0 → ℕ → Account Ternary → Ends → Ends
Asks P number a R r b = ((P → ⊥) × (r ≡ Err number) × (b ≡ a)) ⊎ (P × R r b)

abbrev Accepts : Account Ternary → Ends
Accepts a r b = (r ≡ Ok tt) × (b ≡ a)

accepts_one : (a : Account Ternary) → One (Accepts a)
accepts_one a r q b d x y = (x.0 ∙ sym y.0, x.1 ∙ sym y.1)

asks_one : (P : Type 0) (number : ℕ) (a : Account Ternary) (R : Ends) → One R → One (Asks P number a R)
asks_one P number a R one r q b d (inl x) (inl y) = (x.1 ∙ sym y.1, x.2 ∙ sym y.2)
asks_one P number a R one r q b d (inl x) (inr y) = absurd (x.0 y.0)
asks_one P number a R one r q b d (inr x) (inl y) = absurd (y.0 x.0)
asks_one P number a R one r q b d (inr x) (inr y) = one r q b d x.1 y.1

module _ (s : Machine Ternary) where
  -- an input is fed where it can be, as CanFeed has it; the first condition that does not hold is told
  abbrev FeedingAsks : Account Ternary → ℕ → ℕ → Ternary → Ends
  FeedingAsks a n t v =
      Asks (IsInput s.topology n) 12 a (Asks (a.end n ≤ t) 13 a (Asks (t ≤ 1999999999) 14 a (Asks (AtMost s.room (Stable s (fed a n t v) n) a.trim (t + 1)) 16 a (Accepts (fed a n t v)))))

  feeding_asks : (a : Account Ternary) (n t : ℕ) (v : Ternary) (r : Result Unit ℕ) (b : Account Ternary) → Feeding s a n t v r b → FeedingAsks a n t v r b
  feeding_asks a n t v _ b (Feeding.no_input other) = inl (other, refl, refl)
  feeding_asks a n t v _ b (Feeding.past i low) = inr (i, inl ((λ h. omega arith), refl, refl))
  feeding_asks a n t v _ b (Feeding.late i l high) = inr (i, inr (l, inl ((λ h. omega arith), refl, refl)))
  feeding_asks a n t v _ b (Feeding.full i l h none) = inr (i, inr (l, inr (h, inl (none, refl, refl))))
  feeding_asks a n t v _ b (Feeding.accepted can) = inr (can.an_input, inr (can.not_past, inr (can.in_time, inr (can.fits, (refl, refl)))))

  -- likewise it is held
  abbrev HoldingAsks : Account Ternary → ℕ → ℕ → Ends
  HoldingAsks a n t = Asks (IsInput s.topology n) 12 a (Asks (a.end n ≤ t) 13 a (Asks (t ≤ 2000000000) 14 a (Accepts (held a n t))))

  holding_asks : (a : Account Ternary) (n t : ℕ) (r : Result Unit ℕ) (b : Account Ternary) → Holding s a n t r b → HoldingAsks a n t r b
  holding_asks a n t _ b (Holding.no_input other) = inl (other, refl, refl)
  holding_asks a n t _ b (Holding.past i low) = inr (i, inl ((λ h. omega arith), refl, refl))
  holding_asks a n t _ b (Holding.late i l high) = inr (i, inr (l, inl ((λ h. omega arith), refl, refl)))
  holding_asks a n t _ b (Holding.accepted can) = inr (can.an_input, inr (can.not_past, inr (can.in_time, (refl, refl))))

  -- a record is answered in one way
  pub gives_one : (a : Account Ternary) (e : Entry) → One (Gives s a e)
  gives_one a (Feed n t v) r q b d x y =
      asks_one _ 12 a _ (asks_one _ 13 a _ (asks_one _ 14 a _ (asks_one _ 16 a _ (accepts_one (fed a n t v))))) r q b d (feeding_asks a n t v r b x) (feeding_asks a n t v q d y)
  gives_one a (Hold n t) r q b d x y =
      asks_one _ 12 a _ (asks_one _ 13 a _ (asks_one _ 14 a _ (accepts_one (held a n t)))) r q b d (holding_asks a n t r b x) (holding_asks a n t q d y)
  gives_one a End r q b d x y = absurd x

  never_both : (a b d : Account Ternary) (e : Entry) (number : ℕ) → Gives s a e (Ok tt) b → Gives s a e (Err number) d → ⊥
  never_both a b d e number x y = let same = (gives_one a e (Ok tt) (Err number) b d x y).0 in cc

module _ (s : Machine Ternary) (lines : ℕ) (few : lines < 10 ^ 4) (inputs_are_lines : (n : ℕ) → IsInput s.topology n → (1 ≤ n) × (n ≤ lines)) where
  named : (n t : ℕ) → IsInput s.topology n → t ≤ 4294967295 → Named lines n t
  named n t i small = let line = inputs_are_lines n i in record { a_line = line; four_columns = omega (arith, line.1); a_tick = small }

  -- a record that is accepted is legal
  pub gives_legal : (a : Account Ternary) (e : Entry) (b : Account Ternary) → Gives s a e (Ok tt) b → Legal lines e
  gives_legal a (Feed n t v) b (Feeding.accepted can) = named n t can.an_input (omega (arith, can.in_time))
  gives_legal a (Hold n t) b (Holding.accepted can) = named n t can.an_input (omega (arith, can.in_time))
  gives_legal a End b gives = absurd gives

  -- the bytes do not begin with a record that is accepted
  abbrev Stuck : Account Ternary → List ℕ → Type 0
  Stuck b x = (e : Entry) (d : Account Ternary) (after : List ℕ) → Gives s b e (Ok tt) d → x ≡ text e ++ (10 ∷ after) → ⊥

  -- two ways through the same bytes that both get stuck are one
  meet : (a b d : Account Ternary) (es ds : List Entry) (x y : List ℕ) → Given s b es a → Given s d ds a → spell es ++ x ≡ spell ds ++ y → Stuck b x → Stuck d y → (b ≡ d) × (es ≡ ds) × (x ≡ y)
  meet a b d [] [] x y Given.none Given.none same u v = (refl, refl, same)
  meet a b d [] (f ∷ fs) x y Given.none (Given.next {d = q} h hs) same u v = absurd (u f q (spell fs ++ y) h (same ∙ append_assoc (text f) _ y))
  meet a b d (e ∷ es) [] x y (Given.next {d = p} g gs) Given.none same u v = absurd (v e p (spell es ++ x) g (sym same ∙ append_assoc (text e) _ x))
  meet a b d (e ∷ es) (f ∷ fs) x y (Given.next {d = p} g gs) (Given.next {d = q} h hs) same u v =
      let one = record_one lines e f _ _ (gives_legal a e p g) (gives_legal a f q h) (sym (append_assoc (text e) _ x) ∙ same ∙ append_assoc (text f) _ y) in
      let accounts = (gives_one s a e (Ok tt) (Ok tt) p q g (subst (λ z. Gives s a z (Ok tt) q) (sym one.0) h)).1 in
      let on = meet p b d es fs x y gs (subst (λ z. Given s d fs z) (sym accounts) hs) one.1 u v in
      (on.0, (λ i. one.0 i ∷ on.1 i), on.2)

  -- an end is neither accepted nor refused
  no_end : (a b : Account Ternary) (e : Entry) (r : Result Unit ℕ) (x y : List ℕ) → Legal lines e → Gives s a e r b → text e ++ (10 ∷ x) ≡ text End ++ (10 ∷ y) → ⊥
  no_end a b e r x y legal gives same = subst (λ z. Gives s a z r b) (record_one lines e End x y legal tt same).0 gives

  -- a legal record is read
  not_read : (at : ℕ) (bytes x : List ℕ) (e : Entry) (f : Told) → Legal lines e → bytes ≡ text e ++ (10 ∷ x) → Fails phase.Given lines at bytes f → ⊥
  not_read at bytes x e f legal is fails = not_failed lines at e x f legal (subst (λ z. Fails phase.Given lines at z f) is fails)

  end_stuck : (b : Account Ternary) (x : List ℕ) → Stuck b (text End ++ (10 ∷ x))
  end_stuck b x e d after gives same = no_end b d e (Ok tt) after x (gives_legal b e d gives) gives (sym same)

  stops_stuck : (b : Account Ternary) (at : ℕ) (x : List ℕ) (f : Told) → Stops s b lines at x f → Stuck b x
  stops_stuck b at x f (Stops.unread fails) e d after gives same = not_read at x after e f (gives_legal b e d gives) same fails
  stops_stuck b at x f (Stops.refused {number = m} e' after' is legal bad told) e d after gives same =
      let one = (record_one lines e' e after' after legal (gives_legal b e d gives) (sym is ∙ same)).0 in
      never_both s b d b e m gives (subst (λ z. Gives s b z (Err m) b) one bad)
  stops_stuck b at x f (Stops.past_end after' is fails) e d after gives same = end_stuck b after' e d after gives (sym is ∙ same)

  -- where bytes do not go on, there is one fault
  stops_one : (b : Account Ternary) (at : ℕ) (x : List ℕ) (f g : Told) → Stops s b lines at x f → Stops s b lines at x g → f ≡ g
  stops_one b at x f g (Stops.unread u) (Stops.unread v) = fails_one (tests phase.Given lines) at x f g u.1 v.1
  stops_one b at x f g (Stops.unread u) (Stops.refused e after is legal bad told) = absurd (not_read at x after e f legal is u)
  stops_one b at x f g (Stops.unread u) (Stops.past_end after is v) = absurd (not_read at x after End f tt is u)
  stops_one b at x f g (Stops.refused e after is legal bad told) (Stops.unread v) = absurd (not_read at x after e g legal is v)
  stops_one b at x f g (Stops.refused {number = m} e after is legal bad told) (Stops.refused {number = n} e' after' is' legal' bad' told') =
      let one = (record_one lines e' e after' after legal' legal (sym is' ∙ is)).0 in
      let numbers = (gives_one s b e (Err m) (Err n) b b bad (subst (λ z. Gives s b z (Err n) b) one bad')).0 in
      let same : m ≡ n = cc in
      told ∙ ap (λ k. record { number = k; layer = 83; at = at; column = 1 }) same ∙ sym told'
  stops_one b at x f g (Stops.refused {number = m} e after is legal bad told) (Stops.past_end after' is' v) = absurd (no_end b b e (Err m) after after' legal bad (sym is ∙ is'))
  stops_one b at x f g (Stops.past_end after is u) (Stops.unread v) = absurd (not_read at x after End g tt is v)
  stops_one b at x f g (Stops.past_end after is u) (Stops.refused {number = m} e after' is' legal bad told) = absurd (no_end b b e (Err m) after' after legal bad (sym is' ∙ is))
  stops_one b at x f g (Stops.past_end after is u) (Stops.past_end after' is' v) =
      let one = (record_one lines End End after' after tt tt (sym is' ∙ is)).1 in
      fails_one (tests phase.Done lines) (suc at) after f g u.1 (subst (λ z. Fails phase.Done lines (suc at) z g) one v).1

  -- the end with no byte after it is no stop
  end_no_stop : (b : Account Ternary) (at : ℕ) (x : List ℕ) (f : Told) → x ≡ text End ++ (10 ∷ []) → Stops s b lines at x f → ⊥
  end_no_stop b at x f last (Stops.unread u) = not_read at x [] End f tt last u
  end_no_stop b at x f last (Stops.refused {number = m} e after is legal bad told) = no_end b b e (Err m) after [] legal bad (sym is ∙ last)
  end_no_stop b at x f last (Stops.past_end after is u) =
      absurd (u.0 (refl, (record_one lines End End after [] tt tt (sym is ∙ last)).1))

  whole_read : (a b : Account Ternary) (bytes : List ℕ) (w : Whole s a bytes b) → bytes ≡ spell w.entries ++ (text End ++ (10 ∷ []))
  whole_read a b bytes w = w.spelled ∙ sym (append-nil _) ∙ ended_more text w.entries End []

  -- bytes that are whole give one account
  pub whole_one : (a b d : Account Ternary) (bytes : List ℕ) → Whole s a bytes b → Whole s a bytes d → b ≡ d
  whole_one a b d bytes w v =
      (meet a b d w.entries v.entries _ _ w.given v.given (sym (whole_read a b bytes w) ∙ whole_read a d bytes v) (end_stuck b []) (end_stuck d [])).0

  -- other bytes have one first fault
  pub fault_one : (a : Account Ternary) (first : ℕ) (bytes : List ℕ) (f g : Told) → FirstFault s a lines first bytes f → FirstFault s a lines first bytes g → f ≡ g
  fault_one a first bytes f g w v =
      let one = meet a w.account v.account w.before v.before w.rest v.rest w.given v.given (sym w.spelled ∙ v.spelled) (stops_stuck _ _ _ f w.stops) (stops_stuck _ _ _ g v.stops) in
      let stops = subst₃ (λ b es x. Stops s b lines (first + length es) x f) one.0 one.1 one.2 w.stops in
      stops_one _ _ _ f g stops v.stops

  -- and no bytes have both
  pub whole_no_fault : (a b : Account Ternary) (first : ℕ) (bytes : List ℕ) (f : Told) → Whole s a bytes b → FirstFault s a lines first bytes f → ⊥
  whole_no_fault a b first bytes f w v =
      let one = meet a v.account b v.before w.entries v.rest _ v.given w.given (sym v.spelled ∙ whole_read a b bytes w) (stops_stuck _ _ _ f v.stops) (end_stuck b []) in
      end_no_stop v.account _ v.rest f one.2 v.stops
