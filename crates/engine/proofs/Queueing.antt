-- The keys of a line's readers are set one after another, from the last on.
use Rattle.std.proofs.Common.{◌≡◌, ℕ, zero, suc, ◌-◌, ◌<◌, ◌≤◌, ◌⊎◌, List, [], ◌∷◌, length, None, Some, refl, ap, sym, ◌∙◌, subst, inl, inr, ⊎_elim, arith, get_or, set, length-set, Contains}
use Rattle.std.specs.Prelude.{Option}
use Rattle.std.proofs.lemmas.Bool.{cases_eq, cases_lt}
use Rattle.std.proofs.lemmas.Grind.{get_or-set_at}
use Rattle.std.proofs.lemmas.List.{get_or-set_other, get_or_default}
use Rattle.netlist.specs.Gates.{Circuit}
use Rattle.netlist.specs.Walks.{reads}
use Rattle.netlist.proofs.Reading.{reads_nothing}
use Rattle.semantics.specs.Accounts.{Account}
use Rattle.semantics.specs.Circuits.{lines, topology}
use Rattle.semantics.specs.Machines.{Machine, IsGate, ReadsFrom}
use Rattle.semantics.proofs.Wiring.{a_line, gate_range, input_range, gate_reads_few}
use Rattle.values.specs.Systems.{System}
use Rattle.occurrences.specs.Items.{LastBelow, Last, Before}
use Rattle.engine.specs.Lines.{Panel}
use Rattle.engine.specs.Orders.{Keyed, Queued, QueuedBut, KeysStay, KeyedAt}
use Rattle.engine.specs.Readers.{AllRead}
use Rattle.engine.specs.Standing.{machine_of}
use Rattle.engine.proofs.Books.{Sure}

-- how many more are looked at, at most
abbrev pub steps_left : Option ℕ → ℕ
steps_left None = 0
steps_left (Some p) = suc p

module _ (told : List ℕ) (n : ℕ) where
  -- the next to look at is a reader
  abbrev pub Stands : Option ℕ → Type 0
  Stands None = Unit {0}
  Stands (Some p) = (p < length told) × (get_or told p 0 ≡ n)

  pub known : (p : ℕ) (next : Option ℕ) → n ≤ 1024 → Stands (Some p) → Before told p next → LastBelow told (get_or told p 0) p next
  known p next small at before = before.0 at.0 (omega (arith, at.1, small))

  pub stands_first : (next : Option ℕ) → n ≤ 1024 → Last told n next → Stands next
  stands_first None small last = tt
  stands_first (Some p) small last = let found = last.0 small in (found.0, found.1)

  pub stands_next : (p : ℕ) (next : Option ℕ) → n ≤ 1024 → Stands (Some p) → Before told p next → Stands next
  stands_next p None small at before = tt
  stands_next p (Some q) small at before = let last = known p (Some q) small at before in (omega (arith, last.0, at.0), last.1 ∙ at.1)

  -- the next has a smaller place
  pub steps_fewer : (p : ℕ) (next : Option ℕ) → n ≤ 1024 → Stands (Some p) → Before told p next → steps_left next < steps_left (Some p)
  steps_fewer p None small at before = omega arith
  steps_fewer p (Some q) small at before = let last = known p (Some q) small at before in omega (arith, last.0)

module _ {M : Type 0} (s : Machine M) (a : Account M) where
  -- a key that is set
  pub keyed_set : (keys : List ℕ) (p key i : ℕ) → Keyed s a (suc p) key → i < length keys → Keyed s a (suc i) (get_or keys i 0) → Keyed s a (suc i) (get_or (set keys p key) i 0)
  keyed_set keys p key i here within there =
      ⊎_elim (λ is. subst (Keyed s a (suc i)) (sym (get_or-set_at keys p i key 0 is (omega (arith, is, within)))) (subst (λ k. Keyed s a (suc k) key) (sym is) here))
      (λ other. subst (Keyed s a (suc i)) (sym (get_or-set_other keys p i key 0 other)) there) (cases_eq i p)

  pub keyed_here : (keys : List ℕ) (p key : ℕ) → Keyed s a (suc p) key → p < length keys → Keyed s a (suc p) (get_or (set keys p key) p 0)
  keyed_here keys p key here within = subst (Keyed s a (suc p)) (sym (get_or-set_at keys p p key 0 refl within)) here

  module _ (told : List ℕ) (n : ℕ) where
    -- all lines that read line n have their keys, but for those up to the next place to look at
    abbrev pub Looked : Option ℕ → List ℕ → Type 0
    Looked None keys = KeyedAt s a told n keys
    Looked (Some p) keys = (i : ℕ) → p < i → i < length told → i < length keys → get_or told i 0 ≡ n → Keyed s a (suc i) (get_or keys i 0)

    -- one is looked at, and the one before it is next
    module _ (p key : ℕ) (keys : List ℕ) (small : n ≤ 1024) (at : Stands told n (Some p)) (looked : Looked (Some p) keys) (here : Keyed s a (suc p) key) where
      -- those after it and itself have their keys
      so_far : (i : ℕ) → p ≤ i → i < length told → i < length (set keys p key) → get_or told i 0 ≡ n → Keyed s a (suc i) (get_or (set keys p key) i 0)
      so_far i later within inside is =
          let room : i < length keys = omega (arith, inside, length-set keys p key) in
          ⊎_elim (λ same. subst (λ k. Keyed s a (suc k) (get_or (set keys p key) k 0)) (sym same) (keyed_here keys p key here (omega (arith, same, room))))
          (λ other. keyed_set keys p key i here room (looked i (omega (arith, other)) within room is)) (cases_eq i p)

      pub look : (next : Option ℕ) → Before told p next → Looked next (set keys p key)
      look None before = λ i within inside is. so_far i (⊎_elim (λ less. absurd (known told n p None small at before i less (is ∙ sym at.1))) (λ later. later) (cases_lt i p)) within inside is
      look (Some q) before =
          let last = known told n p (Some q) small at before in
          λ i later within inside is. so_far i (⊎_elim (λ less. absurd (last.2 i later less (is ∙ sym at.1))) (λ on. on) (cases_lt i p)) within inside is

    -- where all readers are found from the last on, that one is to be looked at first
    pub look_first : (keys : List ℕ) (next : Option ℕ) → n ≤ 1024 → Last told n next → Looked next keys
    look_first keys None small last = λ i within inside is. absurd (last.0 small i within is)
    look_first keys (Some p) small last = λ i later within inside is. absurd ((last.0 small).2 i later within is)

-- whether a list has a number can be told
pub among : (ms : List ℕ) (n : ℕ) → Contains ms n ⊎ (Contains ms n → ⊥)
among [] n = inr (λ has. omega (arith, has.1))
among (m ∷ ms) n =
    ⊎_elim (λ is. inl (0, omega arith, is))
    (λ other. ⊎_elim (λ has. inl (suc has.0, omega (arith, has.1), has.2)) (λ none. inr (λ has. not_later other none has.0 has.1 has.2)) (among ms n)) (cases_eq m n)
  where
    not_later : (m ≡ n → ⊥) → (Contains ms n → ⊥) → (k : ℕ) → k < length (m ∷ ms) → get_or (m ∷ ms) k n ≡ n → ⊥
    not_later other none zero within is = other is
    not_later other none (suc k) within is = none (k, omega arith, is)

-- only gates read lines
reads_gate : (c : Circuit) (n m : ℕ) → ReadsFrom (topology c) n m → IsGate (topology c) n
reads_gate c n m read =
    ⊎_elim (λ past. ⊎_elim (λ beyond. absurd (none (inr beyond))) (λ within. ⊎_elim (λ an_input. absurd (let range = input_range c n an_input in omega (arith, range.1, past))) (λ a_gate. a_gate) (a_line c n (omega (arith, past)) within)) (cases_lt (lines c) n))
    (λ low. absurd (none (inl low))) (cases_lt c.inputs n)
  where
    none : (n ≤ c.inputs) ⊎ (lines c < n) → ⊥
    none out = let count = ap length (reads_nothing c n out) in omega (arith, read.1, count)

-- all keys are told again where those of a line and of its readers were set, and the others stay
module _ {M : Type 0} (system : System M) (p : Panel) (is : Sure p) (a : Account M) (n : ℕ) (readers : List (List ℕ)) (all : AllRead p.circuit readers) (some : 0 < n) where
  abbrev s : Machine M
  s = machine_of system p

  -- a line that reads line n does so at one of four places
  at_place : (old new : List ℕ) → length new ≡ 1024 → ((place : ℕ) → place < 4 → KeyedAt s a (get_or readers place []) n new) → (i : ℕ) → i < 1024 → ReadsFrom s.topology (suc i) n → Keyed s a (suc i) (get_or new i 0)
  at_place old new long sets i within read =
      let place = read.0 in
      let a_gate : IsGate s.topology (suc i) = reads_gate p.circuit (suc i) n read in
      let range = gate_range p.circuit (suc i) a_gate in
      let few : place < 4 = let most = gate_reads_few p.circuit is.wired (suc i) a_gate in omega (arith, read.1) in
      let told = all place few in
      let same : get_or (get_or readers place []) i 0 ≡ n = told.1 i (omega (arith, range.1)) ∙ (get_or_default (reads p.circuit (suc i)) place 0 n read.1 ∙ read.2) in
      sets place few i (omega (arith, told.0)) (omega (arith, long)) same

  pub queued_again : (old mid new : List ℕ) (key : ℕ) → QueuedBut s a n old → mid ≡ set old (n - 1) key → Keyed s a n key → length new ≡ length mid → KeysStay s a mid new → ((place : ℕ) → place < 4 → KeyedAt s a (get_or readers place []) n new) → Queued s a new
  queued_again old mid new key but is_set keyed same_length stay sets = record { long = long; each = each }
    where
      long_mid : length mid ≡ 1024
      long_mid = ap length is_set ∙ (length-set old (n - 1) key ∙ but.long)

      long : length new ≡ 1024
      long = same_length ∙ long_mid

      back : suc (n - 1) ≡ n
      back = omega (arith, some)

      keyed_back : Keyed s a (suc (n - 1)) key
      keyed_back = subst (λ m. Keyed s a m key) (sym back) keyed

      each : (i : ℕ) → i < 1024 → Keyed s a (suc i) (get_or new i 0)
      each i within =
          ⊎_elim
          (λ here.
          let place : i ≡ n - 1 = omega (arith, here) in
          stay i (omega (arith, within, long_mid)) (subst (λ ks. Keyed s a (suc i) (get_or ks i 0)) (sym is_set) (subst (λ k. Keyed s a (suc k) (get_or (set old (n - 1) key) k 0)) (sym place) (keyed_here s a old (n - 1) key keyed_back (omega (arith, within, place, but.long))))))
          (λ other.
          ⊎_elim (λ read. at_place old new long sets i within read)
          (λ unread. stay i (omega (arith, within, long_mid)) (subst (λ ks. Keyed s a (suc i) (get_or ks i 0)) (sym is_set) (keyed_set s a old (n - 1) key i keyed_back (omega (arith, within, but.long)) (but.others i within other unread))))
          (among (s.topology.reads (suc i)) n))
          (cases_eq (suc i) n)
