-- How lines begin.
use Rattle.std.proofs.Common.{◌≡◌, ℕ, zero, suc, ◌+◌, ◌<◌, ◌≤◌, true, map, refl, sym, ap, ◌∙◌, subst, inl, inr, ⊎_elim, arith}
use Rattle.std.proofs.lemmas.Bool.{cases_Bool, cases_eq}
use mathlib.Core.Bool.{Bool-set}
use mathlib.Core.Logic.{∥∥₁_elim}
use Rattle.netlist.specs.Gates.{Circuit}
use Rattle.netlist.specs.Walks.{Looped, reads}
use Rattle.values.specs.Systems.{System}
use Rattle.gates.specs.Functions.{gate_function}
use Rattle.semantics.specs.Circuits.{lines, topology, gate_of_line, Wired}
use Rattle.semantics.specs.Computed.{looped, initial}
use Rattle.semantics.specs.Machines.{IsInput, IsGate, IsLine}
use Rattle.semantics.proofs.Depths.{depth, depth_bound, depth_falls}
use Rattle.semantics.proofs.Looping.{looped_passes, looped_walks, not_looped}
use Rattle.semantics.proofs.Ruling.{begins, gates_equal}
use Rattle.semantics.proofs.Wiring.{read_line, reads_of, line_range}
use Rattle.engine.specs.Makings.{SettledAt, RightTo, AllRight}
use Rattle.engine.proofs.Books.{positive}

-- a line is not both marked as looped and not looped
pub marked : (c : Circuit) (n : ℕ) → ∥ Looped c n ∥₁ → (Looped c n → ⊥) → ⊥
marked c n loop none = none (looped_walks c n (∥∥₁_elim loop (Bool-set (looped c n) true) (looped_passes c n)))

-- where nothing is another, a line that is an input's or looped is settled
pub unmoved : {M : Type 0} (s : System M) (c : Circuit) (line : ℕ) (b : ℕ → M) → (IsGate (topology c) line → (Looped c line → ⊥) → b line ≡ gate_function s (gate_of_line c line).kind (map b (reads c line))) → SettledAt s c line b b
unmoved s c line b own = record { its_own = own; looped = λ gate loop. refl; no_gate = λ none. refl; others = λ n is_line other. refl }

module _ {M : Type 0} (s : System M) (c : Circuit) (wired : Wired c) (start : ℕ → M) where
  -- where inputs begin as given and gates' lines with START, inputs and looped lines are right
  pub right_at_first : (b : ℕ → M) → ((n : ℕ) → IsInput (topology c) n → b n ≡ start n) → ((n : ℕ) → IsGate (topology c) n → b n ≡ s.start) → RightTo s c start 0 b
  right_at_first b inputs gates n is_line shallow = ⊎_elim
      (λ an_input. inputs n an_input ∙ sym ((begins s c wired start).at_inputs n an_input))
      (λ a_gate.
      ⊎_elim (λ loop. gates n a_gate ∙ sym ((begins s c wired start).at_looped n a_gate (looped_walks c n loop))) (λ told. let low = shallow a_gate (not_looped c n told) in absurd (omega arith))
      (cases_Bool (looped c n)))
      is_line

  module _ (k line : ℕ) (b b' : ℕ → M) (right : RightTo s c start k b) (h : SettledAt s c line b b') where
    -- the line itself is right, if it is at most so deep
    pub here : IsLine (topology c) line → (IsGate (topology c) line → (Looped c line → ⊥) → depth c line < suc k) → b' line ≡ initial s c start line
    here is_line shallow = ⊎_elim an_input a_gate is_line
      where
        an_input : IsInput (topology c) line → b' line ≡ initial s c start line
        an_input is = h.no_gate (λ gate. cc) ∙ right line (inl is) (λ gate none. cc)

        a_gate : IsGate (topology c) line → b' line ≡ initial s c start line
        a_gate is =
            ⊎_elim (λ loop. h.looped is (looped_walks c line loop) ∙ right line (inr is) (λ gate none. absurd (none (looped_walks c line loop))))
            (λ told.
            let none = not_looped c line told in
            h.its_own is none
            ∙ (gates_equal s (gate_of_line c line).kind b (initial s c start) (reads c line)
            (λ m read. right m (read_line c wired line is m (reads_of c line m read)) (λ gate other. let falls = depth_falls c wired line m is told (reads_of c line m read) in let low = shallow is none in omega arith))
            ∙ sym ((begins s c wired start).at_others line is none)))
            (cases_Bool (looped c line))

    -- the line itself, or another that is right
    pub at_or_else : (n : ℕ) → IsLine (topology c) n → (IsGate (topology c) n → (Looped c n → ⊥) → depth c n < suc k) → ((n ≡ line → ⊥) → b n ≡ initial s c start n) → b' n ≡ initial s c start n
    at_or_else n is_line shallow known =
        ⊎_elim
        (λ same. subst (λ m. b' m ≡ initial s c start m) (sym same) (here (subst (IsLine (topology c)) same is_line) (λ gate none. let low = shallow (subst (IsGate (topology c)) (sym same) gate) (subst (λ m. Looped c m → ⊥) (sym same) none) in omega (arith, ap (depth c) same))))
        (λ other. h.others n is_line other ∙ known other)
        (cases_eq n line)

    -- what was right is right
    pub stays_right : RightTo s c start k b'
    stays_right n is_line shallow = at_or_else n is_line (λ gate none. let low = shallow gate none in omega arith) (λ other. right n is_line shallow)

-- Lines are right to a depth, and those up to a line one gate deeper.
pub record PassedTo {M : Type 0} (s : System M) (c : Circuit) (start : ℕ → M) (k line : ℕ) (b : ℕ → M) : Type 0 where
  pub right : RightTo s c start k b
  pub deeper : (n : ℕ) → n ≤ line → IsLine (topology c) n → (IsGate (topology c) n → (Looped c n → ⊥) → depth c n < suc k) → b n ≡ initial s c start n

module _ {M : Type 0} (s : System M) (c : Circuit) (start : ℕ → M) (k : ℕ) where
  pub passed_none : (b : ℕ → M) → RightTo s c start k b → PassedTo s c start k 0 b
  passed_none b right = record { right = right; deeper = λ n low is_line shallow. let some = positive c n is_line in absurd (omega arith) }

  pub passed_one : Wired c → (place : ℕ) (b b' : ℕ → M) → PassedTo s c start k place b → SettledAt s c (place + 1) b b' → PassedTo s c start k (place + 1) b'
  passed_one wired place b b' passed h = record {
    right = stays_right s c wired start k (place + 1) b b' passed.right h;
    deeper = λ n upto is_line shallow. at_or_else s c wired start k (place + 1) b b' passed.right h n is_line shallow (λ other. passed.deeper n (omega (arith, other)) is_line shallow);
  }

  pub passed_all : (b : ℕ → M) → PassedTo s c start k (lines c) b → RightTo s c start (suc k) b
  passed_all b passed n is_line shallow = passed.deeper n (line_range c n is_line) is_line shallow

  -- lines right to the greatest depth are all right
  pub all_right : (b : ℕ → M) → RightTo s c start (lines c + 1) b → AllRight s c start b
  all_right b right n is_line = right n is_line (λ gate none. let far = depth_bound c n in omega arith)

-- where one depth leads to the next, all lines are right
pub right_on : {M : Type 0} (s : System M) (c : Circuit) (start : ℕ → M) (b : ℕ → M) → ((k : ℕ) → RightTo s c start k b → RightTo s c start (suc k) b) → (k : ℕ) → RightTo s c start 0 b → RightTo s c start k b
right_on s c start b next zero right = right
right_on s c start b next (suc k) right = next k (right_on s c start b next k right)

pub least_right : {M : Type 0} (s : System M) (c : Circuit) (start : ℕ → M) (b : ℕ → M) (k : ℕ) → RightTo s c start k b → RightTo s c start 0 b
least_right s c start b k right n is_line shallow = right n is_line (λ gate none. let low = shallow gate none in absurd (omega arith))
