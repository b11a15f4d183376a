-- Every run has an outcome; and where every gate is reached, a run long enough ends at rest.
use Rattle.std.proofs.Common.{◌≡◌, ℕ, zero, suc, ◌-◌, ◌<◌, ◌≤◌, ◌⊎◌, ap, sym, subst, inl, inr, ⊎_elim, arith}
use Rattle.std.proofs.lemmas.Bool.{cases_lt, cases_eq}
use Rattle.semantics.specs.Machines.{Machine, IsInput, IsGate}
use Rattle.semantics.specs.Machines.Driver.{undriven}
use Rattle.semantics.specs.Accounts.{Account, value, before}
use Rattle.semantics.specs.Laws.{ToldOnTheWay, Outcome, ComesToRest}
use Rattle.semantics.specs.Logs.{Ending, Takes, Run}
use Rattle.semantics.specs.Moves.{put, taken, Takeable, ComesFirst, Rests, Rest}
use Rattle.semantics.proofs.Goals.{cases_driver, not_both}
use Rattle.semantics.proofs.Invariants.{Invariant}
use Rattle.semantics.proofs.Keeping.{take_goes}
use Rattle.semantics.proofs.Putting.{put_here, put_grows}
use Rattle.semantics.proofs.Locality.{Sound}
use Rattle.semantics.proofs.Resting.{resting, rests_or_moves, can_move}
use Rattle.semantics.proofs.Sums.{total, total_more}

module _ {M : Type 0} (s : Machine M) (sound : Sound s.topology) (size : ℕ) (within : (n : ℕ) → IsGate s.topology n → n < size) where
  module _ (a : Account M) where
    -- all gates below a line rest
    abbrev AllRest : ℕ → Type 0
    AllRest k = (n : ℕ) → n < k → IsGate s.topology n → Rests s a n

    -- of the gates below a line that can be taken, one comes first
    record First (k : ℕ) : Type 0 where
      line : ℕ
      below : line < k
      can : Takeable s a line
      first : (m : ℕ) → m < k → Takeable s a m → (a.front line < a.front m) ⊎ ((a.front line ≡ a.front m) × line ≤ m)

    -- line k rests, or is no gate's
    all_on : (k : ℕ) → (IsGate s.topology k → Rests s a k) → AllRest k → AllRest (suc k)
    all_on k rests all n below a_gate = ⊎_elim (λ same. subst (Rests s a) (sym same) (rests (subst (IsGate s.topology) same a_gate))) (λ other. all n (omega (arith, other)) a_gate) (cases_eq n k)

    first_on : (k : ℕ) → (Takeable s a k → ⊥) → First k → First (suc k)
    first_on k never f = record {
      line = f.line;
      below = omega (arith, f.below);
      can = f.can;
      first = λ m below able. ⊎_elim (λ same. absurd (never (subst (Takeable s a) same able))) (λ other. f.first m (omega (arith, other)) able) (cases_eq m k);
    }

    -- line k can be taken
    first_alone : (k : ℕ) → Takeable s a k → AllRest k → First (suc k)
    first_alone k can all = record {
      line = k;
      below = omega arith;
      can = can;
      first = λ m below able. ⊎_elim (λ same. inr (ap a.front (sym same), omega (arith, same))) (λ other. absurd (resting s a m (all m (omega (arith, other)) able.can.a_gate) able)) (cases_eq m k);
    }

    first_of : (k : ℕ) → Takeable s a k → First k → First (suc k)
    first_of k can f = ⊎_elim sooner later (cases_lt (a.front k) (a.front f.line))
      where
        sooner : a.front k < a.front f.line → First (suc k)
        sooner less = record {
          line = k;
          below = omega arith;
          can = can;
          first = λ m below able.
              ⊎_elim (λ same. inr (ap a.front (sym same), omega (arith, same))) (λ other. inl (⊎_elim (λ l. omega arith) (λ e. omega (arith, e.0)) (f.first m (omega (arith, other)) able))) (cases_eq m k);
        }

        later : a.front f.line ≤ a.front k → First (suc k)
        later no_less = record {
          line = f.line;
          below = omega (arith, f.below);
          can = f.can;
          first = λ m below able.
              ⊎_elim (λ same. let fronts : a.front m ≡ a.front k = ap a.front same in ⊎_elim (λ l. inl (omega arith)) (λ e. inr (omega arith, omega (arith, f.below, same))) (cases_lt (a.front f.line) (a.front k)))
              (λ other. f.first m (omega (arith, other)) able) (cases_eq m k);
        }

    -- one that can be taken comes first of all
    pub record FirstOfAll : Type 0 where
      pub line : ℕ
      pub comes : ComesFirst s a line

    module _ (h : Invariant s a) (told : (n : ℕ) → IsGate s.topology n → ToldOnTheWay s a n) where
      next_line : (k : ℕ) → AllRest k ⊎ First k → AllRest (suc k) ⊎ First (suc k)
      next_line k so_far = ⊎_elim (⊎_elim an_input a_gate) no_line (cases_driver s.topology k)
        where
          passed : (IsGate s.topology k → Rests s a k) → (Takeable s a k → ⊥) → AllRest (suc k) ⊎ First (suc k)
          passed rests never = ⊎_elim (λ all. inl (all_on k rests all)) (λ f. inr (first_on k never f)) so_far

          an_input : IsInput s.topology k → AllRest (suc k) ⊎ First (suc k)
          an_input is = passed (λ gate. absurd (not_both s.topology k is gate)) (λ able. not_both s.topology k is able.can.a_gate)

          a_gate : IsGate s.topology k → AllRest (suc k) ⊎ First (suc k)
          a_gate is =
              ⊎_elim (λ rests. passed (λ gate. rests) (resting s a k rests)) (λ can. ⊎_elim (λ all. inr (first_alone k can all)) (λ f. inr (first_of k can f)) so_far) (rests_or_moves s a h k is (told k is) sound)

          no_line : s.topology.driver k ≡ undriven → AllRest (suc k) ⊎ First (suc k)
          no_line is = passed (λ gate. absurd (no_gate is gate)) (λ able. no_gate is able.can.a_gate)
            where
              no_gate : s.topology.driver k ≡ undriven → IsGate s.topology k → ⊥
              no_gate none gate = cc

      up_to : (k : ℕ) → AllRest k ⊎ First k
      up_to zero = inl (λ n below a_gate. absurd (omega arith))
      up_to (suc k) = next_line k (up_to k)

      pub rest_or_first : Rest s a ⊎ FirstOfAll
      rest_or_first =
          ⊎_elim (λ all. inl (λ n a_gate. all n (within n a_gate) a_gate))
          (λ f. inr (record { line = f.line; comes = record { can = f.can; first = λ m able. f.first m (within m able.can.a_gate) able } })) (up_to size)

  module _ (compared : (x y : M) → Dec (x ≡ y)) where
    -- a gate that comes first, or rest
    next : (a : Account M) → Invariant s a → Rest s a ⊎ FirstOfAll a
    next a h = rest_or_first a h (λ n a_gate t from to. compared (value s a n t) (before s a n t))

    one_take : (a : Account M) → FirstOfAll a → Account M
    one_take a f = taken a f.line f.comes.can.front

    held_on : (a : Account M) (h : Invariant s a) (f : FirstOfAll a) → Invariant s (one_take a f)
    unfolding one_take
    held_on a h f = (take_goes s a f.line f.comes.can.front h f.comes.can.can).held

    -- the outcome with one take before
    prefixed : {most count : ℕ} {a end : Account M} {ending : Ending} (f : FirstOfAll a) → Run s most (one_take a f) end count ending → Outcome s (suc most) a
    unfolding one_take
    prefixed {count = count} {end = end} f (Run.to_rest takes few rest) =
        record { end = end; count = suc count; ending = Ending.rest; run = Run.to_rest (Takes.one_more f.comes f.comes.can.can takes) (omega arith) rest }
    prefixed {most = most} {end = end} f (Run.to_count takes left) =
        record { end = end; count = suc most; ending = Ending.more; run = Run.to_count (Takes.one_more f.comes f.comes.can.can takes) left }

    pub outcome : (most : ℕ) (a : Account M) → Invariant s a → Outcome s most a
    outcome zero a h = ⊎_elim (λ rest. record { end = a; count = 0; ending = Ending.rest; run = Run.to_rest Takes.none (omega arith) rest })
        (λ f. record { end = a; count = 0; ending = Ending.more; run = Run.to_count Takes.none (can_move s a f.line f.comes.can) }) (next a h)
    outcome (suc most) a h = ⊎_elim (λ rest. record { end = a; count = 0; ending = Ending.rest; run = Run.to_rest Takes.none (omega arith) rest })
        (λ f. prefixed f (outcome most (one_take a f) (held_on a h f)).run) (next a h)

    -- fronts that cannot go beyond bounds, as long as no more is given
    module _ (ends : ℕ → ℕ) (bound : ℕ → ℕ) (bounded : (a : Account M) → a.end ≡ ends → Invariant s a → (n : ℕ) → IsGate s.topology n → a.front n ≤ bound n) where
      -- how far all fronts together are from their bounds
      left : Account M → ℕ
      left a = total (λ n. bound n - a.front n) size

      fewer_left : (a : Account M) → a.end ≡ ends → (h : Invariant s a) (f : FirstOfAll a) → left (one_take a f) < left a
      unfolding left one_take
      fewer_left a same h f =
          total_more (λ n. bound n - put a.front f.line to n) (λ n. bound n - a.front n) (λ n. let g = put_grows a.front f.line to (omega (arith, f.comes.can.can.onward)) n in omega arith) f.line size
          (within f.line f.comes.can.can.a_gate) closer
        where
          to : ℕ
          to = f.comes.can.front

          closer : bound f.line - put a.front f.line to f.line < bound f.line - a.front f.line
          closer =
              let here = put_here a.front f.line to in
              let most = bounded (one_take a f) same (held_on a h f) f.line f.comes.can.can.a_gate in
              omega (arith, f.comes.can.can.onward)

      -- takes up to a rest
      record Finish (a : Account M) : Type 0 where
        count : ℕ
        end : Account M
        takes : Takes s count a end
        rest : Rest s end

      finish : (fuel : ℕ) (a : Account M) → a.end ≡ ends → Invariant s a → left a < fuel → Finish a
      unfolding one_take
      finish zero a same h within' = absurd (omega arith)
      finish (suc fuel) a same h within' = ⊎_elim (λ rest. record { count = 0; end = a; takes = Takes.none; rest = rest })
          (λ f.
          let fewer = fewer_left a same h f in
          let on = finish fuel (one_take a f) same (held_on a h f) (omega arith) in
          record { count = suc on.count; end = on.end; takes = Takes.one_more f.comes f.comes.can.can on.takes; rest = on.rest }) (next a h)

      pub comes_to_rest : (a : Account M) → a.end ≡ ends → Invariant s a → ComesToRest s a
      comes_to_rest a same h =
          let all = finish (suc (left a)) a same h (omega arith) in
          record { enough = all.count; end = all.end; rest = all.rest; runs = λ most few. Run.to_rest all.takes few all.rest }
