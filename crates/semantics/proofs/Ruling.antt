-- The functions that compute initial values and values obey the rule, and nothing else does: what obeys the rule in two
-- systems is tied by every kept relation.
use Rattle.std.proofs.Common.{◌≡◌, ℕ, zero, suc, ◌+◌, ◌-◌, ◌<◌, ◌≤◌, Bool, true, false, ltb, List, [], ◌∷◌, map, refl, ap, sym, ◌∙◌, subst, inl, inr, ⊎_elim, arith, Contains}
use mathlib.Core.Path.{ap₂}
use Rattle.std.specs.List.{AllZip}
use Rattle.std.proofs.lemmas.Bool.{cases_lt, cases_Bool, lt-ltb, le-ltb}
use Rattle.netlist.specs.Gates.{Circuit}
use Rattle.netlist.specs.Walks.{reads}
use Rattle.values.specs.Systems.{System}
use Rattle.values.specs.Relations.{Kept}
use Rattle.gates.specs.Functions.{gate_function}
use Rattle.gates.proofs.Ties.{gates_tied}
use Rattle.semantics.specs.Machines.{Driver, IsInput, IsGate, IsLine}
use Rattle.semantics.specs.Machines.Driver.{undriven, input, gate}
use Rattle.semantics.specs.Circuits.{lines, gate_of_line, topology, Wired}
use Rattle.semantics.specs.Computed.{looped, begin, begin_to, initial, follow, follow_to, value}
use Rattle.semantics.specs.CircuitMachine.{rule}
use Rattle.semantics.specs.Rules.{Begins, Obeys}
use Rattle.semantics.proofs.Depths.{depth, depth_bound, depth_falls}
use Rattle.semantics.proofs.Locality.{Horizon, Carries, Local}
use Rattle.semantics.proofs.Looping.{looped_passes, looped_walks, not_looped}
use Rattle.semantics.proofs.Wiring.{gate_time, reads_of, sound}

-- two functions answer tied values at every line of a list
all_tied : {M N : Type 0} (R : M → N → Type 0) (f : ℕ → M) (g : ℕ → N) (ms : List ℕ) → ((m : ℕ) → Contains ms m → R (f m) (g m)) → AllZip R (map f ms) (map g ms)
all_tied R f g [] ties = tt
all_tied R f g (m ∷ ms) ties = (ties m (0, omega arith, refl), all_tied R f g ms (λ j among. ties j (suc among.0, omega (arith, among.1), among.2)))

-- equality is a kept relation
pub equality_kept : {M : Type 0} (s : System M) → Kept s s ◌≡◌
equality_kept s = record {
  start = refl;
  not = λ a b same. ap s.not same;
  and = λ a c b d one other. ap₂ s.and one other;
  or = λ a c b d one other. ap₂ s.or one other;
  xor = λ a c b d one other. ap₂ s.xor one other;
}

-- a gate shows the same of equal values
pub gates_equal : {M : Type 0} (s : System M) (kind : _) (f g : ℕ → M) (ms : List ℕ) → ((m : ℕ) → Contains ms m → f m ≡ g m) → gate_function s kind (map f ms) ≡ gate_function s kind (map g ms)
gates_equal s kind f g ms same = gates_tied s s ◌≡◌ (equality_kept s) kind (map f ms) (map g ms) (all_tied ◌≡◌ f g ms same)

-- what a gate reads is a line of the circuit
read_line : (c : Circuit) → Wired c → (n m : ℕ) → IsGate (topology c) n → Contains (reads c n) m → IsLine (topology c) m
read_line c wired n m a_gate read = (sound c wired).reads_lines n m a_gate read

module _ {M : Type 0} (s : System M) (c : Circuit) (wired : Wired c) (start : ℕ → M) where
  begin_driver : (ℕ → M) → ℕ → Driver → Bool → M
  begin_driver known n d loop = elim d [ undriven ↦ s.start | input ↦ start n | gate ↦ elim loop [ true ↦ s.start | false ↦ gate_function s (gate_of_line c n).kind (map known (reads c n)) ] ]

  begin_input : (known : ℕ → M) (n : ℕ) → IsInput (topology c) n → begin s c start known n ≡ start n
  unfolding begin_driver
  begin_input known n is = ap (λ d. begin_driver known n d (looped c n)) is

  begin_looped : (known : ℕ → M) (n : ℕ) → IsGate (topology c) n → looped c n ≡ true → begin s c start known n ≡ s.start
  unfolding begin_driver
  begin_looped known n is loop = ap (λ d. begin_driver known n d (looped c n)) is ∙ ap (begin_driver known n gate) loop

  begin_other : (known : ℕ → M) (n : ℕ) → IsGate (topology c) n → looped c n ≡ false → begin s c start known n ≡ gate_function s (gate_of_line c n).kind (map known (reads c n))
  unfolding begin_driver
  begin_other known n is none = ap (λ d. begin_driver known n d (looped c n)) is ∙ ap (begin_driver known n gate) none

  -- deep enough, one depth more makes no difference
  stable : (far n : ℕ) → IsLine (topology c) n → depth c n < far → begin_to s c start far n ≡ begin_to s c start (suc far) n
  unfolding begin_to
  stable zero n line within = absurd (omega arith)
  stable (suc far) n line within =
      ⊎_elim (λ an_input. begin_input (begin_to s c start far) n an_input ∙ sym (begin_input (begin_to s c start (suc far)) n an_input))
      (λ a_gate. ⊎_elim (λ loop. begin_looped (begin_to s c start far) n a_gate loop ∙ sym (begin_looped (begin_to s c start (suc far)) n a_gate loop))
      (λ none.
      begin_other (begin_to s c start far) n a_gate none ∙ (gates_equal s (gate_of_line c n).kind (begin_to s c start far) (begin_to s c start (suc far)) (reads c n)
      (λ m read. stable far m (read_line c wired n m a_gate read) (let falls = depth_falls c wired n m a_gate none (reads_of c n m read) in omega arith)) ∙ sym (begin_other (begin_to s c start (suc far)) n a_gate none)))
      (cases_Bool (looped c n)))
      line

  initial_begun : (n : ℕ) → IsLine (topology c) n → initial s c start n ≡ begin s c start (initial s c start) n
  unfolding initial begin_to
  initial_begun n line = stable (suc (lines c)) n line (let b = depth_bound c n in omega arith)

  pub begins : Begins s c start (initial s c start)
  begins = record {
    at_inputs = λ n an_input. initial_begun n (inl an_input) ∙ begin_input (initial s c start) n an_input;
    at_looped = λ n a_gate loop. initial_begun n (inr a_gate) ∙ begin_looped (initial s c start) n a_gate (looped_passes c n loop);
    at_others = λ n a_gate none. initial_begun n (inr a_gate) ∙ begin_other (initial s c start) n a_gate (⊎_elim (λ loop. absurd (none (looped_walks c n loop))) (λ is. is) (cases_Bool (looped c n)));
  }

  module _ (waveform : ℕ → ℕ → M) where
    follow_driver : (ℕ → ℕ → M) → ℕ → ℕ → Driver → Bool → M
    follow_driver known n t d early =
        elim d [ undriven ↦ s.start | input ↦ waveform n t | gate ↦ elim early [ true ↦ initial s c start n | false ↦ gate_function s (gate_of_line c n).kind (map (λ m. known m (t - (gate_of_line c n).delay)) (reads c n)) ] ]

    follow_input : (known : ℕ → ℕ → M) (n t : ℕ) → IsInput (topology c) n → follow s c start waveform known n t ≡ waveform n t
    unfolding follow_driver
    follow_input known n t is = ap (λ d. follow_driver known n t d (ltb t (gate_of_line c n).delay)) is

    follow_early : (known : ℕ → ℕ → M) (n t : ℕ) → IsGate (topology c) n → t < (gate_of_line c n).delay → follow s c start waveform known n t ≡ initial s c start n
    unfolding follow_driver
    follow_early known n t is early = ap (λ d. follow_driver known n t d (ltb t (gate_of_line c n).delay)) is ∙ ap (follow_driver known n t gate) (lt-ltb t (gate_of_line c n).delay early)

    follow_later : (known : ℕ → ℕ → M) (n t : ℕ) → IsGate (topology c) n → (gate_of_line c n).delay ≤ t → follow s c start waveform known n t ≡ gate_function s (gate_of_line c n).kind (map (λ m. known m (t - (gate_of_line c n).delay)) (reads c n))
    unfolding follow_driver
    follow_later known n t is later = ap (λ d. follow_driver known n t d (ltb t (gate_of_line c n).delay)) is ∙ ap (follow_driver known n t gate) (le-ltb t (gate_of_line c n).delay later)

    -- a value hangs on those at earlier ticks
    follow_alike : (known other : ℕ → ℕ → M) (n t : ℕ) → IsLine (topology c) n → ((m u : ℕ) → IsLine (topology c) m → u < t → known m u ≡ other m u) → follow s c start waveform known n t ≡ follow s c start waveform other n t
    follow_alike known other n t line same =
        ⊎_elim (λ an_input. follow_input known n t an_input ∙ sym (follow_input other n t an_input))
        (λ a_gate. ⊎_elim (λ early. follow_early known n t a_gate early ∙ sym (follow_early other n t a_gate early))
        (λ late.
        let time = gate_time c wired n a_gate in
        let u : ℕ = t - (gate_of_line c n).delay in
        follow_later known n t a_gate late ∙ (gates_equal s (gate_of_line c n).kind (λ m. known m u) (λ m. other m u) (reads c n) (λ m read. same m u (read_line c wired n m a_gate read) (omega arith)) ∙ sym (follow_later other n t a_gate late)))
        (cases_lt t (gate_of_line c n).delay))
        line

    -- beyond the tick, how deep makes no difference
    deep_enough : (far other n t : ℕ) → IsLine (topology c) n → t < far → t < other → follow_to s c start waveform far n t ≡ follow_to s c start waveform other n t
    unfolding follow_to
    deep_enough zero other n t line within within' = absurd (omega arith)
    deep_enough (suc far) zero n t line within within' = absurd (omega arith)
    deep_enough (suc far) (suc other) n t line within within' =
        follow_alike (follow_to s c start waveform far) (follow_to s c start waveform other) n t line (λ m u line' earlier. deep_enough far other m u line' (omega arith) (omega arith))

    value_followed : (n t : ℕ) → IsLine (topology c) n → value s c start waveform n t ≡ follow s c start waveform (value s c start waveform) n t
    unfolding value follow_to
    value_followed n t line = follow_alike (follow_to s c start waveform t) (value s c start waveform) n t line (λ m u line' earlier. deep_enough t (suc u) m u line' earlier (omega arith))

    pub obeys : Obeys s c (initial s c start) waveform (value s c start waveform)
    obeys = record {
      at_inputs = λ n t an_input. value_followed n t (inl an_input) ∙ follow_input (value s c start waveform) n t an_input;
      below_delay = λ n t a_gate early. value_followed n t (inr a_gate) ∙ follow_early (value s c start waveform) n t a_gate early;
      one_delay_later = λ n t a_gate.
          let d : ℕ = (gate_of_line c n).delay in
          let same : t + d - d ≡ t = omega arith in
          value_followed n (t + d) (inr a_gate) ∙ (follow_later (value s c start waveform) n (t + d) a_gate (omega arith) ∙ ap (λ u. gate_function s (gate_of_line c n).kind (map (λ m. value s c start waveform m u) (reads c n))) same);
    }

module _ {M N : Type 0} (s : System M) (q : System N) (c : Circuit) (wired : Wired c) (R : M → N → Type 0) (kept : Kept s q R) where
  -- a gate shows tied values of tied values
  shows_tied : (n : ℕ) (f : ℕ → M) (g : ℕ → N) → ((m : ℕ) → Contains (reads c n) m → R (f m) (g m)) → R (gate_function s (gate_of_line c n).kind (map f (reads c n))) (gate_function q (gate_of_line c n).kind (map g (reads c n)))
  shows_tied n f g ties = gates_tied s q R kept (gate_of_line c n).kind (map f (reads c n)) (map g (reads c n)) (all_tied R f g (reads c n) ties)

  across : {x x' : M} {y y' : N} → x ≡ x' → y ≡ y' → R x' y' → R x y
  across {x' = x'} {y = y} one other tied = subst (λ z. R z y) (sym one) (subst (λ z. R x' z) (sym other) tied)

  module _ (start init : ℕ → M) (begin init' : ℕ → N) (left : Begins s c start init) (right : Begins q c begin init') (starts : (n : ℕ) → IsInput (topology c) n → R (start n) (begin n)) where
    begun_tied : (far n : ℕ) → IsLine (topology c) n → depth c n < far → R (init n) (init' n)
    begun_tied zero n line within = absurd (omega arith)
    begun_tied (suc far) n line within =
        ⊎_elim (λ an_input. across (left.at_inputs n an_input) (right.at_inputs n an_input) (starts n an_input))
        (λ a_gate. ⊎_elim (λ loop. let walk = looped_walks c n loop in across (left.at_looped n a_gate walk) (right.at_looped n a_gate walk) kept.start)
        (λ none.
        let free = not_looped c n none in
        across (left.at_others n a_gate free) (right.at_others n a_gate free)
        (shows_tied n init init' (λ m read. begun_tied far m (read_line c wired n m a_gate read) (let falls = depth_falls c wired n m a_gate none (reads_of c n m read) in omega arith))))
        (cases_Bool (looped c n)))
        line

    pub initials_tied : (n : ℕ) → IsLine (topology c) n → R (init n) (init' n)
    initials_tied n line = begun_tied (suc (depth c n)) n line (omega arith)

    module _ (waveform v : ℕ → ℕ → M) (other_waveform w : ℕ → ℕ → N) (one : Obeys s c init waveform v) (other : Obeys q c init' other_waveform w) (Within : ℕ → ℕ → Type 0) (horizon : Horizon (topology c) Within) (waveforms : (n t : ℕ) → IsInput (topology c) n → Within n t → R (waveform n t) (other_waveform n t)) where
      obeyed_tied : (far n t : ℕ) → IsLine (topology c) n → t < far → Within n t → R (v n t) (w n t)
      obeyed_tied zero n t line before within = absurd (omega arith)
      obeyed_tied (suc far) n t line before within =
          ⊎_elim (λ an_input. across (one.at_inputs n t an_input) (other.at_inputs n t an_input) (waveforms n t an_input within))
          (λ a_gate. ⊎_elim (λ early. across (one.below_delay n t a_gate early) (other.below_delay n t a_gate early) (initials_tied n (inr a_gate)))
          (λ late.
          let time = gate_time c wired n a_gate in
          let u : ℕ = t - (gate_of_line c n).delay in
          let same : u + (gate_of_line c n).delay ≡ t = omega arith in
          subst (λ x. R (v n x) (w n x)) same
          (across (one.one_delay_later n u a_gate) (other.one_delay_later n u a_gate)
          (shows_tied n (λ m. v m u) (λ m. w m u) (λ m read. obeyed_tied far m u (read_line c wired n m a_gate read) (omega arith) (horizon.back n m u a_gate read (subst (Within n) (sym same) within))))))
          (cases_lt t (gate_of_line c n).delay))
          line

      pub values_tied : (n t : ℕ) → IsLine (topology c) n → Within n t → R (v n t) (w n t)
      values_tied n t line within = obeyed_tied (suc t) n t line (omega arith) within

  pub rule_carries : Carries (topology c) (rule s c) (rule q c) R
  rule_carries = record {
    initial = λ start begin starts. initials_tied start (initial s c start) begin (initial q c begin) (begins s c wired start) (begins q c wired begin) starts;
    value = λ start begin waveform other_waveform starts Within horizon waveforms.
        values_tied start (initial s c start) begin (initial q c begin) (begins s c wired start) (begins q c wired begin) starts waveform (value s c start waveform) other_waveform (value q c begin other_waveform) (obeys s c wired start waveform)
        (obeys q c wired begin other_waveform) Within horizon waveforms;
  }

pub rule_local : {M : Type 0} (s : System M) (c : Circuit) → Wired c → Local (topology c) (rule s c)
rule_local s c wired = record {
  input_begins = λ start n an_input. (begins s c wired start).at_inputs n an_input;
  input_given = λ start waveform n t an_input. (obeys s c wired start waveform).at_inputs n t an_input;
  gate_waits = λ start waveform n t a_gate early. (obeys s c wired start waveform).below_delay n t a_gate early;
  carries = rule_carries s s c wired ◌≡◌ (equality_kept s);
}

module _ {M : Type 0} (s : System M) (c : Circuit) (wired : Wired c) (start init : ℕ → M) (from : Begins s c start init) where
  -- nothing else begins so
  pub only_initials : (n : ℕ) → IsLine (topology c) n → init n ≡ initial s c start n
  only_initials n line = initials_tied s s c wired ◌≡◌ (equality_kept s) start init start (initial s c start) from (begins s c wired start) (λ m an_input. refl) n line

  -- nothing else obeys so
  pub only_values : (waveform v : ℕ → ℕ → M) → Obeys s c init waveform v → (n t : ℕ) → IsLine (topology c) n → v n t ≡ value s c start waveform n t
  only_values waveform v obeyed n t line =
      values_tied s s c wired ◌≡◌ (equality_kept s) start init start (initial s c start) from (begins s c wired start) (λ m an_input. refl) waveform v waveform (value s c start waveform) obeyed (obeys s c wired start waveform) (λ m u. Unit {0})
      (record { down = λ m u within. tt; back = λ m j u a_gate read within. tt }) (λ m u an_input within. refl) n t line tt
