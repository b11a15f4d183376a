-- How deep a gate line lies that is not looped: how many lines lead to it.
use Rattle.std.proofs.Common.{◌≡◌, ℕ, suc, ◌<◌, ◌≤◌, Bool, true, false, cond, refl, ap, ◌∙◌, ⊎_elim, arith}
use Rattle.std.proofs.lemmas.Bool.{cases_Bool, both_ways}
use Rattle.netlist.specs.Gates.{Circuit}
use Rattle.netlist.specs.Walks.{Reads, Walk}
use Rattle.netlist.proofs.Searching.{joined}
use Rattle.semantics.specs.Machines.{Driver, IsGate, IsInput}
use Rattle.semantics.specs.Machines.Driver.{undriven, input, gate}
use Rattle.semantics.specs.Circuits.{lines, driver, topology, Wired}
use Rattle.semantics.specs.Computed.{looped}
use Rattle.semantics.proofs.Counting.{counted, some_more, all_counted, none_counted}
use Rattle.semantics.proofs.Looping.{to, to_passes, to_walks}
use Rattle.semantics.proofs.Wiring.{gate_range, line_range, read_line}

module _ (c : Circuit) where
  ancestors : ℕ → ℕ
  ancestors n = counted (λ j. to c j n) (suc (lines c))

  at_driver : ℕ → Driver → ℕ
  at_driver n d = elim d [ undriven ↦ 0 | input ↦ 0 | gate ↦ cond (looped c n) 0 (ancestors n) ]

  -- no depth to an input or a looped line; to other gate lines the number of lines that lead to them
  pub depth : ℕ → ℕ
  depth n = at_driver n (driver c n)

  depth_looped : (n : ℕ) → IsGate (topology c) n → looped c n ≡ true → depth n ≡ 0
  unfolding depth at_driver
  depth_looped n a_gate is = ap (at_driver n) a_gate ∙ ap (λ b. cond b 0 (ancestors n)) is

  depth_other : (n : ℕ) → IsGate (topology c) n → looped c n ≡ false → depth n ≡ ancestors n
  unfolding depth at_driver
  depth_other n a_gate is = ap (at_driver n) a_gate ∙ ap (λ b. cond b 0 (ancestors n)) is

  depth_input : (n : ℕ) → IsInput (topology c) n → depth n ≡ 0
  unfolding depth at_driver
  depth_input n an_input = ap (at_driver n) an_input

  -- a line that is not looped is none of those that lead to it
  few_ancestors : (n : ℕ) → n ≤ lines c → looped c n ≡ false → ancestors n ≤ lines c
  unfolding ancestors looped
  few_ancestors n within is =
      let fewer = some_more (λ j. to c j n) (λ j. true) (λ j passes. refl) n (suc (lines c)) (omega arith) is refl in
      let all = all_counted (suc (lines c)) in
      omega arith

  pub depth_bound : (n : ℕ) → depth n ≤ lines c
  unfolding depth at_driver
  depth_bound n = by_driver (driver c n) refl
    where
      by_driver : (d : Driver) → driver c n ≡ d → at_driver n d ≤ lines c
      by_driver undriven is = omega arith
      by_driver input is = omega arith
      by_driver gate is = by_loop (looped c n) refl
        where
          by_loop : (b : Bool) → looped c n ≡ b → cond b 0 (ancestors n) ≤ lines c
          by_loop true loop = omega arith
          by_loop false none = few_ancestors n (gate_range c n is).1 none

  -- a line read lies less deep
  pub depth_falls : Wired c → (n m : ℕ) → IsGate (topology c) n → looped c n ≡ false → Reads c n m → depth m < depth n
  unfolding ancestors looped
  depth_falls wired n m a_gate none read = rw (depth_other n a_gate none) (⊎_elim (λ an_input. rw (depth_input m an_input) some) (λ gate'. ⊎_elim (λ loop. rw (depth_looped m gate' loop) some) (λ none'. rw (depth_other m gate' none') (fewer none')) (cases_Bool (looped c m))) (read_line c wired n a_gate m read))
    where
      within : m < suc (lines c)
      within = let r = line_range c m (read_line c wired n a_gate m read) in omega arith

      leads_here : to c m n ≡ true
      leads_here = to_passes c m n (Walk.step read)

      some : 0 < ancestors n
      some =
          let more = some_more (λ j. false) (λ j. to c j n) (λ j never. absurd (both_ways false refl never)) m (suc (lines c)) within refl leads_here in
          let e = none_counted (suc (lines c)) in
          omega arith

      fewer : looped c m ≡ false → ancestors m < ancestors n
      fewer none' = some_more (λ j. to c j m) (λ j. to c j n) (λ j passes. to_passes c j n (joined c j m n (to_walks c j m passes) (Walk.step read))) m (suc (lines c)) within none' leads_here
