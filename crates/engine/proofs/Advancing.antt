-- One line comes further.
use Rattle.std.proofs.Common.{◌≡◌, ℕ, zero, suc, ◌-◌, ◌<◌, ◌≤◌, ltb, List, length, replicate, set, get_or, refl, ap, sym, ◌∙◌, subst, ⊎_elim, arith}
use Rattle.std.proofs.Math.Path.{fun_ext}
use Rattle.std.proofs.lemmas.Bool.{cases_eq, cases_lt, lt-ltb, le-ltb, cond-true, cond-false}
use Rattle.std.proofs.lemmas.List.{get_or-set_same, get_or-set_other}
use Rattle.netlist.specs.declared.closed.Netlist.{Netlist}
use Rattle.netlist.specs.declared.progress.Progress.{Progress}
use Rattle.netlist.specs.Closed.{circuit, progress_of}
use Rattle.netlist.specs.GateRow.{at_start}
use Rattle.netlist.specs.Gates.{Circuit}
use Rattle.semantics.specs.Circuits.{lines}
use Rattle.semantics.specs.Moves.{put}
use Rattle.semantics.proofs.Putting.{put_here, put_there, put_where}
use Rattle.engine.specs.Progresses.{progress_in, KeptFit}

module _ (netlist : Netlist) (inputs : List Progress) where
  at_input : (k : ℕ) → k < (circuit netlist).inputs → progress_in netlist inputs (suc k) ≡ get_or inputs k at_start
  at_input k low = cond-true (ltb k (circuit netlist).inputs) _ _ (lt-ltb k (circuit netlist).inputs low)

  at_gate : (k : ℕ) → (circuit netlist).inputs ≤ k → progress_in netlist inputs (suc k) ≡ progress_of netlist (suc k)
  at_gate k high = cond-false (ltb k (circuit netlist).inputs) _ _ (le-ltb k (circuit netlist).inputs high)

pub input_moved : (netlist : Netlist) (inputs : List Progress) (n : ℕ) (x : Progress) → 0 < n → n ≤ (circuit netlist).inputs → n - 1 < length inputs → progress_in netlist (set inputs (n - 1) x) ≡ put (progress_in netlist inputs) n x
input_moved netlist inputs n x some low within = fun_ext each
  where
    each : (m : ℕ) → progress_in netlist (set inputs (n - 1) x) m ≡ put (progress_in netlist inputs) n x m
    each zero = sym (put_there (progress_in netlist inputs) n x zero (λ is. omega arith))
    each (suc k) = ⊎_elim here there (cases_eq (suc k) n)
      where
        here : suc k ≡ n → progress_in netlist (set inputs (n - 1) x) (suc k) ≡ put (progress_in netlist inputs) n x (suc k)
        here is =
            let place : n - 1 ≡ k = omega arith in
            at_input netlist (set inputs (n - 1) x) k (omega arith)
            ∙ (ap (λ i. get_or (set inputs i x) k at_start) place
            ∙ (get_or-set_same inputs k x at_start (omega arith) ∙ sym (ap (put (progress_in netlist inputs) n x) is ∙ put_here (progress_in netlist inputs) n x)))

        there : (suc k ≡ n → ⊥) → progress_in netlist (set inputs (n - 1) x) (suc k) ≡ put (progress_in netlist inputs) n x (suc k)
        there other = ⊎_elim (λ an_input. at_input netlist (set inputs (n - 1) x) k an_input ∙ (get_or-set_other inputs (n - 1) k x at_start (λ is. other (omega arith)) ∙ sym (at_input netlist inputs k an_input)))
            (λ past. at_gate netlist (set inputs (n - 1) x) k past ∙ sym (at_gate netlist inputs k past))
            (cases_lt k (circuit netlist).inputs)
            ∙ sym (put_there (progress_in netlist inputs) n x (suc k) other)

pub gate_moved : (netlist after : Netlist) (inputs : List Progress) (n : ℕ) (x : Progress) → circuit after ≡ circuit netlist → (circuit netlist).inputs < n → progress_of after n ≡ x → ((m : ℕ) → (m ≡ n → ⊥) → progress_of after m ≡ progress_of netlist m) → progress_in after inputs ≡ put (progress_in netlist inputs) n x
gate_moved netlist after inputs n x same past told others = fun_ext each
  where
    count : (circuit after).inputs ≡ (circuit netlist).inputs
    count = ap (λ (c : Circuit). c.inputs) same

    each : (m : ℕ) → progress_in after inputs m ≡ put (progress_in netlist inputs) n x m
    each zero = sym (put_there (progress_in netlist inputs) n x zero (λ is. omega arith))
    each (suc k) = ⊎_elim here there (cases_eq (suc k) n)
      where
        here : suc k ≡ n → progress_in after inputs (suc k) ≡ put (progress_in netlist inputs) n x (suc k)
        here is = at_gate after inputs k (omega (arith, count)) ∙ (ap (progress_of after) is ∙ (told ∙ sym (ap (put (progress_in netlist inputs) n x) is ∙ put_here (progress_in netlist inputs) n x)))

        there : (suc k ≡ n → ⊥) → progress_in after inputs (suc k) ≡ put (progress_in netlist inputs) n x (suc k)
        there other = ⊎_elim (λ an_input. at_input after inputs k (omega (arith, count)) ∙ sym (at_input netlist inputs k an_input))
            (λ high. at_gate after inputs k (omega (arith, count)) ∙ (others (suc k) other ∙ sym (at_gate netlist inputs k high)))
            (cases_lt k (circuit netlist).inputs)
            ∙ sym (put_there (progress_in netlist inputs) n x (suc k) other)

-- the kept changes still fit
pub still_fit : (netlist after : Netlist) (inputs later : List Progress) (stride n : ℕ) (x : Progress) → circuit after ≡ circuit netlist → progress_in after later ≡ put (progress_in netlist inputs) n x → x.kept < stride → KeptFit netlist inputs stride → KeptFit after later stride
still_fit netlist after inputs later stride n x same moved fits old m some within =
    subst (λ (f : ℕ → Progress). (f m).kept < stride) (sym moved) (put_where (λ p. p.kept < stride) (progress_in netlist inputs) n x m fits (old m some (subst (λ c. m ≤ lines c) same within)))

-- where no gate has come further than tick 0, and no input has, no line has
pub all_at_start : (netlist : Netlist) (count : ℕ) → ((n : ℕ) → progress_of netlist n ≡ at_start) → progress_in netlist (replicate count at_start) ≡ λ n. at_start
all_at_start netlist count told = fun_ext each
  where
    filled : (n k : ℕ) → get_or (replicate n at_start) k at_start ≡ at_start
    filled zero k = refl
    filled (suc n) zero = refl
    filled (suc n) (suc k) = filled n k

    each : (n : ℕ) → progress_in netlist (replicate count at_start) n ≡ at_start
    each zero = refl
    each (suc k) = ⊎_elim (λ an_input. at_input netlist (replicate count at_start) k an_input ∙ filled count k) (λ past. at_gate netlist (replicate count at_start) k past ∙ told (suc k)) (cases_lt k (circuit netlist).inputs)
