-- A relation that two rules carry ties the lines of two accounts wherever both are settled.
use Rattle.std.proofs.Common.{ℕ, ◌<◌, subst}
use Rattle.semantics.specs.Machines.{Topology, Machine, Rule}
use Rattle.semantics.specs.Accounts.{Account, settled}
use Rattle.semantics.specs.Comparisons.{GivenTied, LinesTied}
use Rattle.semantics.proofs.Goals.{settled_input}
use Rattle.semantics.proofs.Locality.{Horizon, Carries}
use Rattle.semantics.proofs.Invariants.{Invariant, settled_horizon}

module _ {M N : Type 0} (topology : Topology) (r : Rule M) (q : Rule N) (room other : ℕ) (R : M → N → Type 0) (carries : Carries topology r q R) where
  abbrev left : Machine M
  left = record { topology = topology; rule = r; room = room }

  abbrev right : Machine N
  right = record { topology = topology; rule = q; room = other }

  module _ (a : Account M) (b : Account N) (a_held : Invariant left a) (b_held : Invariant right b) (given : GivenTied left right R a b) where
    both_settled : Horizon topology (λ n t. (t < settled topology a n) × (t < settled topology b n))
    both_settled =
        let one = settled_horizon left a a_held in
        let two = settled_horizon right b b_held in
        record { down = λ n t within. (one.down n t within.0, two.down n t within.1); back = λ n m t a_gate read within. (one.back n m t a_gate read within.0, two.back n m t a_gate read within.1) }

    pub lines_tied : LinesTied left right R a b
    lines_tied = record {
      initial_values = carries.initial a.start b.start given.starts;
      values = λ n t line here there.
          carries.value a.start b.start a.waveform b.waveform given.starts (λ m u. (u < settled topology a m) × (u < settled topology b m)) both_settled
          (λ m u an_input within. given.waveforms m u an_input (subst (λ end. u < end) (settled_input topology a m an_input) within.0) (subst (λ end. u < end) (settled_input topology b m an_input) within.1)) n t line (here, there);
    }
