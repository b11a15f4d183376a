-- One line comes further, and its records are written: what lines and their records show then.
use Rattle.std.proofs.Common.{◌≡◌, ℕ, ◌-◌, ◌*◌, ◌<◌, ◌≤◌, List, map, drop, refl, ap, sym, ◌∙◌, subst, ⊎_elim, arith}
use mathlib.Core.Path.{ap₂}
use Rattle.std.proofs.lemmas.Bool.{cases_eq}
use Rattle.events.specs.declared.record.EventRecord.{EventRecord}
use Rattle.netlist.specs.declared.progress.Progress.{Progress}
use Rattle.semantics.specs.Accounts.{Account, settled}
use Rattle.semantics.specs.Circuits.{lines, topology}
use Rattle.semantics.specs.Machines.{Machine, IsInput, IsGate, IsLine}
use Rattle.semantics.specs.Moves.{put}
use Rattle.semantics.proofs.Putting.{put_here, put_there}
use Rattle.semantics.proofs.Wiring.{line_range}
use Rattle.values.specs.Systems.{System}
use Rattle.engine.specs.Lines.{Panel, extent, Holds}
use Rattle.engine.specs.Panels.{moved}
use Rattle.engine.specs.Standing.{Tells, machine_of, Shows, Keeps}
use Rattle.engine.specs.Stores.{part, seen}
use Rattle.engine.specs.Recordings.{OnlyThere}
use Rattle.engine.proofs.Books.{positive}
use Rattle.engine.proofs.Parts.{one_part, later, ends_within}

-- what is so of a line that has come further, and of each other as it was, is so of all
pub one_moved : {X : Type 0} (progress : ℕ → Progress) (stride n : ℕ) (x : Progress) (old new : List X) → 0 < n → OnlyThere ((n - 1) * stride) stride old new → (P : ℕ → ℕ → List X → Type 0) (m : ℕ) → 0 < m → (m ≡ n → P n x.kept (part stride n new)) → ((m ≡ n → ⊥) → P m (progress m).kept (part stride m old)) → P m (put progress n x m).kept (part stride m new)
one_moved progress stride n x old new some there P m positive here else_ =
    one_part stride n old new some there (λ k rs. P k (put progress n x k).kept rs) m positive
    (λ is. subst (λ (q : Progress). P n q.kept (part stride n new)) (sym (put_here progress n x)) (here is))
    (λ other. subst (λ (q : Progress). P m q.kept (part stride m old)) (sym (put_there progress n x m other)) (else_ other))

module _ {V M : Type 0} (meaning : V → M) (system : System M) (p : Panel) (old new : List (EventRecord V)) (a b : Account M) (n : ℕ) (x : Progress) (h : Shows meaning system p old a) (line : IsLine (topology p.circuit) n) (there : OnlyThere ((n - 1) * p.stride) p.stride old new) where
  abbrev s : Machine M
  s = machine_of system p

  -- the other lines stay as they are told
  pub record Others : Type 0 where
    pub trim : a.trim ≡ b.trim
    pub ends : (m : ℕ) → (m ≡ n → ⊥) → a.end m ≡ b.end m
    pub fronts : (m : ℕ) → (m ≡ n → ⊥) → a.front m ≡ b.front m
    pub records : (m kept : ℕ) (rs : List (ℕ × M)) → IsLine s.topology m → (m ≡ n → ⊥) → Tells s system.start a m (settled s.topology a m) kept rs → Tells s system.start b m (settled s.topology b m) kept rs

  pub record Here : Type 0 where
    pub ends : IsInput s.topology n → x.tick ≡ b.end n
    pub fronts : IsGate s.topology n → x.tick ≡ b.front n
    pub records : Tells s system.start b n (settled s.topology b n) x.kept (map (seen meaning) (part p.stride n new))

  pub shows_moved : Here → Others → Shows meaning system (moved p n x) new b
  shows_moved here others = record {
    trim = h.trim ∙ others.trim;
    ends = λ m an_input. ⊎_elim (λ is. at_end m is an_input) (λ other. ap (λ (q : Progress). q.tick) (put_there p.progress n x m other) ∙ (h.ends m an_input ∙ others.ends m other)) (cases_eq m n);
    fronts = λ m a_gate. ⊎_elim (λ is. at_front m is a_gate) (λ other. ap (λ (q : Progress). q.tick) (put_there p.progress n x m other) ∙ (h.fronts m a_gate ∙ others.fronts m other)) (cases_eq m n);
    records = λ m a_line.
        one_moved p.progress p.stride n x old new (positive p.circuit n line) there (λ k kept rs. Tells s system.start b k (settled s.topology b k) kept (map (seen meaning) rs)) m (positive p.circuit m a_line) (λ is. here.records)
        (λ other. others.records m (p.progress m).kept (map (seen meaning) (part p.stride m old)) a_line other (h.records m a_line));
  }
    where
      at_end : (m : ℕ) → m ≡ n → IsInput s.topology m → (put p.progress n x m).tick ≡ b.end m
      at_end m is an_input = subst (λ k. IsInput s.topology k → (put p.progress n x k).tick ≡ b.end k) (sym is) (λ i. ap (λ (q : Progress). q.tick) (put_here p.progress n x) ∙ here.ends i) an_input

      at_front : (m : ℕ) → m ≡ n → IsGate s.topology m → (put p.progress n x m).tick ≡ b.front m
      at_front m is a_gate = subst (λ k. IsGate s.topology k → (put p.progress n x k).tick ≡ b.front k) (sym is) (λ g. ap (λ (q : Progress). q.tick) (put_here p.progress n x) ∙ here.fronts g) a_gate

-- what no call alters stays where only the records of one line are written
pub keeps_there : {X : Type 0} (p : Panel) (n : ℕ) (old new : List X) → 0 < n → n ≤ lines p.circuit → OnlyThere ((n - 1) * p.stride) p.stride old new → Keeps p p old new
keeps_there p n old new some within there = record { circuit = refl; stride = refl; same_length = there.same_length; beyond = later p.stride n old new some there (extent p) (ends_within p.stride (lines p.circuit) n some within) }

-- what no call alters stays where one line moves
pub keeps_moved : {X : Type 0} (p q : Panel) (n : ℕ) (x : Progress) (old new : List X) → q ≡ moved p n x → IsLine (topology p.circuit) n → OnlyThere ((n - 1) * p.stride) p.stride old new → Keeps p q old new
keeps_moved p q n x old new same line there =
    let keeps = keeps_there p n old new (positive p.circuit n line) (line_range p.circuit n line) there in
    record { circuit = ap (λ (o : Panel). o.circuit) same; stride = ap (λ (o : Panel). o.stride) same; same_length = keeps.same_length; beyond = keeps.beyond }

pub keeps_on : {X : Type 0} (p q r : Panel) (old mid new : List X) → Keeps p q old mid → Keeps q r mid new → Keeps p r old new
keeps_on p q r old mid new first second = record {
  circuit = second.circuit ∙ first.circuit;
  stride = second.stride ∙ first.stride;
  same_length = second.same_length ∙ first.same_length;
  beyond = subst (λ e. drop e new ≡ drop e mid) (ap₂ (λ c k. lines c * k) first.circuit first.stride) second.beyond ∙ first.beyond;
}

pub holds_kept : {X : Type 0} (p q : Panel) (old new : List X) → Keeps p q old new → Holds p old → Holds q new
holds_kept p q old new keeps holds = let same : extent q ≡ extent p = ap₂ (λ c k. lines c * k) keeps.circuit keeps.stride in omega (arith, keeps.same_length)
