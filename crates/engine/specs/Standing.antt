-- Which account a session stands for.
use Rattle.std.specs.Prelude.{◌≡◌, ℕ, suc, ◌-◌, List, ◌∷◌, length, map, take, drop, replicate}
use Rattle.events.specs.declared.record.EventRecord.{EventRecord}
use Rattle.semantics.specs.Accounts.{Account, settled, before, value, Stable}
use Rattle.semantics.specs.Changes.{Changes}
use Rattle.semantics.specs.CircuitMachine.{machine}
use Rattle.semantics.specs.Logs.{Log}
use Rattle.semantics.specs.Machines.{Machine, IsInput, IsGate, IsLine}
use Rattle.values.specs.Systems.{System}
use Rattle.engine.specs.Lines.{Panel, room, extent}
use Rattle.engine.specs.Stores.{part, seen}

-- Records tell the changes of a line below a tick. First comes its base, the trim tick with the value just before it; then
-- the kept changes with their values, the earliest first; the others are filled.
pub record Tells {M : Type 0} (s : Machine M) (filler : M) (a : Account M) (n to kept : ℕ) (records : List (ℕ × M)) : Type 0 where
  pub ticks : List ℕ
  pub changes : Changes (Stable s a n) to a.trim ticks
  pub count : length ticks ≡ kept
  pub shown : take (suc kept) records ≡ (a.trim, before s a n a.trim) ∷ map (λ t. (t, value s a n t)) ticks
  pub spare : drop (suc kept) records ≡ replicate (s.room - kept) (0, filler)

-- the machine of a session's lines
abbrev pub machine_of : {M : Type 0} → System M → Panel → Machine M
machine_of s p = machine s p.circuit (room p)

module _ {V M : Type 0} (meaning : V → M) (s : System M) (p : Panel) (store : List (EventRecord V)) where
  -- Lines and their records show an account: the trim tick, the ends and the fronts, and the changes of each line below its
  -- settled time.
  pub record Shows (a : Account M) : Type 0 where
    pub trim : p.trim ≡ a.trim
    pub ends : (n : ℕ) → IsInput (machine_of s p).topology n → (p.progress n).tick ≡ a.end n
    pub fronts : (n : ℕ) → IsGate (machine_of s p).topology n → (p.progress n).tick ≡ a.front n
    pub records : (n : ℕ) → IsLine (machine_of s p).topology n → Tells (machine_of s p) s.start a n (settled (machine_of s p).topology a n) (p.progress n).kept (map (seen meaning) (part p.stride n store))

  -- They stand for an account that they show and that has a log.
  pub record Stands (a : Account M) : Type 0 where
    pub log : Log (machine_of s p) a
    pub shows : Shows a

-- what no call alters: the circuit, how many records each line has, and the records beyond those of the lines
pub record Keeps {X : Type 0} (p p' : Panel) (store store' : List X) : Type 0 where
  pub circuit : p'.circuit ≡ p.circuit
  pub stride : p'.stride ≡ p.stride
  pub same_length : length store' ≡ length store
  pub beyond : drop (extent p) store' ≡ drop (extent p) store
