-- Sessions as their reader sees them.
use Rattle.std.specs.Prelude.{◌≡◌, ℕ, ◌-◌, ◌/◌, List, Ok, Err, Result, length, drop, slice_index_or}
use Rattle.std.specs.Borrow.{MutBor}
use Rattle.events.specs.declared.record.EventRecord.{EventRecord}
use Rattle.netlist.specs.declared.closed.Netlist.{Netlist}
use Rattle.netlist.specs.Gates.{Circuit, nothing}
use Rattle.semantics.specs.Accounts.{Account, settled}
use Rattle.semantics.specs.Circuits.{lines}
use Rattle.semantics.specs.Distances.{Distance}
use Rattle.semantics.specs.Machines.{Machine, IsLine}
use Rattle.semantics.specs.Moves.{made}
use Rattle.values.specs.Systems.{System}
use Rattle.engine.specs.declared.session.Session.{Session}
use Rattle.engine.specs.Lines.{Panel, panel, room, extent}
use Rattle.engine.specs.Standing.{machine_of, Stands, Keeps}

-- the lines of a session
abbrev pub lines_of : {V : Type 0} → Session V → Panel
lines_of s = panel s.lines

-- it has none
abbrev pub HasNoLines : {V : Type 0} → Session V → Type 0
HasNoLines s = lines (lines_of s).circuit ≡ 0

-- the machine of a session
abbrev pub machine_in : {V M : Type 0} → System M → Session V → Machine M
machine_in system s = machine_of system (lines_of s)

-- a session stands for an account
abbrev pub StandsFor : {V M : Type 0} → (V → M) → System M → Session V → Account M → Type 0
StandsFor meaning system s a = Stands meaning system (lines_of s) s.store.now a

-- the netlist of a session
abbrev pub netlist_of : {V : Type 0} → Session V → Netlist
netlist_of s = s.lines.netlist

-- a session was lent this very store
abbrev pub Lent : {V : Type 0} → MutBor (List (EventRecord V)) → Session V → Type 0
Lent store s = s.store.ghost_name ≡ store.ghost_name

-- What no call alters: which store was lent, the circuit, how many records each line has, and the records beyond those.
pub record KeepsItsOwn {V : Type 0} (s s' : Session V) : Type 0 where
  pub lends_this_store : Lent s.store s'
  pub keeps : Keeps (lines_of s) (lines_of s') s.store.now s'.store.now

-- how many changes of each line there is room for, where the store has so many records
abbrev pub room_for : ℕ → Circuit → ℕ
room_for records c = records / lines c - 1

-- what initial values, given in the inputs' order, mean
abbrev pub given : {V M : Type 0} → (V → M) → V → List V → ℕ → M
given meaning filler starts n = meaning (slice_index_or starts (n - 1) filler)

module _ {V M : Type 0} (meaning : V → M) (system : System M) (filler : V) (c : Circuit) (starts : List V) (old : List (EventRecord V)) (s : Session V) where
  -- A session that was just made has the lines of the netlist, each with as many records as there are for it in the store. It
  -- stands for what was given, and wrote nothing beyond the records of its lines.
  pub record Fresh : Type 0 where
    pub circuit : (lines_of s).circuit ≡ c
    pub stride : (lines_of s).stride ≡ length old / lines c
    pub same_length : length s.store.now ≡ length old
    pub beyond : drop (extent (lines_of s)) s.store.now ≡ drop (extent (lines_of s)) old
    pub stands : StandsFor meaning system s (made (given meaning filler starts))

  -- One that could not be made has no lines, and nothing was written. It stands for an account too: nothing was given.
  pub record NotMade : Type 0 where
    pub circuit : (lines_of s).circuit ≡ nothing
    pub no_room : room (lines_of s) ≡ 0
    pub untouched : s.store.now ≡ old
    pub stands : StandsFor meaning system s (made (λ n. system.start))

  -- what making comes to, where it is refused and where it is not
  pub data Made : Result Unit ℕ → Type 0 where
    refused : {number : ℕ} → NotMade → Made (Err number)
    accepted : Fresh → Made (Ok tt)

-- every line is settled exactly to its distance
abbrev pub SettledToDistances : {M : Type 0} → Machine M → Account M → Type 0
SettledToDistances s a = (n : ℕ) → IsLine s.topology n → Distance s a n (settled s.topology a n)
