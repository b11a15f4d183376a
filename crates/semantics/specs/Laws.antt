-- The laws of settled lines.
use Rattle.std.specs.Prelude.{◌≡◌, ◌↔◌, ℕ, ◌+◌, ◌<◌, ◌≤◌, ◌⊎◌, List}
use Rattle.netlist.specs.Gates.{Circuit}
use Rattle.values.specs.Systems.{System}
use Rattle.semantics.specs.Accounts.{Account, settled, goal, Stable, KeptChanges}
use Rattle.semantics.specs.Changes.{AtMost}
use Rattle.semantics.specs.Circuits.{topology}
use Rattle.semantics.specs.Comparisons.{Stays, Alike, Agree, GivenTied, LinesTied}
use Rattle.semantics.specs.Computed.{initial, value}
use Rattle.semantics.specs.Distances.{Distance}
use Rattle.semantics.specs.Logs.{Ending, Takes, Run, Steps, Log}
use Rattle.semantics.specs.Moves.{CanTake, CanMove, Takeable, Rests, Rest}
use Rattle.semantics.specs.Machines.{IsInput, IsGate, IsLine, Machine}
use Rattle.semantics.specs.Rules.{Begins, Obeys}

-- Whatever the inputs are given, the computed initial values and values obey the rule of a line, and no others do.
pub record OnlyTheseObey {M : Type 0} (s : System M) (c : Circuit) (start : ℕ → M) (waveform : ℕ → ℕ → M) : Type 0 where
  pub begins : Begins s c start (initial s c start)
  pub obeys : Obeys s c (initial s c start) waveform (value s c start waveform)
  pub no_other_begins : (init : ℕ → M) → Begins s c start init → (n : ℕ) → IsLine (topology c) n → init n ≡ initial s c start n
  pub no_other_obeys : (init : ℕ → M) (v : ℕ → ℕ → M) → Begins s c start init → Obeys s c init waveform v → (n t : ℕ) → IsLine (topology c) n → v n t ≡ value s c start waveform n t

abbrev pub RuleDeterminesValues : {M : Type 0} → System M → Circuit → Type 0
RuleDeterminesValues {M} s c = (start : ℕ → M) (waveform : ℕ → ℕ → M) → OnlyTheseObey s c start waveform

module _ {M : Type 0} (s : Machine M) where
  -- Ends are at most 2,000,000,000. The trim tick is beyond no end and no front, and no front is beyond its goal. From its end
  -- on an input keeps its last value.
  pub record InOrder (a : Account M) : Type 0 where
    pub ends : (n : ℕ) → IsInput s.topology n → a.end n ≤ 2000000000
    pub trim_within_ends : (n : ℕ) → IsInput s.topology n → a.trim ≤ a.end n
    pub trim_within_fronts : (n : ℕ) → IsGate s.topology n → a.trim ≤ a.front n
    pub fronts_within_goals : (n : ℕ) → IsGate s.topology n → a.front n ≤ goal s.topology a n
    pub last_value_kept : (n t : ℕ) → IsInput s.topology n → a.end n ≤ t → Stable s a n t

  abbrev pub LogsAreInOrder : Type 0
  LogsAreInOrder = (a : Account M) → Log s a → InOrder a

  -- Each line has one list of kept changes, and there is room for it.
  pub record KeptInRoom (a : Account M) : Type 0 where
    pub in_room : (n : ℕ) → AtMost s.room (Stable s a n) a.trim (settled s.topology a n)
    pub one_list : (n : ℕ) (ts us : List ℕ) → KeptChanges s a n ts → KeptChanges s a n us → ts ≡ us

  abbrev pub KeptChangesFit : Type 0
  KeptChangesFit = (a : Account M) → Log s a → KeptInRoom a

  -- it can be told where a gate's line changes on the way from its settled time to where its goal would let it be settled
  abbrev pub ToldOnTheWay : Account M → ℕ → Type 0
  ToldOnTheWay a n = (t : ℕ) → settled s.topology a n ≤ t → t < goal s.topology a n + s.topology.lag n → Dec (Stable s a n t)

  -- A gate rests or can be taken, if that can be told; and not both. It can be taken just where its front can move.
  pub record EitherRestsOrMoves (a : Account M) (n : ℕ) : Type 0 where
    pub one_of_both : ToldOnTheWay a n → Rests s a n ⊎ Takeable s a n
    pub not_both : Rests s a n → Takeable s a n → ⊥
    pub moves : Takeable s a n → CanMove s a n
    pub moves_so : ToldOnTheWay a n → CanMove s a n → Takeable s a n

  abbrev pub GatesRestOrCanBeTaken : Type 0
  GatesRestOrCanBeTaken = (a : Account M) → Log s a → (n : ℕ) → IsGate s.topology n → EitherRestsOrMoves a n

  -- At rest, and only there, no gate can be taken.
  abbrev pub RestIsWhereNoGateCanBeTaken : Type 0
  RestIsWhereNoGateCanBeTaken = (a : Account M) → Log s a → Rest s a ↔ ((n : ℕ) → Takeable s a n → ⊥)

  -- A take can lead to one front only. A run can lead to one account only, make one number of takes, and end in one way.
  pub record Determined (a : Account M) : Type 0 where
    pub take : (n front other : ℕ) → CanTake s a n front → CanTake s a n other → front ≡ other
    pub run : (most count other : ℕ) (ending otherwise : Ending) (b d : Account M) → Run s most a b count ending → Run s most a d other otherwise → (b ≡ d) × (count ≡ other) × (ending ≡ otherwise)

  -- From any account, also from one of no log.
  abbrev pub CallsAreDetermined : Type 0
  CallsAreDetermined = (a : Account M) → Determined a

  -- what a run comes to and tells
  pub record Outcome (most : ℕ) (a : Account M) : Type 0 where
    pub end : Account M
    pub count : ℕ
    pub ending : Ending
    pub run : Run s most a end count ending

  -- A run of any number of takes has an outcome.
  abbrev pub RunsHaveOutcomes : Type 0
  RunsHaveOutcomes = (a : Account M) → Log s a → (most : ℕ) → Outcome most a

  -- some number of takes is enough: all runs of so many or more make just these, and end at one rest
  pub record ComesToRest (a : Account M) : Type 0 where
    pub enough : ℕ
    pub end : Account M
    pub rest : Rest s end
    pub runs : (most : ℕ) → enough ≤ most → Run s most a end enough Ending.rest

  -- Every log can be brought to rest.
  abbrev pub RunsComeToRest : Type 0
  RunsComeToRest = (a : Account M) → Log s a → ComesToRest a

  -- Whatever is called after a log, what is settled stays.
  abbrev pub SettledValuesStay : Type 0
  SettledValuesStay = (a b : Account M) → Log s a → Steps s a b → Stays s a b

  -- In every log no line is settled further than to this tick.
  abbrev pub SettledTimesAreBounded : ℕ → Type 0
  SettledTimesAreBounded most = (a : Account M) → Log s a → (n : ℕ) → settled s.topology a n ≤ most

  -- After every log no more takes than this can be made one after another.
  abbrev pub TakesAreBounded : ℕ → Type 0
  TakesAreBounded most = (a b : Account M) (count : ℕ) → Log s a → Takes s count a b → count ≤ most

  -- At every rest each line is settled exactly to its distance.
  abbrev pub SettledIsTheDistance : Type 0
  SettledIsTheDistance = (a : Account M) → Log s a → Rest s a → (n : ℕ) → IsLine s.topology n → Distance s a n (settled s.topology a n)

  -- Whatever the cut and the order of two logs, they agree at rest if they are alike.
  abbrev pub AlikeRestsAgree : Type 0
  AlikeRestsAgree = (a b : Account M) → Log s a → Log s b → Rest s a → Rest s b → Alike s a b → Agree s a b

-- A relation that ties what two logs were given ties all lines.
abbrev pub TiesLines : {M N : Type 0} → Machine M → Machine N → (M → N → Type 0) → Type 0
TiesLines {M} {N} s q R = (a : Account M) (b : Account N) → Log s a → Log q b → GivenTied s q R a b → LinesTied s q R a b
