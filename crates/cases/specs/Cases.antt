-- Worked cases: what is asked, and what has to come of it.
use Rattle.std.specs.Prelude.{ℕ, Bool, List, [], ◌∷◌, length, Ok, Err, Result}
use Rattle.netlist.specs.Gates.{Circuit, nothing}
use Rattle.values.specs.Knowledge.{three_valued}
use Rattle.values.specs.Systems.{System, two_valued}
use Rattle.values.specs.declared.ternary.Ternary.{Ternary}
use Rattle.deck.specs.Closing.{ClosedOutcome}
use Rattle.deck.specs.Outcomes.{Answer}
use Rattle.deck.specs.Rows.{ended_each}
use Rattle.semantics.specs.CircuitMachine.{machine}
use Rattle.semantics.specs.Moves.{made}
use Rattle.engine.specs.Answers.{Making}
use Rattle.engine.specs.Sessions.{given, room_for}
use Rattle.cases.specs.Calls.{Call, Gives}

-- a session: its netlist, how many records its store has, its inputs' initial values, what making answers, and its calls
pub record Job (M : Type 0) : Type 0 where
  pub circuit : Circuit
  pub records : ℕ
  pub starts : List M
  pub making : Result Unit ℕ
  pub calls : List (Call M)

-- what a session's calls give after such an answer to its making; one that is refused has no lines, and nothing was given
abbrev pub Called : {M : Type 0} → System M → Job M → Result Unit ℕ → Type 0
Called s job (Ok done) = Gives (machine s job.circuit (room_for job.records job.circuit)) (made (given (λ v. v) s.start job.starts)) job.calls
Called s job (Err number) = Gives (machine s nothing 0) (made (λ n. s.start)) job.calls

-- making gives its answer, and then each call gives its own
abbrev pub Worked : {M : Type 0} → System M → Job M → Type 0
Worked s job = Making job.circuit job.records (length job.starts) job.making × Called s job job.making

-- the bytes of records, each ended by byte 10
abbrev pub ended : List (List ℕ) → List ℕ
ended records = ended_each (λ r. r) records

-- A session in two values or in three; or records that are read and closed, with the bytes used and the netlist, or the
-- first fault and no netlist.
pub data Case : Type 0 where
  in_bits : Job Bool → Case
  in_three_values : Job Ternary → Case
  deck : List (List ℕ) → Answer → Circuit → Case

-- the definitions yield the case
abbrev pub Yielded : Case → Type 0
Yielded (in_bits job) = Worked two_valued job
Yielded (in_three_values job) = Worked three_valued job
Yielded (deck records answer c) = ClosedOutcome (ended records) answer c

-- they yield all the cases
abbrev pub AllYielded : List Case → Type 0
AllYielded [] = Unit {0}
AllYielded (c ∷ cs) = Yielded c × AllYielded cs
