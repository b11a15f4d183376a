-- How far a reader of a stimulus has come, and what it answers.
use Rattle.std.specs.Prelude.{◌≡◌, ℕ, suc, List, ◌∷◌, ◌++◌, Option, None, Some, Result, Ok, Err}
use Rattle.deck.specs.Faults.{Told, told}
use Rattle.deck.specs.declared.fault.Fault.{Fault}
use Rattle.stimulus.specs.Rows.{text, Legal}
use Rattle.stimulus.specs.Tests.{Over, Fails}
use Rattle.stimulus.specs.declared.entry.Entry.{Entry}
use Rattle.stimulus.specs.declared.entry.Entry.TheVariants.{Feed, Hold, End}
use Rattle.stimulus.specs.declared.entry.Taken.{Taken}
use Rattle.stimulus.specs.declared.reader.Phase.{Phase}
use Rattle.stimulus.specs.declared.reader.Phase.TheVariants.{Given, Done}
use Rattle.stimulus.specs.declared.reader.StimulusReader.{StimulusReader}

-- the bytes that are left, the number of the record that they begin with, how many lines there are, and the phase
pub record Place : Type 0 where
  pub rest : List ℕ
  pub at : ℕ
  pub lines : ℕ
  pub phase : Phase

abbrev pub place : StimulusReader → Place
place r = record { rest = r.rest.now; at = r.«record»; lines = r.lines; phase = r.phase }

-- the phase after a record
abbrev pub phase_after : Entry → Phase
phase_after (Feed line tick value) = Given
phase_after (Hold line tick) = Given
phase_after End = Done

-- the bytes before began with the spelling of the record, which was taken
pub record Took (p q : Place) (t : Taken) : Type 0 where
  pub in_order : p.phase ≡ Given
  pub legal : Legal p.lines t.entry
  pub spelling : p.rest ≡ text t.entry ++ (10 ∷ q.rest)
  pub number : t.«record» ≡ p.at
  pub one_more : q.at ≡ suc p.at
  pub same_lines : q.lines ≡ p.lines
  pub phase : q.phase ≡ phase_after t.entry

-- an answer, with its fault as it is told
abbrev pub answer_of : Result (Option Taken) Fault → Result (Option Taken) Told
answer_of (Ok taken) = Ok taken
answer_of (Err f) = Err (told f)

-- What may be answered at a place, and the place then: a record is taken, or none is left, or it is told how the next one
-- fails.
abbrev pub Outcome : Place → Result (Option Taken) Told → Place → Type 0
Outcome p (Ok None) q = Over p.phase p.rest × (q ≡ p)
Outcome p (Ok (Some t)) q = Took p q t
Outcome p (Err f) q = Fails p.phase p.lines p.at p.rest f × (q ≡ p)
