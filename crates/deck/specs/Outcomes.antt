-- What reading a deck comes to: its draft and the bytes used, or its first fault.
use Rattle.std.specs.Prelude.{◌≡◌, ℕ, suc, List, ◌∷◌, ◌++◌, length, Ok, Err, Result, ◌≢◌}
use Rattle.std.specs.List.{AllByRecursion}
use Rattle.netlist.specs.Drafts.{Sheet, dead}
use Rattle.deck.specs.Faults.{Told, told}
use Rattle.deck.specs.Progress.{Progress, over, rows, Legal, expected, Whole, deck_text}
use Rattle.deck.specs.Rows.{spell}
use Rattle.deck.specs.Tests.{Test, tests, FirstFailed, fault_of}
use Rattle.deck.specs.declared.fault.Fault.{Fault}

-- no record ends in these bytes
abbrev pub Unended : List ℕ → Type 0
Unended bytes = AllByRecursion (λ b. b ≢ 10) bytes

-- the record that the bytes begin with is cut, or fails one of its tests
pub data FailsTest (tests_of : List ℕ → List Test) (at : ℕ) (bytes : List ℕ) (f : Told) : Type 0 where
  cut : Unended bytes → f ≡ record { number = 1; layer = 82; at = at; column = 1 } → FailsTest tests_of at bytes f
  failed : (r after : List ℕ) (t : Test) → bytes ≡ r ++ (10 ∷ after) → Unended r → FirstFailed r (tests_of r) t → f ≡ fault_of at t → FailsTest tests_of at bytes f

-- as the tests are of the row that is expected
abbrev pub Fails : Progress → ℕ → List ℕ → Told → Type 0
Fails p at bytes f = FailsTest (λ r. tests (expected p) (length r)) at bytes f

-- all records before that of the fault are as they should be, and that one fails; a fault is found before the end row
pub record FirstFault (bytes : List ℕ) (f : Told) : Type 0 where
  pub before : Progress
  pub legal : Legal before
  pub unfinished : (s : Sheet) → before ≢ over s
  pub rest : List ℕ
  pub spelled_before : bytes ≡ spell (rows before) ++ rest
  pub fails : Fails before (suc (length (rows before))) rest f

-- the bytes begin with the spelling of a whole draft, of so many bytes
pub record Deck (bytes : List ℕ) (count : ℕ) (s : Sheet) : Type 0 where
  pub whole : Whole s
  pub rest : List ℕ
  pub spelled : bytes ≡ deck_text s ++ rest
  pub count_is : count ≡ length (deck_text s)

-- an answer: the bytes used, or the fault
pub data Answer : Type 0 where
  used : ℕ → Answer
  fault : Told → Answer

abbrev pub answer_of : Result ℕ Fault → Answer
answer_of (Ok n) = used n
answer_of (Err f) = fault (told f)

-- reading these bytes comes to this answer, with the draft that shows this sheet
abbrev pub Outcome : List ℕ → Answer → Sheet → Type 0
Outcome bytes (used n) s = Deck bytes n s
Outcome bytes (fault f) s = FirstFault bytes f × (s ≡ dead)
