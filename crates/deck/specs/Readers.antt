-- How far a reader has come, and what it does with a record.
use Rattle.std.specs.Prelude.{◌≡◌, ℕ, suc, List, [], ◌∷◌, ◌++◌, length, Result, MatchResult, ◌≢◌}
use Rattle.netlist.specs.Drafts.{Sheet, sheet, dead}
use Rattle.netlist.specs.GateRow.{drawn}
use Rattle.deck.specs.Phases.{progress}
use Rattle.deck.specs.Progress.{Progress, blank, going, over, rows, Expected, expected}
use Rattle.deck.specs.Records.{Failed}
use Rattle.deck.specs.Rows.{row_of, text, spell}
use Rattle.deck.specs.Tests.{Test}
use Rattle.deck.specs.declared.entry.Entry.{Entry}
use Rattle.deck.specs.declared.entry.Entry.TheVariants as entry
use Rattle.deck.specs.declared.entry.Taken.{Taken}
use Rattle.deck.specs.declared.fault.Fault.{Fault}
use Rattle.deck.specs.declared.reader.DeckReader.{DeckReader}

abbrev pub progress_of : DeckReader → Progress
progress_of d = progress d.phase (sheet d.draft)

-- a gate of a deck is as it was drawn: not marked as looped, which closing finds, and not moved, which sessions do
abbrev pub AsDrawn : Entry → Type 0
AsDrawn (entry.Header h) = Unit {0}
AsDrawn (entry.Input n) = Unit {0}
AsDrawn (entry.Gate n row) = row ≡ drawn row.gate
AsDrawn (entry.Output n) = Unit {0}
AsDrawn entry.End = Unit {0}

-- the record spells the row of the entry, which comes after the rows taken before
pub record Took (before after : DeckReader) (r : List ℕ) (e : Entry) : Type 0 where
  pub spelling : r ≡ text (row_of e)
  pub as_drawn : AsDrawn e
  pub one_more : rows (progress_of after) ≡ rows (progress_of before) ++ (row_of e ∷ [])

-- the answer to a record: the entry that was taken, or the fault of the first test that the record fails, of the
-- tests for what is expected; a fault alters nothing
abbrev pub Answers : DeckReader → DeckReader → List ℕ → ℕ → (Expected → ℕ → List Test) → Result Entry Fault → Type 0
Answers before after r at tests answer =
    MatchResult answer (λ e. Took before after r e)
    (λ f. Failed r at (tests (expected (progress_of before)) (length r)) f × (after ≡ before))

-- the bytes begin with the spelling of the entry's row, which comes after the rows taken before
pub record TookFrom (before after : DeckReader) (bytes : List ℕ) (t : Taken) : Type 0 where
  pub rest : List ℕ
  pub spelling : bytes ≡ text (row_of t.entry) ++ (10 ∷ rest)
  pub as_drawn : AsDrawn t.entry
  pub count : t.bytes ≡ suc (length (text (row_of t.entry)))
  pub one_more : rows (progress_of after) ≡ rows (progress_of before) ++ (row_of t.entry ∷ [])

-- the draft of a deck that came to its end, else a dead one
abbrev pub finished : Progress → Sheet
finished blank = dead
finished (going s told) = dead
finished (over s) = s

-- the reader came to the end of a deck, whose spelling takes so many of the bytes
pub record ReadAll (d : DeckReader) (bytes : List ℕ) (count : ℕ) : Type 0 where
  pub whole : Sheet
  pub at_end : progress_of d ≡ over whole
  pub count_is : count ≡ length (spell (rows (progress_of d)))
  pub rest : List ℕ
  pub spelling : bytes ≡ spell (rows (progress_of d)) ++ rest

-- the reader has not come to the end of a deck
abbrev pub Unfinished : DeckReader → Type 0
Unfinished d = (s : Sheet) → progress_of d ≢ over s
