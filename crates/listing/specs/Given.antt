-- What a stimulus gives, and its first fault.
use Rattle.std.specs.Prelude.{◌≡◌, ℕ, suc, ◌+◌, List, [], ◌∷◌, ◌++◌, length, Ok, Err, Result}
use Rattle.deck.specs.Faults.{Told}
use Rattle.engine.specs.Answers.{Feeding, Holding}
use Rattle.semantics.specs.Accounts.{Account}
use Rattle.semantics.specs.Machines.{Machine}
use Rattle.stimulus.specs.Rows.{text, spell, Legal}
use Rattle.stimulus.specs.Tests.{Fails}
use Rattle.stimulus.specs.declared.entry.Entry.{Entry}
use Rattle.stimulus.specs.declared.entry.Entry.TheVariants.{Feed, Hold, End}
use Rattle.stimulus.specs.declared.reader.Phase.TheVariants as phase
use Rattle.values.specs.declared.ternary.Ternary.{Ternary}

module _ (s : Machine Ternary) where
  -- what is answered to what a record gives, and the account then; an end gives nothing
  abbrev pub Gives : Account Ternary → Entry → Result Unit ℕ → Account Ternary → Type 0
  Gives a (Feed line tick value) answer b = Feeding s a line tick value answer b
  Gives a (Hold line tick) answer b = Holding s a line tick answer b
  Gives a End answer b = ⊥

  -- records of which each is accepted, one after another, lead from an account to this one
  pub data Given (b : Account Ternary) : List Entry → Account Ternary → Type 0 where
    none : Given b [] b
    next : {a d : Account Ternary} {e : Entry} {es : List Entry} → Gives a e (Ok tt) d → Given b es d → Given b (e ∷ es) a

  -- the bytes spell records that are all accepted, and the end
  pub record Whole (a : Account Ternary) (bytes : List ℕ) (b : Account Ternary) : Type 0 where
    pub entries : List Entry
    pub spelled : bytes ≡ spell (entries ++ (End ∷ []))
    pub given : Given b entries a

  -- The bytes do not go on as they should: the next record is cut or fails a test, or it is refused, or it is the end and some
  -- byte follows.
  pub data Stops (b : Account Ternary) (lines at : ℕ) (bytes : List ℕ) (f : Told) : Type 0 where
    unread : Fails phase.Given lines at bytes f → Stops b lines at bytes f
    refused : {number : ℕ} (e : Entry) (after : List ℕ) → bytes ≡ text e ++ (10 ∷ after) → Legal lines e → Gives b e (Err number) b → f ≡ record { number = number; layer = 83; at = at; column = 1 } → Stops b lines at bytes f
    past_end : (after : List ℕ) → bytes ≡ text End ++ (10 ∷ after) → Fails phase.Done lines (suc at) after f → Stops b lines at bytes f

  -- all records before that of the fault are accepted; they count on from the first
  pub record FirstFault (a : Account Ternary) (lines first : ℕ) (bytes : List ℕ) (f : Told) : Type 0 where
    pub before : List Entry
    pub account : Account Ternary
    pub given : Given account before a
    pub rest : List ℕ
    pub spelled : bytes ≡ spell before ++ rest
    pub stops : Stops account lines (first + length before) rest f
