-- The number and the word of every refusal, and the number of every answer: 0 where nothing is refused.
use Rattle.std.specs.Prelude.{ℕ, List, Ok, Err, codes, Result}
use Rattle.netlist.specs.declared.refusal.Refusal.{Refusal}

abbrev pub number : Refusal → ℕ
number Refusal.Cut = 1
number Refusal.Letter = 2
number Refusal.Length = 3
number Refusal.Figure = 4
number Refusal.Range = 5
number Refusal.Turn = 6
number Refusal.Kind = 7
number Refusal.Open = 8
number Refusal.Free = 9
number Refusal.Store = 10
number Refusal.Starts = 11
number Refusal.Line = 12
number Refusal.Past = 13
number Refusal.Late = 14
number Refusal.Unsettled = 15
number Refusal.Full = 16
number Refusal.Idle = 17
number Refusal.None = 18

abbrev pub word : Refusal → List ℕ
word Refusal.Cut = codes "cut"
word Refusal.Letter = codes "letter"
word Refusal.Length = codes "length"
word Refusal.Figure = codes "figure"
word Refusal.Range = codes "range"
word Refusal.Turn = codes "turn"
word Refusal.Kind = codes "kind"
word Refusal.Open = codes "open"
word Refusal.Free = codes "free"
word Refusal.Store = codes "store"
word Refusal.Starts = codes "starts"
word Refusal.Line = codes "line"
word Refusal.Past = codes "past"
word Refusal.Late = codes "late"
word Refusal.Unsettled = codes "unsettled"
word Refusal.Full = codes "full"
word Refusal.Idle = codes "idle"
word Refusal.None = codes "none"

-- the number of an answer
abbrev pub answer : {T : Type 0} → Result T Refusal → ℕ
answer (Ok x) = 0
answer (Err r) = number r
