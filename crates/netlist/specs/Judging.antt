-- What judging answers, said by walks from inputs.
use Rattle.std.specs.Prelude.{◌≡◌, ℕ, ◌+◌, ◌<◌, ◌≤◌, true, false, length, Some, None, Option}
use Rattle.netlist.specs.Drafts.{Sheet, complete}
use Rattle.netlist.specs.Gates.{Circuit}
use Rattle.netlist.specs.Walks.{Reached}

-- every gate line below n is reached by some input
abbrev pub ReachedBelow : Circuit → ℕ → Type 0
ReachedBelow c n = (k : ℕ) → c.inputs < k → k < n → Reached c k

abbrev pub AllReached : Circuit → Type 0
AllReached c = ReachedBelow c (c.inputs + length c.gates + 1)

-- line n is the lowest gate line that no input reaches
pub record LowestFree (c : Circuit) (n : ℕ) : Type 0 where
  pub past_inputs : c.inputs < n
  pub a_line : n ≤ c.inputs + length c.gates
  pub free : Reached c n → ⊥
  pub lower_reached : ReachedBelow c n

abbrev pub FreeGate : Circuit → Option ℕ → Type 0
FreeGate c None = AllReached c
FreeGate c (Some n) = LowestFree c n

-- the number that judging a draft answers
pub data Judged (s : Sheet) (number : ℕ) : Type 0 where
  missing : number ≡ 8 → complete s ≡ false → Judged s number
  free : number ≡ 9 → complete s ≡ true → (n : ℕ) → LowestFree s.circuit n → Judged s number
  sound : number ≡ 0 → complete s ≡ true → AllReached s.circuit → Judged s number
