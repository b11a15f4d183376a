-- What a search keeps while it runs; it serves the contracts of the search's own functions.
use Rattle.std.specs.Prelude.{◌≡◌, ℕ, ◌+◌, ◌≤◌, Bool, true, false, not, ◌⊎◌, List, [], ◌∷◌, ◌++◌, length, drop, count_by, Contains, slice_index_or, slice_set}
use Rattle.std.specs.Int.{is_in_range}
use Rattle.netlist.specs.declared.draft.search.Search.{Search}
use Rattle.netlist.specs.Gates.{Circuit}
use Rattle.netlist.specs.Walks.{Reads}

abbrev pub seen : Search → ℕ → Bool
seen s m = slice_index_or s.seen m false

-- how many lines are not seen
abbrev pub unseen : Search → ℕ
unseen s = count_by not s.seen

-- the lines that are still to be followed, in the order in which they were found
abbrev pub waiting : Search → List ℕ
waiting s = drop s.next s.found.items

-- line m is still to be followed
abbrev pub Waits : Search → ℕ → Type 0
Waits s m = Contains (waiting s) m

-- the search with one more line marked
abbrev pub marked : Search → ℕ → Search
marked s m = record { seen = slice_set s.seen m true; found = record { items = s.found.items ++ m ∷ [] }; next = s.next }

-- a search, and what it is once the line that has waited longest is taken to be followed
pub record Takes (s : Search) (line : ℕ) (t : Search) : Type 0 where
  pub first : waiting s ≡ line ∷ waiting t
  pub same_seen : t.seen ≡ s.seen
  pub same_found : t.found ≡ s.found
  pub within : t.next ≤ length t.found.items

-- there is room for all lines that are not seen, no line is followed before it is found, and what is seen lies outside the
-- sought range
pub record Sound (first last : ℕ) (s : Search) : Type 0 where
  pub table : length s.seen ≡ 1025
  pub room : length s.found.items + unseen s ≤ 1026
  pub within : s.next ≤ length s.found.items
  pub outside : (m : ℕ) → seen s m ≡ true → is_in_range first last m ≡ false

-- from one search to another nothing is lost, and the lines that came to be seen wait and are read by line n
pub record Grows (c : Circuit) (n : ℕ) (s t : Search) : Type 0 where
  pub seen_stays : (m : ℕ) → seen s m ≡ true → seen t m ≡ true
  pub waits_stays : (m : ℕ) → Waits s m → Waits t m
  pub new_waits : (m : ℕ) → seen t m ≡ true → (seen s m ≡ true) ⊎ Waits t m
  pub new_read : (m : ℕ) → Waits t m → Waits s m ⊎ Reads c n m
  pub moved : length (waiting t) + unseen t ≡ length (waiting s) + unseen s
  pub fewer : unseen t ≤ unseen s

-- each line that line n reads is seen
abbrev pub Followed : Circuit → Search → ℕ → Type 0
Followed c s n = (m : ℕ) → Reads c n m → seen s m ≡ true
