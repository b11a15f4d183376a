-- 64 two-valued bits side by side in a word.
use Rattle.std.specs.Prelude.{ℕ, ◌-◌, false, List, ◌++◌, length, replicate, Bool, ◌==◌}
use Rattle.std.specs.Fmt.{digits}
use Rattle.std.specs.Int.{bit_at}
use Rattle.values.specs.Systems.{System, two_valued}
use Rattle.values.specs.declared.lane.Lane.{Lane}
use Rattle.values.specs.declared.lanes.Lanes.{Lanes}

-- members of a system side by side, each function working on each place by itself
abbrev pub side_by_side : {M : Type 0} (Place : Type 0) → System M → System (Place → M)
side_by_side Place s = record {
  start = λ place. s.start;
  not = λ a place. s.not (a place);
  and = λ a b place. s.and (a place) (b place);
  or = λ a b place. s.or (a place) (b place);
  xor = λ a b place. s.xor (a place) (b place);
}

abbrev pub lanes : System (Lane → Bool)
lanes = side_by_side Lane two_valued

-- the bit that a word has in a lane, which is that of weight 2 ^ place
unfoldable pub bits_of : Lanes → Lane → Bool
bits_of word lane = bit_at word.0 lane.place == 1

-- a word in hexadecimal: its digits after as many zeros as make 16
abbrev pub hexadecimal : Lanes → List ℕ
hexadecimal word = let numeral = digits 16 false word.0 in replicate (16 - length numeral) 48 ++ numeral
