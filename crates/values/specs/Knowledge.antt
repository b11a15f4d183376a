-- Three values: what is known of a bit.
use Rattle.std.specs.Prelude.{Bool, true, false, not, cond, List, [], ◌∷◌, map, flat_map, ℕ, codes}
use Rattle.std.specs.List.{list_all}
use Rattle.values.specs.Systems.{System, two_valued}
use Rattle.values.specs.declared.ternary.Ternary.{Ternary}
use Rattle.values.specs.declared.ternary.Ternary.TheVariants.{Zero, One, X}

-- the bits that a value stands for
abbrev pub stands_for : Ternary → List Bool
stands_for Zero = false ∷ []
stands_for One = true ∷ []
stands_for X = false ∷ true ∷ []

-- what is known of a bit that may be any of these, of which there is at least one
abbrev pub known : List Bool → Ternary
known bits = cond (list_all not bits) Zero (cond (list_all (λ bit. bit) bits) One X)

-- what is known of a function of one bit
abbrev pub of_one : (Bool → Bool) → Ternary → Ternary
of_one f a = known (map f (stands_for a))

-- what is known of a function of two bits, of which each may be what it is whatever the other is
abbrev pub of_two : (Bool → Bool → Bool) → Ternary → Ternary → Ternary
of_two f a b = known (flat_map (λ x. map (f x) (stands_for b)) (stands_for a))

-- the values 0, 1 and X; nothing is known at the start
abbrev pub three_valued : System Ternary
three_valued = record {
  start = X;
  not = of_one two_valued.not;
  and = of_two two_valued.and;
  or = of_two two_valued.or;
  xor = of_two two_valued.xor;
}

abbrev pub letter : Ternary → List ℕ
letter Zero = codes "0"
letter One = codes "1"
letter X = codes "X"
