-- What a value system is, apart from how its values are stored, and the two-valued system.
use Rattle.std.specs.Prelude.{Bool, true, false, not, ◌&&◌, ◌||◌}

-- a system of values whose meanings are members of M
pub record System (M : Type 0) : Type 0 where
  pub start : M
  pub not : M → M
  pub and : M → M → M
  pub or : M → M → M
  pub xor : M → M → M

-- one of them is true and the other is not
abbrev pub differ : Bool → Bool → Bool
differ true b = not b
differ false b = b

-- the values 0 and 1
abbrev pub two_valued : System Bool
two_valued = record { start = false; not = not; and = ◌&&◌; or = ◌||◌; xor = differ }
