-- Relations between the meanings of two systems.
use Rattle.std.specs.Prelude.{◌≡◌}
use Rattle.values.specs.Systems.{System}

-- two meanings are tied where values that have them are
pub record Tied {V W M N : Type 0} (left_means : V → M) (right_means : W → N) (Ties : V → W → Type 0) (m : M) (n : N) : Type 0 where
  pub left : V
  pub right : W
  pub left_is : left_means left ≡ m
  pub right_is : right_means right ≡ n
  pub ties : Ties left right

-- a relation is kept: it ties START to START, and the answers of each function wherever it ties the operands
pub record Kept {M N : Type 0} (s : System M) (t : System N) (R : M → N → Type 0) : Type 0 where
  pub start : R s.start t.start
  pub not : (a : M) (b : N) → R a b → R (s.not a) (t.not b)
  pub and : (a c : M) (b d : N) → R a b → R c d → R (s.and a c) (t.and b d)
  pub or : (a c : M) (b d : N) → R a b → R c d → R (s.or a c) (t.or b d)
  pub xor : (a c : M) (b d : N) → R a b → R c d → R (s.xor a c) (t.xor b d)
