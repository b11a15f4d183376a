-- Relations of values that are relations of their meanings, in systems of which each member is meant by a value.
use Rattle.std.proofs.Common.{◌≡◌, Bool, refl, sym, subst}
use Rattle.std.specs.Prelude.{Decides}
use Rattle.values.specs.Systems.{System}
use Rattle.values.specs.Relations.{Tied, Kept}

-- some value means it
pub record Meant {V M : Type 0} (means : V → M) (m : M) : Type 0 where
  pub value : V
  pub is : means value ≡ m

module _ {V W M N : Type 0} (left : V → M) (right : W → N) (R : M → N → Type 0) where
  abbrev On : V → W → Type 0
  On v w = R (left v) (right w)

  pub related : (m : M) (n : N) → Tied left right On m n → R m n
  related m n t = subst (λ x. R m x) t.right_is (subst (λ x. R x (right t.right)) t.left_is t.ties)

  -- an answer that tells whether two meanings are related tells whether they are tied
  pub decided : (v : V) (w : W) (answer : Bool) → Decides answer (On v w) → Decides answer (Tied left right On (left v) (right w))
  decided v w answer tells = ((λ yes. record { left = v; right = w; left_is = refl; right_is = refl; ties = tells.0 yes }), (λ t. tells.1 (related (left v) (right w) t)))

  module _ (every_left : (m : M) → Meant left m) (every_right : (n : N) → Meant right n) where
    pub tied : (m : M) (n : N) → R m n → Tied left right On m n
    tied m n r =
        let v = every_left m in
        let w = every_right n in
        record {
          left = v.value;
          right = w.value;
          left_is = v.is;
          right_is = w.is;
          ties = subst (λ x. R (left v.value) x) (sym w.is) (subst (λ x. R x n) (sym v.is) r);
        }

    -- a relation that is kept is kept as the tie of its values
    pub kept : (s : System M) (t : System N) → Kept s t R → Kept s t (Tied left right On)
    kept s t k = record {
      start = tied s.start t.start k.start;
      not = λ a b ab. tied (s.not a) (t.not b) (k.not a b (related a b ab));
      and = λ a c b d ab cd. tied (s.and a c) (t.and b d) (k.and a c b d (related a b ab) (related c d cd));
      or = λ a c b d ab cd. tied (s.or a c) (t.or b d) (k.or a c b d (related a b ab) (related c d cd));
      xor = λ a c b d ab cd. tied (s.xor a c) (t.xor b d) (k.xor a c b d (related a b ab) (related c d cd));
    }
