-- What is known of a function of bits holds of the function of any bits that the values stand for.
use Rattle.std.proofs.Common.{◌≡◌, Bool, true, false, not, List, [], ◌∷◌, map, refl, ap, sym, subst, ◌∙◌, arith, zero, suc}
use Rattle.std.proofs.lemmas.Bool.{cond_both}
use Rattle.std.proofs.lemmas.List.{get_or-map, length-map}
use Rattle.std.proofs.lemmas.List.Folds.{list_all_at}
use Rattle.std.specs.Prelude.{Contains, flat_map}
use Rattle.std.specs.List.{list_all}
use Rattle.std.proofs.lemmas.List.Elements.{Contains-append_left, Contains-append_right}
use Rattle.values.specs.Systems.{two_valued}
use Rattle.values.specs.Knowledge.{stands_for, known, of_one, of_two, three_valued}
use Rattle.values.specs.Relations.{Kept, Tied}
use Rattle.values.proofs.Bits.{its_bit, every_bit}
use Rattle.values.proofs.Meanings.{kept}
use Rattle.values.specs.declared.ternary.Ternary.{Ternary}
use Rattle.values.specs.declared.ternary.Ternary.TheVariants.{Zero, One, X}

abbrev May : Ternary → Bool → Type 0
May value bit = Contains (stands_for value) bit

first : {A : Type 0} (x : A) (xs : List A) → Contains (x ∷ xs) x
first x xs = (0, omega arith, refl)

later : {A : Type 0} (x y : A) (xs : List A) → Contains xs y → Contains (x ∷ xs) y
later x y xs h = Contains-append_right (x ∷ []) xs y h

in_map : {A B : Type 0} (f : A → B) (xs : List A) (x : A) → Contains xs x → Contains (map f xs) (f x)
in_map f xs x h = (h.0, rw (length-map xs f) h.1, get_or-map f xs h.0 x (f x) h.1 ∙ ap f h.2)

in_flat_map : {A B : Type 0} (f : A → List B) (xs : List A) (x : A) (y : B) → Contains xs x → Contains (f x) y → Contains (flat_map f xs) y
in_flat_map f [] x y h k = absurd (omega (arith, h.1))
in_flat_map f (z ∷ zs) x y (zero, lt, e) k = Contains-append_left (f z) (flat_map f zs) y (subst (λ w. Contains (f w) y) (sym e) k)
in_flat_map f (z ∷ zs) x y (suc i, lt, e) k = Contains-append_right (f z) (flat_map f zs) y (in_flat_map f zs x y (i, omega (arith, lt), e) k)

known_holds : (bits : List Bool) (bit : Bool) → Contains bits bit → May (known bits) bit
known_holds bits false h = rw (list_all_at (λ b. b) bits h.0 false h.1 h.2) (cond_both (list_all not bits) Zero X (λ v. May v false) (λ _. first false []) (λ _. first false (true ∷ [])))
known_holds bits true h = rw (list_all_at not bits h.0 true h.1 (ap not h.2)) (cond_both (list_all (λ b. b) bits) One X (λ v. May v true) (λ _. first true []) (λ _. later false true (true ∷ []) (first true [])))

of_one_holds : (f : Bool → Bool) (a : Ternary) (x : Bool) → May a x → May (of_one f a) (f x)
of_one_holds f a x h = known_holds (map f (stands_for a)) (f x) (in_map f (stands_for a) x h)

of_two_holds : (f : Bool → Bool → Bool) (a b : Ternary) (x y : Bool) → May a x → May b y → May (of_two f a b) (f x y)
of_two_holds f a b x y h k = known_holds (flat_map (λ u. map (f u) (stands_for b)) (stands_for a)) (f x y) (in_flat_map (λ u. map (f u) (stands_for b)) (stands_for a) x (f x y) h (in_map (f x) (stands_for b) y k))

knowledge_kept : Kept three_valued two_valued May
knowledge_kept = record {
  start = first false (true ∷ []);
  not = λ a x h. of_one_holds two_valued.not a x h;
  and = λ a b x y h k. of_two_holds two_valued.and a b x y h k;
  or = λ a b x y h k. of_two_holds two_valued.or a b x y h k;
  xor = λ a b x y h k. of_two_holds two_valued.xor a b x y h k;
}

pub stands_for_kept : Kept three_valued two_valued (Tied (λ (value : Ternary). value) its_bit (λ value bit. Contains (stands_for value) bit.0))
stands_for_kept = kept (λ (value : Ternary). value) its_bit May (λ value. record { value = value; is = refl }) every_bit three_valued two_valued knowledge_kept

-- X stands for either bit
pub either : (value : Ternary) (bit : Bool) → value ≡ X → Contains (stands_for value) bit
either value false is = rw is (first false (true ∷ []))
either value true is = rw is (later false true (true ∷ []) (first true []))
