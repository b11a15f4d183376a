use Rattle.std.proofs.Common.{refl, Contains}
use Rattle.values.specs.Knowledge.{three_valued, stands_for}
use Rattle.values.specs.Relations.{Tied}
use Rattle.values.specs.Systems.{two_valued}
use Rattle.values.specs.declared.ternary.Ternary.{Ternary}
use Rattle.values.proofs.Bits.{its_bit, every_bit}
use Rattle.values.proofs.Meanings.{related, tied}
use Rattle.semantics.proofs.Proved.{tied_as}
use Rattle.semantics.proofs.ties.a_value_stands_for_all_that_may_be.Goals as goal

pub returns-clause-stands_for_the_bits : goal.returns-clause-stands_for_the_bits
returns-clause-stands_for_the_bits c circuit room other wired =
    tied_as three_valued two_valued circuit room other (Tied (λ (value : Ternary). value) its_bit (λ value bit. Contains (stands_for value) bit.0)) (λ value bit. Contains (stands_for value) bit)
    (tied (λ (value : Ternary). value) its_bit (λ value bit. Contains (stands_for value) bit) (λ value. record { value = value; is = refl }) every_bit)
    (related (λ (value : Ternary). value) its_bit (λ value bit. Contains (stands_for value) bit)) (c.kept_relations_tie_lines.ensures.ties_lines circuit room other wired)
