use Rattle.std.proofs.Common.{◌≡◌}
use Rattle.values.specs.Lanes.{bits_of, lanes}
use Rattle.values.specs.Relations.{Tied}
use Rattle.values.specs.Systems.{two_valued}
use Rattle.values.proofs.Bits.{its_bit, every_bit}
use Rattle.values.proofs.Meanings.{related, tied}
use Rattle.values.proofs.Words.{every_word}
use Rattle.semantics.proofs.Proved.{tied_as}
use Rattle.semantics.proofs.ties.a_lane_simulates_bits.Goals as goal

pub returns-clause-has_the_bits : goal.returns-clause-has_the_bits
returns-clause-has_the_bits c circuit room other wired =
    let lane = c.args.lane in
    tied_as lanes two_valued circuit room other (Tied bits_of its_bit (λ word bit. bits_of word lane ≡ bit.0)) (λ word bit. word lane ≡ bit)
    (tied bits_of its_bit (λ word bit. word lane ≡ bit) every_word every_bit) (related bits_of its_bit (λ word bit. word lane ≡ bit)) (c.kept_relations_tie_lines.ensures.ties_lines circuit room other wired)
