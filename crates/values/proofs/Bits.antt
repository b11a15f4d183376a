-- Each bit is the meaning of a two-valued value.
use Rattle.std.proofs.Common.{Bool, refl}
use Rattle.values.specs.declared.bit.Bit.{Bit}
use Rattle.values.proofs.Meanings.{Meant}

abbrev pub its_bit : Bit → Bool
its_bit b = b.0

pub every_bit : (m : Bool) → Meant its_bit m
every_bit m = record { value = record { 0 = m }; is = refl }
