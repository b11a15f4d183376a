-- Each place of a system side by side goes with the system itself, and each lane of words with bits.
use Rattle.std.proofs.Common.{◌≡◌, Bool, refl, ap}
use mathlib.Core.Path.{ap₂}
use Rattle.std.specs.Prelude.{Decides}
use Rattle.std.specs.Cmp.{booleans_Decides}
use Rattle.std.proofs.Math.Bool.{beq}
use Rattle.values.specs.Systems.{System, two_valued}
use Rattle.values.specs.Lanes.{side_by_side, lanes, bits_of}
use Rattle.values.specs.Relations.{Kept, Tied}
use Rattle.values.specs.declared.bit.Bit.{Bit}
use Rattle.values.specs.declared.lane.Lane.{Lane}
use Rattle.values.specs.declared.lanes.Lanes.{Lanes}
use Rattle.values.proofs.Bits.{its_bit, every_bit}
use Rattle.values.proofs.Meanings.{kept, decided}
use Rattle.values.proofs.Words.{every_word}

place_kept : {M : Type 0} (Place : Type 0) (s : System M) (place : Place) → Kept (side_by_side Place s) s (λ f m. f place ≡ m)
place_kept Place s place = record {
  start = refl;
  not = λ a b ab. ap s.not ab;
  and = λ a c b d ab cd. ap₂ s.and ab cd;
  or = λ a c b d ab cd. ap₂ s.or ab cd;
  xor = λ a c b d ab cd. ap₂ s.xor ab cd;
}

abbrev At : Lane → (Lane → Bool) → Bool → Type 0
At lane word bit = word lane ≡ bit

abbrev InLane : Lane → (Lane → Bool) → Bool → Type 0
InLane lane = Tied bits_of its_bit (λ word bit. bits_of word lane ≡ bit.0)

pub lane_kept : (lane : Lane) → Kept lanes two_valued (InLane lane)
lane_kept lane = kept bits_of its_bit (At lane) every_word every_bit lanes two_valued (place_kept Lane two_valued lane)

pub lane_decided : (lane : Lane) (word : Lanes) (bit : Bit) → Decides (beq (bits_of word lane) bit.0) (InLane lane (bits_of word) bit.0)
lane_decided lane word bit = decided bits_of its_bit (At lane) word bit (beq (bits_of word lane) bit.0) (booleans_Decides (bits_of word lane) bit.0)
