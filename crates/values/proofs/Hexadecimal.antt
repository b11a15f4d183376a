-- What a formatter lays out of a word in hexadecimal.
use Rattle.std.proofs.Common.{◌≡◌, false, ◌^◌, ◌-◌, [], refl}
use Rattle.std.proofs.Math.Nat.{sub-zero}
use Rattle.std.proofs.lemmas.List.{append-nil}
use Rattle.std.specs.Fmt.{padded_integral, format_spec, digits, char_count}
use Rattle.values.specs.Lanes.{hexadecimal}
use Rattle.values.specs.declared.lanes.Lanes.{Lanes}

pub laid_out : (word : Lanes) → padded_integral (format_spec 32 0 4 16 (2 ^ 64 - 1)) false [] (digits 16 false word.0) ≡ hexadecimal word
unfolding padded_integral char_count
laid_out word = simp (sub-zero, append-nil) refl
