-- Worked examples of records.
use Rattle.std.specs.Prelude.{◌≡◌, refl, [], ◌∷◌, codes}
use Rattle.std.specs.Fmt.{digits}
use Rattle.hex.specs.Hex.{encode_with}
use Rattle.ym_told.specs.declared.way.Direction.TheVariants.{There, Back}
use Rattle.ym_capture.specs.RecordText.{line_of}

an_ask : line_of 0 Back (0x43 ∷ []) ≡ codes "0.000000 < 43\n"
unfolding line_of digits encode_with
an_ask = refl

a_prefix : line_of 12004112 There (0x01 ∷ 0x00 ∷ 0xff ∷ 0x61 ∷ []) ≡ codes "12.004112 > 0100ff61\n"
unfolding line_of digits encode_with
a_prefix = refl
