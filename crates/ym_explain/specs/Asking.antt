-- By what a receiver asks that wrote bytes which are no answer.
--
-- A receiver of YMODEM-g asks by G alone, again and again. A G that stands in a text is a letter.
use Rattle.std.specs.Prelude.{ℕ, ◌==◌, nat_le, ◌&&◌, Bool, true, false, if◌then◌else◌}
use Rattle.ym_explain.specs.declared.asking.Asking.{Asking}
use Rattle.ym_explain.specs.declared.asking.Asking.TheVariants.{Nothing, Text, OneG, Gs, G, Usual}

abbrev pub is_printed : ℕ → Bool
is_printed byte = nat_le 0x20 byte && nat_le byte 0x7e

abbrev pub text_behind : ℕ → Asking
text_behind byte = if is_printed byte then Text else Nothing

-- G asks where no printed text stands directly before it, and none directly behind the first one.
-- Some receivers ask by G a few times, and by C then.
abbrev pub behind_junk : Asking → ℕ → Asking
behind_junk Nothing byte = if byte == 0x47 then OneG else text_behind byte
behind_junk Text byte = text_behind byte
behind_junk OneG byte = if byte == 0x47 then Gs else if is_printed byte then Text else G
behind_junk Gs byte = if byte == 0x47 then Gs else if byte == 0x43 then Usual else G
behind_junk G byte = G
behind_junk Usual byte = Usual

abbrev pub is_by_g : Asking → Bool
is_by_g OneG = true
is_by_g Gs = true
is_by_g G = true
is_by_g Nothing = false
is_by_g Text = false
is_by_g Usual = false
