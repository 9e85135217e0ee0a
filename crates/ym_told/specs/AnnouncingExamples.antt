-- What stands behind a name in a block 0, computed.
use Rattle.std.specs.Prelude.{◌≡◌, ℕ, true, false, List, [], ◌∷◌, refl}
use Rattle.ym_header.specs.declared.fault.HeaderFault.TheVariants.{NoLength}
use Rattle.ym_told.specs.Announcing.{after_name, fills, is_crammed, stated_unread, stated_file}
use Rattle.ym_told.specs.declared.stated.Stated.TheVariants as stated

-- a name alone, and then the end of its body: an old sender states no length
abbrev pub alone : List ℕ
alone = 0x61 ∷ 0 ∷ 0 ∷ 0 ∷ 0 ∷ []

name_alone : stated_unread NoLength (is_crammed (after_name alone)) ≡ stated.Nothing
name_alone = refl

-- the body ends in the name, with its 00, and where `sb` counts 97 blocks behind it
in_the_name : stated_unread NoLength (is_crammed (after_name (0x61 ∷ 0x61 ∷ []))) ≡ stated.NoRoom
in_the_name = refl

with_its_zero : stated_unread NoLength (is_crammed (after_name (0x61 ∷ 0 ∷ []))) ≡ stated.NoRoom
with_its_zero = refl

with_a_count :
    stated_unread NoLength (is_crammed (after_name (0x61 ∷ 0 ∷ 0 ∷ 97 ∷ []))) ≡ stated.NoRoom
with_a_count = refl

-- 12 breaks off at the end, and 1 has its 00
breaks_off : stated_file 12 (fills (after_name (0x61 ∷ 0 ∷ 0x31 ∷ 0x32 ∷ []))) ≡ stated.NoRoom
breaks_off = refl

has_its_zero : stated_file 1 (fills (after_name (0x61 ∷ 0 ∷ 0x31 ∷ 0 ∷ []))) ≡ stated.Length 1
has_its_zero = refl
