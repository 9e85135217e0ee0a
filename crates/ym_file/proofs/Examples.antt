-- The definitions, computed on files that are written out.
use Rattle.std.specs.Prelude.{◌≡◌, ◌-◌, ◌^◌, false, [], ◌∷◌, ◌++◌, replicate, refl}
use Rattle.ym_file.specs.Plan.{sizes_of, padded, cut, pieces_of, count_of}
use Rattle.ym_file.specs.Collecting.{keeps_some, keep_all}
use Rattle.ym_file.specs.Counts.{raised}
use Rattle.ym_file.specs.declared.plan.Shape.TheVariants.{Mixed, Short}

no_block : sizes_of Mixed 0 ≡ []
unfolding sizes_of
no_block = refl

one_long : sizes_of Mixed 1024 ≡ 1024 ∷ []
unfolding sizes_of
one_long = refl

long_and_short : sizes_of Mixed 1025 ≡ 1024 ∷ 128 ∷ []
unfolding sizes_of
long_and_short = refl

-- no long block where one byte is missing
eight_short : sizes_of Mixed 1023 ≡ replicate 8 128
unfolding sizes_of
eight_short = refl

two_long_and_eight_short : sizes_of Mixed 3000 ≡ 1024 ∷ 1024 ∷ replicate 8 128
unfolding sizes_of
two_long_and_eight_short = refl

-- one byte and 127 bytes of padding
two_short : pieces_of Short (replicate 129 0x41) ≡ replicate 128 0x41 ∷ (0x41 ∷ replicate 127 0x1A) ∷ []
unfolding sizes_of padded cut pieces_of
two_short = refl

longest_mixed : count_of Mixed (2 ^ 63 - 1) ≡ 9007199254740999
longest_mixed = refl

longest_short : count_of Short (2 ^ 63 - 1) ≡ 72057594037927936
longest_short = refl

-- of the second body 72 bytes are kept, and of a third one none
kept : keep_all 200 [] (replicate 128 0x41 ∷ replicate 128 0x42 ∷ []) ≡ replicate 128 0x41 ++ replicate 72 0x42
kept = refl

dropped : keeps_some 200 (replicate 128 0x41 ++ replicate 72 0x42) (replicate 128 0x43) ≡ false
dropped = refl

-- the greatest count stays
stays : raised (2 ^ 64 - 1) ≡ 2 ^ 64 - 1
stays = refl
