-- Which names may be one with that of a part: examples.
use Rattle.std.specs.Prelude.{◌≡◌, ℕ, List, ◌∷◌, ◌++◌, true, false, codes, refl}
use Rattle.ym_folder.specs.OneName.{may_be_one}

it_is_itself : may_be_one (codes "a.part") (codes "a.part") ≡ true
it_is_itself = refl

case_is_ignored : may_be_one (codes "A.Part") (codes "a.part") ≡ true
case_is_ignored = refl

dots_behind_are_ignored : may_be_one (codes "a.part. .") (codes "a.part") ≡ true
dots_behind_are_ignored = refl

another_is_another : may_be_one (codes "b.part") (codes "a.part") ≡ false
another_is_another = refl

a_longer_one_is_another : may_be_one (codes "a.part2") (codes "a.part") ≡ false
a_longer_one_is_another = refl

a_shorter_one_is_another : may_be_one (codes "a.par") (codes "a.part") ≡ false
a_shorter_one_is_another = refl

-- ä and Ä, and a character without width
abbrev small : List ℕ → List ℕ
small rest = 0xc3 ∷ 0xa4 ∷ rest

abbrev capital : List ℕ → List ℕ
capital rest = 0xc3 ∷ 0x84 ∷ rest

abbrev unseen : List ℕ → List ℕ
unseen rest = 0xe2 ∷ 0x80 ∷ 0x8c ∷ rest

case_is_that_of_a_table : may_be_one (capital (codes ".Part")) (small (codes ".part")) ≡ true
case_is_that_of_a_table = refl

of_a_table_each_may_be : may_be_one (small (codes ".part")) (codes "b.part") ≡ true
of_a_table_each_may_be = refl

some_are_left_out : may_be_one (codes "a.pa" ++ unseen (codes "rt")) (codes "a.part") ≡ true
some_are_left_out = refl

another_ending_is_none : may_be_one (small (codes ".txt")) (small (codes ".part")) ≡ false
another_ending_is_none = refl
