-- A name may be one with itself.
use Rattle.std.proofs.Common.{◌≡◌, ℕ, List, [], ◌∷◌, Bool, true, ◌∙◌, ap, refl}
use Rattle.std.specs.Prelude.{◌&&◌, ◌||◌}
use Rattle.std.specs.Char.{to_ascii_lowercase}
use Rattle.std.specs.Cmp.{nat_eq_equiv}
use Rattle.ym_folder.specs.OneName.{plain, is_but_for_case, is_of_a_table, ends_in_part, may_be_one}

same_but_for_case : (name : List ℕ) → is_but_for_case name name ≡ true
same_but_for_case [] = refl
same_but_for_case (byte ∷ rest) =
    ap (λ (b : Bool). b && is_but_for_case rest rest) (nat_eq_equiv.refl (to_ascii_lowercase byte)) ∙ same_but_for_case rest

pub may_be_itself : (name : List ℕ) → may_be_one name name ≡ true
may_be_itself name =
    ap (λ (b : Bool). b || ((is_of_a_table name || is_of_a_table name) && (ends_in_part (plain name) && ends_in_part (plain name))))
    (same_but_for_case (plain name))
