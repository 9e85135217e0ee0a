-- Where the records of a command are.
use Rattle.std.specs.Prelude.{◌≡◌, refl, ℕ, Bool, true, false, List, ◌∷◌, ◌++◌, ◌&&◌, codes, decimal, nat_eq, nat_lt}
use Rattle.std.specs.Prelude.{if◌then◌else◌, Option, Some, None}
use Rattle.std.specs.List.{ends_with}
use Rattle.std.specs.Str.{bytes_eq}
use Rattle.ym_record.specs.declared.opening.Beside.TheVariants.{Sent, Received}
use Rattle.ym_record.specs.declared.opening.RecordRefusal.{RecordRefusal}
use Rattle.ym_record.specs.declared.opening.RecordRefusal.TheVariants as refusal
use Rattle.ym_record.specs.declared.opening.WhatIsThere.{WhatIsThere}
use Rattle.ym_record.specs.declared.opening.WhatIsThere.TheVariants.{Goes, Stays}

-- The path of the record of the connection of this number, from 1 on: the one that was asked for,
-- with a point and the number behind it from the second one on.
abbrev pub name_of : List ℕ → ℕ → List ℕ
name_of path number =
    if nat_lt number 2 then path else path ++ (0x2e ∷ decimal number)

-- a path that ends as the name of a part does, which a file has while it is received
abbrev pub is_part_path : List ℕ → Bool
is_part_path path = ends_with nat_eq path (codes ".part")

a_part : is_part_path (codes "to/a.txt.part") ≡ true
a_part = refl

no_part : is_part_path (codes "to/part") ≡ false
no_part = refl

-- whether files are received that may come to be where the record is
abbrev pub is_received : WhatIsThere → Bool
is_received (Goes Received) = true
is_received (Goes (Sent paths)) = false
is_received Stays = false

-- why this path names no record, where files are received or not
abbrev pub misnamed : List ℕ → Bool → Option RecordRefusal
misnamed path received =
    if bytes_eq path (codes "-") then Some refusal.Dash else
    if received && is_part_path path then Some refusal.IsPart else
    None
