-- The nine rights of a mode, as `ls -l` shows them: those of the owner, of the group and of others,
-- three bits each, and of each class to read, to write and to run.
use Rattle.std.specs.Prelude.{◌≡◌, ℕ, ◌/◌, ◌%◌, ◌==◌, List, ◌++◌, codes, if◌then◌else◌, refl}

-- the letter of a right where its bit, the lowest one here, is set
abbrev pub right_text : ℕ → List ℕ → List ℕ
right_text bits letter = if bits % 2 == 1 then letter else codes "-"

abbrev pub class_text : ℕ → List ℕ
class_text bits =
    right_text (bits / 4) (codes "r")
    ++ (right_text (bits / 2) (codes "w") ++ right_text bits (codes "x"))

abbrev pub rights_text : ℕ → List ℕ
rights_text mode = class_text (mode / 64) ++ (class_text (mode / 8) ++ class_text mode)

-- 100644, 755 and 4 in octal
pub of_a_text : rights_text 33_188 ≡ codes "rw-r--r--"
of_a_text = refl

pub of_a_program : rights_text 493 ≡ codes "rwxr-xr-x"
of_a_program = refl

pub of_nobodys : rights_text 4 ≡ codes "------r--"
of_nobodys = refl
