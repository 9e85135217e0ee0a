-- How many rounds a batch needs where all of them are whole.
use Rattle.std.specs.Prelude.{ℕ, ◌+◌, List, sum_by}
use Rattle.ym_file.specs.declared.plan.Shape.{Shape}
use Rattle.ym_file.specs.SourceFile.{FileParts, blocks_of}
use Rattle.ym_machine.specs.declared.confirm.Confirm.{Confirm}
use Rattle.ym_machine.specs.declared.confirm.Confirm.TheVariants.{Twice, Once}

-- the frames of a file beside its data blocks: its block 0, and its EOT once or twice
abbrev pub others_of : Confirm → ℕ
others_of Twice = 3
others_of Once = 2

-- the first C, the end block, and all frames of each file
abbrev pub rounds_of : Shape → Confirm → List FileParts → ℕ
rounds_of shape confirm files = 2 + sum_by (λ file. blocks_of shape file + others_of confirm) files
