-- The rounds of the files so far, each of which needs less than 2 ^ 64 + 3.
use Rattle.std.proofs.Common.{◌≡◌, ◌≤◌, ℕ, ◌+◌, ◌*◌, ◌^◌, take}
use Rattle.ym_line.specs.Needed.{rounds_of}
use Rattle.ym_line.proofs.needed.whole_rounds_needed.Given as goal

pub record Counted (rounds sum others most index : ℕ) : Type 0 where
  pub is : rounds ≡ sum
  pub few : others ≤ 3
  pub within : rounds ≤ 2 + most * index

abbrev pub invariant-loop-file : goal.invariant-loop-file
invariant-loop-file g l = Counted l.rounds (rounds_of l.shape l.fn.confirm (take l.file-index l.files)) l.others (2 ^ 64 + 3) l.file-index
