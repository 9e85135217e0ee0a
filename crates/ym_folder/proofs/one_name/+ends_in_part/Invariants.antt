use Rattle.std.proofs.Common.{length}
use Rattle.ym_folder.proofs.one_name.+ends_in_part.Given as goal

abbrev pub decreases-ends_in_part : goal.decreases-ends_in_part
decreases-ends_in_part l = length l.name.now
