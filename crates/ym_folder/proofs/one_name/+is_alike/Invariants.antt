use Rattle.std.proofs.Common.{◌+◌, length}
use Rattle.ym_folder.proofs.one_name.+is_alike.Given as goal

abbrev pub decreases-is_alike : goal.decreases-is_alike
decreases-is_alike l = length l.name.now + length l.part.now
