use Rattle.std.proofs.Common.{◌≡◌, ◌++◌}
use Rattle.ym_judging.specs.Contents.{content_of}
use Rattle.ym_judging.proofs.payload.content.Given as goal

abbrev pub invariant-loop-left : goal.invariant-loop-left
invariant-loop-left l = l.bytes.items ++ content_of l.left ≡ content_of l.length

abbrev pub decreases-loop-left : goal.decreases-loop-left
decreases-loop-left l = l.left
