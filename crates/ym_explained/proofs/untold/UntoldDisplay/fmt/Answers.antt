-- What is written is what the words of its kind are.
use Rattle.ym_explained.proofs.untold.UntoldDisplay.fmt.Goals as goal

pub returns-in-Cut-clause-writes : goal.returns-in-Cut-clause-writes
returns-in-Cut-clause-writes g c plain ok = rw c.in-Cut.is (c.write-in-Cut.ensures.writes plain ok)

pub returns-in-NoCapture-clause-writes : goal.returns-in-NoCapture-clause-writes
returns-in-NoCapture-clause-writes g c plain ok = rw c.in-NoCapture.is (c.write-in-NoCapture.ensures.writes plain ok)
