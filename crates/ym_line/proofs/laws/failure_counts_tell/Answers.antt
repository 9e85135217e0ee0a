use Rattle.ym_line.proofs.HalfSteps.{source-truth}
use Rattle.ym_line.proofs.Truths.{sources-grew, sources-long, sink-true, source-true}
use Rattle.ym_line.proofs.laws.failure_counts_tell.Goals as goal

pub returns : goal.returns
returns c = record { filled = source-truth; long = sources-long; grow = sources-grew; source = source-true; sink = sink-true }
