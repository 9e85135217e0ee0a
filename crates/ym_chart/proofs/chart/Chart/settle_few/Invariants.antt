use Rattle.std.proofs.Common.{◌≡◌, length}
use Rattle.ym_chart.specs.Rows.{few_settled}
use Rattle.ym_chart.proofs.chart.Chart.settle_few.Given as goal

abbrev pub invariant-loop-self : goal.invariant-loop-self
invariant-loop-self l = few_settled l.self ≡ few_settled l.fn.self

abbrev pub decreases-loop-self : goal.decreases-loop-self
decreases-loop-self l = length l.self.few
