use Rattle.ym_chart.specs.Drawing.{head_words}
use Rattle.ym_chart.proofs.picture.head_of.Goals as goal

pub returns : goal.returns
unfolding head_words
returns c = c.format.ensures.ok
