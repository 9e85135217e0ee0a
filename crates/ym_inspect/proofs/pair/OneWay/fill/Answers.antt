use Rattle.ym_inspect.proofs.PairLemmas.{way_filled}
use Rattle.ym_inspect.proofs.pair.OneWay.fill.Goals as goal

pub returns-clause-reads : goal.returns-clause-reads
returns-clause-reads g c = λ before. way_filled _ _ _ _ _ _ _ c.in_ok-count.ensures.bytes.0 c.in_ok-hold.ensures
