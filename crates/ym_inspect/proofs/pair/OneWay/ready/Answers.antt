use Rattle.ym_inspect.proofs.PairLemmas.{way_none}
use Rattle.ym_inspect.proofs.pair.OneWay.ready.Goals as goal

pub returns-then-self-clause-reads : goal.returns-then-self-clause-reads
returns-then-self-clause-reads g c = λ before. way_none _ _ _ before
