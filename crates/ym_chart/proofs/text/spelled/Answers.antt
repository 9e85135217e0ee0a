use Rattle.ym_chart.proofs.FrontLemmas.{spelled_on}
use Rattle.ym_chart.proofs.text.spelled.Goals as goal

pub loop-byte-preserved : goal.loop-byte-preserved
loop-byte-preserved c =
    spelled_on _ _ c.args.bytes.now c.loop-byte.byte-index c.loop-byte-test.true c.in_ok-push_written.ensures c.loop-byte.invariant
