use Rattle.std.proofs.Common.{refl, arith, rules}
use Rattle.std.proofs.lemmas.Grind.{common_steps}
use Rattle.ym_inspect.proofs.PcapLemmas.{stops_at_end_of, tells_none, tells_two}
use Rattle.ym_inspect.proofs.RecordLemmas.{if_err}
use Rattle.ym_inspect.proofs.pcap.Packets.tell_whole.Goals as goal

pub loop-init : goal.loop-init
loop-init g c = record { tells = tells_none _ _; failures = refl }

pub loop-preserved : goal.loop-preserved
loop-preserved g c = record {
  tells = tells_two _ _ _ _ _ _ _ c.loop.invariant.tells c.in_ok-tell_one.ensures.read;
  failures = grind (arith, common_steps);
}

pub returns-then-not-branch-clause-read : goal.returns-then-not-branch-clause-read
returns-then-not-branch-clause-read g c = tells_two _ _ _ _ _ _ _ c.loop.invariant.tells c.in_ok-tell_one.ensures.read

pub returns-in_err-tell_one-clause-position : goal.returns-in_err-tell_one-clause-position
returns-in_err-tell_one-clause-position g c = if_err c.from_residual.result c.in_err-tell_one.field-0.0 _ (search rules)
    (λ more. stops_at_end_of more _ _ _ _ _ c.loop.invariant.tells (c.in_err-tell_one.ensures.position more))
