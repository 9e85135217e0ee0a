use Rattle.std.proofs.Common.{rules}
use Rattle.ym_inspect.proofs.PcapLemmas.{stops_at_end, tells_to_end}
use Rattle.ym_inspect.proofs.RecordLemmas.{also_err, also_ok}
use Rattle.ym_inspect.proofs.pcap.Packets.explain.Goals as goal

pub returns-clause-told : goal.returns-clause-told
returns-clause-told g c = also_ok c.end.result _ _ c.end.ensures.told
    (λ verdict told. λ rest e. tells_to_end _ _ _ _ _ _ _ (c.in_ok-read_all.ensures.read rest e) told)

pub returns-clause-position : goal.returns-clause-position
returns-clause-position g c = also_err c.end.result _ _ c.end.ensures.position
    (λ fault stop. λ rest e. stops_at_end _ _ _ _ _ _ (c.in_ok-read_all.ensures.read rest e) stop)
