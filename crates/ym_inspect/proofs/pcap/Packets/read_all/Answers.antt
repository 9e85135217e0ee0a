use Rattle.std.proofs.Common.{◌<◌, length, refl, arith, rules}
use Rattle.std.proofs.lemmas.Grind.{common_steps}
use Rattle.ym_inspect.proofs.PcapLemmas.{read_all_of, read_none, read_piece, read_wrong_packet}
use Rattle.ym_inspect.specs.contracts.pcap.Packets.{the_view}
use Rattle.ym_inspect.proofs.RecordLemmas.{if_err}
use Rattle.ym_inspect.proofs.pcap.Packets.read_all.Goals as goal

pub loop-init : goal.loop-init
loop-init g c = record { some = λ rest e. read_none _ _ _ _ e; reads = refl; writes = refl }

pub returns-then-count-eq0-clause-read : goal.returns-then-count-eq0-clause-read
returns-then-count-eq0-clause-read g c = λ rest e.
    let bytes = rw c.if-count-eq0.true at c.in_ok-count.ensures.bytes in
    let room : 0 < length c.read_some.new.buffer = grind (arith, common_steps) in
    read_all_of _ _ _ _ _ _ _ _ _ (c.loop.invariant.some rest e) c.in_ok-tell_whole.ensures.read bytes.0 (bytes.1 refl room)

pub loop-preserved : goal.loop-preserved
loop-preserved g c = record {
  some = λ rest e.
      read_piece _ _ _ _ _ _ _ _ _ _ (the_view c.self.inside) _ (c.loop.invariant.some rest e) c.in_ok-tell_whole.ensures.read
      c.in_ok-count.ensures.bytes.0 c.self.view_is refl refl c.in_ok-add.ensures.ok;
  reads = grind (arith, common_steps);
  writes = grind (arith, common_steps);
}

pub returns-in_err-tell_whole-clause-position : goal.returns-in_err-tell_whole-clause-position
returns-in_err-tell_whole-clause-position g c = if_err c.from_residual.result c.in_err-tell_whole.field-0.0 _ (search rules)
    (λ rest e. read_wrong_packet _ _ _ _ _ _ _ (c.loop.invariant.some rest e) c.in_err-tell_whole.ensures.position)
