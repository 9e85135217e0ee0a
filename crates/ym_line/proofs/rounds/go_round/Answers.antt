-- Both steps, with the pair between them.
use Rattle.ym_line.proofs.Names.{Pair}
use Rattle.ym_line.proofs.Runs.{seen-parts}
use Rattle.ym_line.proofs.rounds.go_round.Goals as goal

pub returns : goal.returns
returns g c =
    let between : Pair = record { sender = c.args.sender.now; receiver = c.go_there.new.receiver; told = g.C.Carrier.told c.go_there.new.carrier; failures = g.C.Carrier.failures c.go_there.new.carrier } in
    record {
      between = between;
      there = c.in_ok-reply.ensures;
      back = c.in_ok-go_back.ensures c.go_there.new.receiver;
      seen_is = seen-parts c.frame_found.ensures c.args.numbered.it.now c.args.sender.now c.in_ok-reply.reply c.of_frame-what.result c.of_delivery.result c.of_delivery-2.result c.sent_by.result.now c.of_frame-what.ensures.bytes c.sent_by.ensures.bytes c.sent_by.ensures.sender c.of_delivery.ensures c.of_delivery-2.ensures;
    }
