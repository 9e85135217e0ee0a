-- What is acknowledged against any peer is what the line counts.
use Rattle.ym_sending.proofs.PeerLemmas.{acknowledges-told, acknowledges-along}
use Rattle.ym_sending.proofs.sending.run_sender.Goals as goal

pub returns : goal.returns
returns g c =
    let ran = c.send_over.ensures in
    let keeps = c.a_step_keeps_the_batch.ensures.counts in
    let law = c.a_sender_was_acknowledged.ensures in record {
      told = λ running u after. let run = ran.told running u after in (run.0, run.1, run.2, λ new. acknowledges-told keeps _ _ _ _ _ run.2 (law.done _ _ _ run.2 new));
      history = (ran.history.0, ran.history.1, λ new. acknowledges-along keeps _ _ _ _ ran.history.1.hears (law.history _ _ _ _ ran.history.1.hears new));
      device = ran.device;
      memory = ran.memory;
      over = ran.ended;
    }
