-- The lines are those of the end that the receiver has, and of the headers that its sink tells.
use Rattle.ym_receiving.proofs.LineLemmas.{tells_receiver}
use Rattle.ym_receiving.proofs.receiving.receive_batch.Goals as goal

pub returns : goal.returns
returns g c =
    let ran = c.receive_over-ended.ensures in
    let law = c.a_receiver_commits_what_it_heard.ensures in
    let closed = rw (c.into_sink-sink.ensures.kept, c.into_sink-sink.ensures.failures) at c.close-closed.ensures in (
      c.receive_over-ended.new.receiver,
      c.receive_over-ended.result,
      c.close-closed.result,
      record {
        told = λ u after. let run = ran.told u after in (run.0, run.1, run.2, λ new. law.told _ _ _ run.2 new.begins new.into_new);
        history = (ran.history.0, ran.history.1, λ new. law.history _ _ _ _ ran.history.1.hears new.begins new.into_new);
        device = ran.device;
        over = ran.ended;
      },
      closed,
      c.state-state.ensures,
      tells_receiver _ _ _ (g.K.Sink.kept c.close-closed.new.self) _ _ _ _ _ _ c.headers.ensures closed.headers c.state-state.ensures c.print-printed.ensures c.answer_of.ensures,
    )
