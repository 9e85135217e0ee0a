use Rattle.ym_delay.proofs.calls.send_and_receive_in_time.Goals as goal

pub returns-clause-apart : goal.returns-clause-apart
returns-clause-apart g c times calls timed prompt fresh none =
    let pairs = c.timed_calls_pair_up.ensures.apart times _ _ _ _ calls timed prompt fresh none in c.send_and_receive.ensures.prefix fresh calls pairs.0 pairs.1

pub returns-clause-heard : goal.returns-clause-heard
returns-clause-heard g c times calls timed prompt fresh hears =
    let pairs = c.timed_calls_pair_up.ensures.heard times _ _ _ _ calls timed prompt fresh hears in c.send_and_receive.ensures.prefix fresh calls pairs.0 pairs.1

pub returns-clause-complete : goal.returns-clause-complete
returns-clause-complete g c times calls timed prompt fresh hears near far none =
    let pairs = c.timed_calls_pair_up.ensures.heard times _ _ _ _ calls timed prompt fresh hears in
    (pairs.0, pairs.1, λ short. c.send_and_receive.ensures.complete fresh near far none calls pairs.0 pairs.1 short)

pub returns-clause-cleared : goal.returns-clause-cleared
returns-clause-cleared g c times calls timed fresh well some clears =
    let pairs = c.cleared_calls_pair_up.ensures times _ _ _ _ calls timed well some clears in c.send_and_receive.ensures.prefix fresh calls pairs.0 pairs.1

pub returns-clause-cleared_complete : goal.returns-clause-cleared_complete
returns-clause-cleared_complete g c times calls timed fresh well some clears near far none =
    let pairs = c.cleared_calls_pair_up.ensures times _ _ _ _ calls timed well some clears in
    (pairs.0, pairs.1, λ short. c.send_and_receive.ensures.complete fresh near far none calls pairs.0 pairs.1 short)
