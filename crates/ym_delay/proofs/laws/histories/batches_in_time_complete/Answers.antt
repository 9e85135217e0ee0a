use Rattle.ym_delay.specs.Histories.{calls_of}
use Rattle.ym_delay.proofs.laws.histories.batches_in_time_complete.Goals as goal

pub returns-clause-cleared : goal.returns-clause-cleared
returns-clause-cleared c times s new r end histories timed fresh is well some clears over ended none =
    let calls = calls_of s new r end histories in
    let pairs = c.cleared_calls_pair_up.ensures times s new r end calls timed well some clears in
    (pairs.0, pairs.1, λ short. c.two_engines_complete.ensures.history s new r end calls pairs.0 fresh is pairs.1 over ended none short)

pub returns-clause-prompt : goal.returns-clause-prompt
returns-clause-prompt c times s new r end histories timed prompt fresh is hears over ended none =
    let calls = calls_of s new r end histories in
    let pairs = c.timed_calls_pair_up.ensures.heard times s new r end calls timed prompt fresh hears in
    (pairs.0, pairs.1, λ short. c.two_engines_complete.ensures.history s new r end calls pairs.0 fresh is pairs.1 over ended none short)
