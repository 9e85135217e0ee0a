use Rattle.ym_delay.proofs.laws.timed_engines_commit_a_prefix.Goals as goal

pub returns-clause-apart : goal.returns-clause-apart
returns-clause-apart c times s new r end calls timed prompt fresh is none =
    let pairs = c.timed_calls_pair_up.ensures.apart times s new r end calls timed prompt fresh none in c.two_engines_commit_a_prefix.ensures.history s new r end calls pairs.0 fresh is pairs.1

pub returns-clause-heard : goal.returns-clause-heard
returns-clause-heard c times s new r end calls timed prompt fresh is hears =
    let pairs = c.timed_calls_pair_up.ensures.heard times s new r end calls timed prompt fresh hears in c.two_engines_commit_a_prefix.ensures.history s new r end calls pairs.0 fresh is pairs.1
