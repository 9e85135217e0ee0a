use Rattle.ym_delay.proofs.laws.cleared_engines_commit_a_prefix.Goals as goal

pub returns : goal.returns
returns c times s new r end calls timed fresh is well some clears =
    let pairs = c.cleared_calls_pair_up.ensures times s new r end calls timed well some clears in c.two_engines_commit_a_prefix.ensures.history s new r end calls pairs.0 fresh is pairs.1
