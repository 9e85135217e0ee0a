use Rattle.ym_delay.specs.Histories.{calls_of}
use Rattle.ym_delay.proofs.laws.histories.batches_in_time_commit_a_prefix.Goals as goal

pub returns-clause-cleared : goal.returns-clause-cleared
returns-clause-cleared c times s new r end histories timed fresh is well some clears =
    c.cleared_engines_commit_a_prefix.ensures times s new r end (calls_of s new r end histories) timed fresh is well some clears

pub returns-clause-prompt : goal.returns-clause-prompt
returns-clause-prompt c times s new r end histories timed prompt fresh is hears =
    c.timed_engines_commit_a_prefix.ensures.heard times s new r end (calls_of s new r end histories) timed prompt fresh is hears
