use Rattle.ym_delay.proofs.laws.rule.batches_by_the_rule_commit_a_prefix.Goals as goal

pub returns : goal.returns
returns c times s new r end histories timed fresh is well some rule =
    c.batches_in_time_commit_a_prefix.ensures.cleared times s new r end histories timed fresh is well some (c.the_rule_lets_a_line_clear.ensures.lets times timed.spoke timed.answered rule)
