use Rattle.ym_pair.proofs.SpellingRuns.{commits-heard, history-commits}
use Rattle.ym_pair.proofs.laws.any_peer.a_receiver_commits_what_it_heard.Goals as goal

pub returns-clause-told : goal.returns-clause-told
returns-clause-told c = commits-heard

pub returns-clause-history : goal.returns-clause-history
returns-clause-history c = history-commits
