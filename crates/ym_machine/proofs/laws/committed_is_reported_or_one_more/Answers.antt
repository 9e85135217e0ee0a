use Rattle.ym_machine.proofs.Positions.{one-more, first-files, reported-within, counted}
use Rattle.ym_machine.proofs.laws.committed_is_reported_or_one_more.Goals as goal

pub returns-clause-frames : goal.returns-clause-frames
returns-clause-frames g c files confirm st m = m.counters.ahead

pub returns-clause-count : goal.returns-clause-count
returns-clause-count g c files confirm st m = one-more files confirm st m

pub returns-clause-committed_first : goal.returns-clause-committed_first
returns-clause-committed_first g c files st = first-files files st.taken

pub returns-clause-reported_first : goal.returns-clause-reported_first
returns-clause-reported_first g c files st = first-files files st.acknowledged

pub returns-clause-reported_within : goal.returns-clause-reported_within
returns-clause-reported_within g c files confirm st m = reported-within files confirm st m

pub returns-clause-counted : goal.returns-clause-counted
returns-clause-counted g c files n = counted files n
