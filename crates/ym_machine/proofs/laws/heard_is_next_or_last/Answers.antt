use Rattle.ym_machine.proofs.Positions.{frames-end}
use Rattle.ym_machine.proofs.Heard.{said-position, said-next-or-last, last-is-no-end}
use Rattle.ym_machine.proofs.laws.heard_is_next_or_last.Goals as goal
use Rattle.ym_machine.proofs.Names.{frames_of}

pub returns-clause-position : goal.returns-clause-position
returns-clause-position g c files confirm st i m says = said-position (frames_of files) confirm st m.counters i says

pub returns-clause-next_or_last : goal.returns-clause-next_or_last
returns-clause-next_or_last g c files confirm st i m says = said-next-or-last (frames_of files) confirm st m.counters i says

pub returns-clause-last : goal.returns-clause-last
returns-clause-last g c files confirm st m running some = last-is-no-end (frames_of files) confirm st m.counters (frames-end files) running some
