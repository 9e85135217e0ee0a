-- A command that plays does what a session does.
use Rattle.std.proofs.Common.{rules}
use Rattle.ym_words.specs.Job.{Play}
use Rattle.ym_command.proofs.JobLemmas.{plays}
use Rattle.ym_command.proofs.program.command.Goals as goal

pub returns-in-Ok-do_job-clause-does : goal.returns-in-Ok-do_job-clause-does
returns-in-Ok-do_job-clause-does g c = search rules

pub returns-in-Ok-do_job-clause-plays : goal.returns-in-Ok-do_job-clause-plays
returns-in-Ok-do_job-clause-plays g c asks text before wrong r w e ne =
    plays c.a_known_script_is_played.ensures _ text before wrong _ _ (returns-in-Ok-do_job-clause-does g c Play asks) r w e ne
