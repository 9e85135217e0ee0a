use Rattle.ym_machine.proofs.Heard.{after_turns-append, entries_of-append, IsDamage-append}
use Rattle.ym_machine.proofs.laws.a_run_goes_on.Goals as goal

pub returns-clause-states : goal.returns-clause-states
returns-clause-states g c frames confirm prefix rest st = after_turns-append frames confirm prefix rest st

pub returns-clause-trace : goal.returns-clause-trace
returns-clause-trace g c frames confirm prefix rest st = entries_of-append frames confirm prefix rest st

pub returns-clause-damage : goal.returns-clause-damage
returns-clause-damage g c frames confirm prefix rest st a b = IsDamage-append frames confirm prefix rest st a b
