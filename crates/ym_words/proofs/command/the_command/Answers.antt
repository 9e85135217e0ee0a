use Rattle.ym_words.specs.CommandLine.{the_app}
use Rattle.ym_words.proofs.command.the_command.Goals as goal

pub returns : goal.returns
unfolding the_app
returns c = c.parted.ensures _ c.bare_command.ensures
