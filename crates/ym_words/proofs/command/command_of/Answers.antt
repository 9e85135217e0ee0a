use Rattle.ym_words.proofs.CommandLemmas.{of_same_app}
use Rattle.ym_words.proofs.command.command_of.Goals as goal

pub returns : goal.returns
returns c =
    of_same_app c.grown_by.result _ _ c.words.ensures (c.grown_by.ensures _ c.new_command.ensures)
