use Rattle.std.proofs.Common.{◌∙◌}
use Rattle.ym_frame.specs.declared.control.Reply.TheVariants.{Silence}
use Rattle.ym_line.proofs.Names.{came_back, came_of}
use Rattle.ym_line.proofs.Turns.{none-within, came-within, controls-arrive}
use Rattle.ym_line.proofs.laws.nothing_comes_back_of_silence.Goals as goal

pub returns : goal.returns
returns c delivery shows =
    let machine = c.what_comes_back.ensures in
    controls-arrive delivery Silence ∙ none-within (came_back (came_of delivery) Silence) (came-within machine.subsequence machine.whole delivery Silence shows)
