-- The parts so far leave the command to the rest.
use Rattle.std.proofs.Common.{drop}
use Rattle.clap.specs.Words.{App}
use Rattle.ym_words.specs.CommandLine.{HasApp}
use Rattle.ym_words.proofs.CommandLemmas.{Parted}
use Rattle.ym_words.proofs.command.parted.Given as goal

abbrev pub invariant-loop-part : goal.invariant-loop-part
invariant-loop-part l = (app : App) → HasApp l.fn.command app
    → Parted l.grown (drop l.part-index l.parts) l.parts app
