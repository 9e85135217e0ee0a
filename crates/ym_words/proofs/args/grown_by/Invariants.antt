-- The words so far leave the command to the rest.
use Rattle.std.proofs.Common.{drop}
use Rattle.clap.specs.Words.{App}
use Rattle.ym_words.specs.CommandLine.{HasApp}
use Rattle.ym_words.proofs.CommandLemmas.{Grown}
use Rattle.ym_words.proofs.args.grown_by.Given as goal

abbrev pub invariant-loop-word : goal.invariant-loop-word
invariant-loop-word l = (app : App) → HasApp l.fn.command app
    → Grown l.grown (drop l.word-index l.words) l.words app
