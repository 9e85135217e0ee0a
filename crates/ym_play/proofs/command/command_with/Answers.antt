use Rattle.std.proofs.Common.{rules, sym}
use Rattle.ym_play.specs.Words.{words_of}
use Rattle.ym_play.proofs.WordsLemmas.{some_words}
use Rattle.ym_play.proofs.CommandLemmas.{no_command}
use Rattle.ym_play.proofs.command.command_with.Goals as goal

pub returns : goal.returns
returns c = sym (no_command c.args.word.now (words_of c.args.rest.now) (some_words c.args.rest.now) (search rules) (search rules) (search rules))
