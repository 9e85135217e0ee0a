use Rattle.std.proofs.Common.{rules}
use Rattle.ym_play.proofs.WordsLemmas.{words_of-split, one_word, more_words}
use Rattle.ym_play.proofs.words.split_word.Goals as goal

pub returns : goal.returns
returns c = search (rules, words_of-split, one_word, more_words)
