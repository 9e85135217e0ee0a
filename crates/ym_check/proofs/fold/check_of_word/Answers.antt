use Rattle.ym_check.proofs.Words.{turned}
use Rattle.ym_check.proofs.fold.check_of_word.Goals as goal

pub returns : goal.returns
returns c =
    turned c.args.word c.swap_bytes.result c.check_of_128.result c.swap_bytes.ensures c.check_of_128.type_inv c.check_of_128.ensures
