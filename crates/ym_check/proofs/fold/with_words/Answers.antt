use Rattle.std.proofs.Common.{◌≡◌, ◌+◌, ◌-◌, ◌*◌, ◌++◌, ◌∙◌, sym, ap, arith, take}
use Rattle.std.proofs.lemmas.List.{take_all}
use Rattle.ym_check.specs.Check.{check_of}
use Rattle.ym_check.specs.Fold.{sixteen}
use Rattle.ym_check.proofs.Words.{first_word, taken_more}
use Rattle.ym_check.proofs.fold.with_words.Goals as goal

pub loop-i-init : goal.loop-i-init
loop-i-init c = λ before is.
    first_word c.args.check c.word_of.result c.from.result before (take 16 c.args.bytes.now) is c.word_of.ensures (c.from.ensures ∙ c.swap_bytes.ensures)

pub loop-i-preserved : goal.loop-i-preserved
loop-i-preserved c = λ before is.
    let i = c.loop-i.i in
    let next = c.word_of-in-loop-i.result in
    taken_more (sixteen c.loop-i.word) (sixteen next) (16 * i) (16 * i + 16 - 16 * i) (16 * (i + 1)) before c.args.bytes.now (omega arith)
    (c.loop-i.invariant before is) c.word_of-in-loop-i.ensures ∙
    c.next_word-word.ensures

pub returns : goal.returns
returns c = λ before is.
    let bytes = c.args.bytes.now in
    let all : take (16 * c.loop-i.i) bytes ≡ bytes = take_all (16 * c.loop-i.i) bytes (omega (arith, c.requires, c.loop-i-test.false)) in
    c.check_of_word.ensures ∙
    sym (c.loop-i.invariant before is) ∙
    ap (λ t. check_of (before ++ t)) all
