use Rattle.std.proofs.Common.{◌≡◌, ◌+◌, ◌-◌, ◌*◌, ◌++◌, ◌∙◌, sym, ap, arith, take}
use Rattle.std.proofs.lemmas.List.{take_all, append-nil}
use Rattle.ym_check.specs.Check.{check_of}
use Rattle.ym_check.specs.Fold.{row_bytes, rows_bytes}
use Rattle.ym_check.proofs.Words.{taken_more}
use Rattle.ym_check.proofs.rows.Rows.with_four.Goals as goal

pub loop-i-init : goal.loop-i-init
loop-i-init c = λ before is. ap check_of (append-nil before) ∙ is

pub loop-i-preserved : goal.loop-i-preserved
loop-i-preserved c = λ before is.
    let i = c.loop-i.i in
    let r = c.loop-i.rows in
    taken_more (rows_bytes r.first r.second r.third r.fourth r.gone) (row_bytes c.row_of.result)
    (16 * i) (16 * i + 16 - 16 * i) (16 * (i + 1)) before c.args.bytes.now (omega arith)
    (c.loop-i.invariant before is) c.row_of.ensures ∙
    c.with_row-rows.ensures

pub returns : goal.returns
returns c = λ before is.
    let bytes = c.args.bytes.now in
    let all : take (16 * c.loop-i.i) bytes ≡ bytes = take_all (16 * c.loop-i.i) bytes (omega (arith, c.requires, c.loop-i-test.false)) in
    ap (λ t. check_of (before ++ t)) (sym all) ∙ c.loop-i.invariant before is
