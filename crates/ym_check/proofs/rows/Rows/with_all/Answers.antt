use Rattle.std.proofs.Common.{◌≡◌, ◌+◌, ◌-◌, ◌*◌, ◌++◌, ◌∙◌, sym, ap, arith, append_assoc, take, drop}
use Rattle.std.proofs.Math.Seq.{take-add}
use Rattle.std.proofs.lemmas.List.{take_all, append-nil}
use Rattle.ym_check.specs.Check.{check_of}
use Rattle.ym_check.proofs.rows.Rows.with_all.Goals as goal

pub loop-i-init : goal.loop-i-init
loop-i-init c = λ before is. ap check_of (append-nil before) ∙ is

pub loop-i-preserved : goal.loop-i-preserved
loop-i-preserved c = λ before is.
    let bytes = c.args.bytes.now in
    let i = c.loop-i.i in
    let next = take (64 * i + 64 - 64 * i) (drop (64 * i) bytes) in
    let count : 64 * (i + 1) ≡ 64 * i + (64 * i + 64 - 64 * i) = omega arith in
    ap (λ n. check_of (before ++ take n bytes)) count ∙
    ap (λ t. check_of (before ++ t)) (take-add (64 * i) (64 * i + 64 - 64 * i) bytes) ∙
    ap check_of (sym (append_assoc before (take (64 * i) bytes) next)) ∙
    c.with_four-rows.ensures (before ++ take (64 * i) bytes) (c.loop-i.invariant before is)

pub returns : goal.returns
returns c = λ before is.
    let bytes = c.args.bytes.now in
    let all : take (64 * c.loop-i.i) bytes ≡ bytes = take_all (64 * c.loop-i.i) bytes (omega (arith, c.requires, c.loop-i-test.false)) in
    ap (λ t. check_of (before ++ t)) (sym all) ∙ c.loop-i.invariant before is
