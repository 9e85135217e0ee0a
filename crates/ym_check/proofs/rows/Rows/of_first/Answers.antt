use Rattle.std.proofs.Common.{◌≡◌, ◌+◌, ◌∙◌, ◌++◌, sym, ap, arith, take}
use Rattle.std.specs.Int.Bits.{xor_zero_r}
use Rattle.ym_check.specs.Check.{check_of}
use Rattle.ym_check.specs.Fold.{sixteen, row_number, row_bytes}
use Rattle.ym_check.proofs.Words.{first_word}
use Rattle.ym_check.proofs.FourWords.{four_slices, entered_front}
use Rattle.ym_check.proofs.rows.Rows.of_first.Goals as goal

pub returns : goal.returns
returns c = λ before is.
    let bytes = c.args.bytes.now in
    let a = take 16 bytes in
    let b = row_bytes c.row_of-2.result in
    let d = row_bytes c.row_of-3.result in
    let e = row_bytes c.row_of-4.result in
    let first = row_bytes c.added.result in
    let all : a ++ b ++ d ++ e ≡ bytes = rw (c.row_of-2.ensures, c.row_of-3.ensures, c.row_of-4.ensures) (four_slices bytes c.requires) in
    let entered : check_of (before ++ a) ≡ check_of first =
    first_word c.args.check (row_number c.row_of.result) (c.from.result + 0) before a is c.row_of.ensures (omega (arith, c.from.ensures, c.swap_bytes.ensures)) ∙
    ap (λ n. check_of (sixteen n)) (sym c.added.ensures) in
    ap (λ t. check_of (before ++ t)) (sym all) ∙
    entered_front before a b d e first entered ∙
    ap (λ n. check_of (first ++ b ++ sixteen n ++ e)) (sym (xor_zero_r (row_number c.row_of-3.result)))
