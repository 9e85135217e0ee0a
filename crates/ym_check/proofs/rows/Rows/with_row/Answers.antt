use Rattle.std.proofs.Common.{◌*◌, ◌/◌, ◌%◌, ◌^◌, sym, bit_xor}
use Rattle.std.specs.Int.Bits.{xor_assoc}
use Rattle.ym_check.specs.Fold.{row_number}
use Rattle.ym_check.proofs.FourWords.{moved_on}
use Rattle.ym_check.proofs.rows.Rows.with_row.Goals as goal

pub returns : goal.returns
returns c =
    let rows = c.args.self in
    let n = row_number in
    let still = n rows.gone / 2 ^ 32 in
    rw (c.added.ensures, c.added-2.ensures, c.across.ensures.sum, c.added-3.ensures, sym (xor_assoc (n rows.third) still (n rows.first * 2 ^ 96 % 2 ^ 128)))
    (moved_on (n rows.first) (n rows.second) (bit_xor (n rows.third) still) (n rows.fourth) (n c.args.next) c.across.ensures.fits)
