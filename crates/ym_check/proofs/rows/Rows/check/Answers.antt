use Rattle.std.proofs.Common.{◌∙◌, ◌++◌, ◌/◌, ◌^◌, [], refl, ap, bit_xor}
use Rattle.std.specs.Int.Bits.{xor_zero_r}
use Rattle.ym_check.specs.Check.{check_of}
use Rattle.ym_check.specs.Fold.{sixteen, row_number, row_bytes}
use Rattle.ym_check.proofs.rows.Rows.check.Goals as goal

pub returns : goal.returns
unfolding sixteen check_of
returns c =
    let rows = c.args.self in
    c.with_words.ensures [] refl ∙
    ap (λ n. check_of (row_bytes rows.first ++ row_bytes rows.second ++ sixteen n ++ row_bytes rows.fourth)) (c.added-third.ensures ∙ ap (bit_xor (row_number rows.third)) (c.across.ensures.sum ∙ xor_zero_r (row_number rows.gone / 2 ^ 32)))
