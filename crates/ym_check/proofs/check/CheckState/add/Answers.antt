use Rattle.std.proofs.Common.{◌<◌, ◌/◌, ◌^◌, ◌∙◌, ap, arith, bit_xor}
use Rattle.std.proofs.lemmas.Nat.{xor_lt}
use Rattle.ym_check.specs.Check.{bits, remainder}
use Rattle.ym_check.proofs.CheckNumbers.{check_of-push}
use Rattle.ym_check.proofs.Words.{one_byte}
use Rattle.ym_check.proofs.check.CheckState.add.Goals as goal

pub returns : goal.returns
returns c bytes is =
    let value = c.self.inside.value in
    let less : bit_xor (value / 2 ^ 8) c.args.byte < 2 ^ 8 = xor_lt 8 (value / 2 ^ 8) c.args.byte (omega arith) (omega arith) in
    check_of-push value c.args.byte c.check_of_16.result bytes (c.self.view_is ∙ is)
    (one_byte (bit_xor (value / 2 ^ 8) c.args.byte) c.check_of_16.result less c.check_of_16.type_inv (c.check_of_16.ensures ∙ ap (λ b. remainder (bits 16 b)) c.from.ensures))
