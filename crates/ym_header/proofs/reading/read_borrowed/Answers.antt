use Rattle.std.proofs.Common.{subst, sym}
use Rattle.std.specs.Str.Parse.{AllDigits}
use Rattle.ym_header.proofs.ReadingLemmas.{run_of_digits}
use Rattle.ym_header.proofs.reading.read_borrowed.Goals as goal

pub length_of-requires : goal.length_of-requires
length_of-requires c = subst (λ ds. AllDigits 10 ds) (sym c.split_digits.ensures.digits) (run_of_digits c.split_name.result.1.now)
