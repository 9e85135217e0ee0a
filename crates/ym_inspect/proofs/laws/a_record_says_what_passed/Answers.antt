use Rattle.ym_inspect.proofs.ReadBackLemmas.{record_read}
use Rattle.ym_inspect.proofs.laws.a_record_says_what_passed.Goals as goal

pub returns : goal.returns
returns c pieces h = record_read pieces h
