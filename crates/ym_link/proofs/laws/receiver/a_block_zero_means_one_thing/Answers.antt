use Rattle.std.proofs.Common.{arith}
use Rattle.ym_link.proofs.Names.{length_limit}
use Rattle.ym_link.proofs.OneStep.{some_meaning, one_meaning}
use Rattle.ym_link.proofs.laws.receiver.a_block_zero_means_one_thing.Goals as goal

pub returns-clause-some : goal.returns-clause-some
returns-clause-some c = λ body. some_meaning body (c.one_meaning.ensures.some length_limit body)

pub returns-clause-one : goal.returns-clause-one
returns-clause-one c = one_meaning c.one_meaning.ensures.one_value c.one_meaning.ensures.one_fault c.one_meaning.ensures.not_both

pub returns-clause-header : goal.returns-clause-header
returns-clause-header c = λ h is. c.written_is_read.ensures.reads length_limit h (omega arith) is
