use Rattle.std.proofs.Common.{◌≡◌, ◌++◌, length}
use Rattle.ym_judge.specs.AnswerBytes.{answers_in}
use Rattle.ym_judge.proofs.said.answer_bytes.Given as goal

abbrev pub invariant-loop-byte : goal.invariant-loop-byte
invariant-loop-byte l = l.said.items ++ answers_in l.before l.rest ≡ answers_in 0 l.bytes

abbrev pub decreases-loop-byte : goal.decreases-loop-byte
decreases-loop-byte l = length l.rest
