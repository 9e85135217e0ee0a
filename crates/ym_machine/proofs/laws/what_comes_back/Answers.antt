use Rattle.ym_machine.proofs.Rounds.{all-of-it}
use Rattle.ym_machine.proofs.Remnants.{remnants, bytes-of, subsequence}
use Rattle.ym_machine.proofs.laws.what_comes_back.Goals as goal

pub returns-clause-remnants : goal.returns-clause-remnants
returns-clause-remnants c reply came within = remnants reply came within

pub returns-clause-whole : goal.returns-clause-whole
returns-clause-whole c reply = all-of-it reply

pub returns-clause-bytes : goal.returns-clause-bytes
returns-clause-bytes c reply = bytes-of reply

pub returns-clause-subsequence : goal.returns-clause-subsequence
returns-clause-subsequence c reply came within = subsequence reply came within
