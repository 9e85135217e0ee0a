use Rattle.ym_inspect.proofs.ReadBackLemmas.{head_read}
use Rattle.ym_inspect.proofs.laws.a_line_says_when.Goals as goal

pub returns : goal.returns
returns c p number buffered read h = head_read p.at p.way number buffered read h.0
