use Rattle.ym_frame.proofs.Prefixes.{body-there}
use Rattle.ym_frame.proofs.laws.a_body_stands_behind_three_bytes.Goals as goal

pub returns : goal.returns
returns c = body-there
