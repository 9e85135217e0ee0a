use Rattle.ym_frame.proofs.Prefixes.{decided}
use Rattle.ym_frame.proofs.laws.open_bytes_begin_a_frame.Goals as goal

pub returns : goal.returns
returns c = decided
