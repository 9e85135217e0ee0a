use Rattle.ym_header.proofs.TextLemmas.{text_size}
use Rattle.ym_header.proofs.laws.written_is_body.Goals as goal

pub returns : goal.returns
returns c = text_size
