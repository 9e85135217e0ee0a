-- The first read takes the quiet line that was ahead.
use Rattle.std.proofs.Common.{refl}
use Rattle.ym_eager.proofs.eager.EagerPort.read.Goals as goal

pub returns-then-self-clause-told : goal.returns-then-self-clause-told
returns-then-self-clause-told g c = λ u h. rw c.if-self.true (_, (h.0, h.1, refl), refl, h.2)
