use Rattle.std.proofs.Common.{arith}
use Rattle.ym_delay.proofs.laws.the_oldest_that_is_prompt.Goals as goal

pub returns-clause-within : goal.returns-clause-within
returns-clause-within c oldest young = record { sender = omega (arith, young); receiver = omega (arith, young) }

pub returns-clause-beyond : goal.returns-clause-beyond
returns-clause-beyond c oldest old prompt = let limit = prompt.receiver in absurd (omega (arith, old, limit))

pub returns-clause-purge : goal.returns-clause-purge
returns-clause-purge c oldest young = record { sender = omega (arith, young); receiver = omega (arith, young) }

pub returns-clause-purge_beyond : goal.returns-clause-purge_beyond
returns-clause-purge_beyond c oldest old prompt = let limit = prompt.receiver in absurd (omega (arith, old, limit))
