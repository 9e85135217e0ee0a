-- What is left of the bytes makes of it what all of them do.
use Rattle.std.proofs.Common.{◌≡◌, drop}
use Rattle.ym_heard.specs.Cancel.{after_all}
use Rattle.ym_heard.specs.declared.cancel.Cans.TheVariants.{Zero}
use Rattle.ym_heard.proofs.cancel.cancels.Given as goal

abbrev pub invariant-loop-byte : goal.invariant-loop-byte
invariant-loop-byte l = after_all l.bytes Zero ≡ after_all (drop l.byte-index l.bytes) l.cans
