use Rattle.std.proofs.Common.{◌≡◌, drop}
use Rattle.ym_inspect.specs.CaptureTold.{has_frame}
use Rattle.ym_inspect.proofs.raw.has_frames.Given as goal

abbrev pub invariant-loop-position : goal.invariant-loop-position
invariant-loop-position l = has_frame (drop l.position l.bytes) ≡ has_frame l.bytes
