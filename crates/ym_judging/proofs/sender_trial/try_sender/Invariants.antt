-- The notes are those of three steps a turn at most.
use Rattle.std.proofs.Common.{◌*◌}
use Rattle.ym_judging.specs.JudgedSteps.{IsNoted}
use Rattle.ym_judging.proofs.sender_trial.try_sender.Given as goal

abbrev pub invariant-loop : goal.invariant-loop
invariant-loop g l = IsNoted (l.counter * 3) l.trial.notes
