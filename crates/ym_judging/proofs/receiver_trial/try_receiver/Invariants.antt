-- The notes are those of a step a turn.
use Rattle.ym_judging.specs.JudgedSteps.{IsNoted}
use Rattle.ym_judging.proofs.receiver_trial.try_receiver.Given as goal

abbrev pub invariant-loop : goal.invariant-loop
invariant-loop g l = IsNoted l.counter l.trial.notes
