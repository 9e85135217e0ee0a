-- A whole round more at each turn.
use Rattle.std.proofs.Common.{◌≡◌, ◌++◌, replicate, vec_len, ◌+◌}
use Rattle.ym_play.specs.Script.{whole_round}
use Rattle.ym_play.proofs.script.push_whole_rounds.Given as goal

abbrev pub invariant-loop : goal.invariant-loop
invariant-loop l = record {
  items : l.rounds.items ≡ l.initial.rounds.items ++ replicate l.counter whole_round;
  len : vec_len l.rounds ≡ vec_len l.initial.rounds + l.counter;
}
