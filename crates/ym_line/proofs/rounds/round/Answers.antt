-- The law of a round, and that of a fault, for what the round answers.
use Rattle.std.specs.Prelude.{[], ◌∷◌}
use Rattle.ym_line.proofs.Names.{Pair, StopsWithMachine}
use Rattle.ym_line.specs.Turns.{TakesATurn}
use Rattle.ym_line.proofs.Runs.{round-gives, round-stops-in}
use Rattle.ym_line.proofs.rounds.round.Goals as goal

pub returns : goal.returns
returns g c =
    let old : Pair = record { sender = c.args.sender.now; receiver = c.args.receiver.now; told = g.C.Carrier.told c.args.carrier.now; failures = g.C.Carrier.failures c.args.carrier.now } in
    let new : Pair = record { sender = c.go_round.new.sender; receiver = c.go_round.new.receiver; told = g.C.Carrier.told c.go_round.new.carrier; failures = g.C.Carrier.failures c.go_round.new.carrier } in
    record {
      gives = c.go_round.ensures;
      machine = round-gives c.args.round.now old new c.go_round.result (λ seen. TakesATurn c.args.round.now old seen new) c.go_round.ensures (c.rounds_are_turns.ensures.go c.args.round.now old new);
      stopped = round-stops-in c.args.round.now old new c.go_round.result (λ fault. StopsWithMachine 1 (c.args.round.now ∷ []) old fault new) c.go_round.ensures
          (c.rounds_are_turns.ensures.stop 1 (c.args.round.now ∷ []) old new);
    }
