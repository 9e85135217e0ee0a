-- The laws of runs, for what the run answers.
use Rattle.ym_line.proofs.Names.{AreGoing, HaveFinished, ReportsCommitted, Pair, FollowsMachine, StopsWithMachine, Trace}
use Rattle.ym_core.specs.declared.state.SendState.TheVariants as send_state
use Rattle.std.specs.Prelude.{◌≢◌}
use Rattle.ym_line.proofs.Runs.{fault-gives, trace-gives}
use Rattle.ym_line.proofs.rounds.run.Goals as goal

pub returns : goal.returns
returns g c =
    let old : Pair = record { sender = c.args.sender.now; receiver = c.args.receiver.now; told = g.C.Carrier.told c.args.carrier.now; failures = g.C.Carrier.failures c.args.carrier.now } in
    let new : Pair = record { sender = c.run_by_tables.new.sender; receiver = c.run_by_tables.new.receiver; told = g.C.Carrier.told c.run_by_tables.new.carrier; failures = g.C.Carrier.failures c.run_by_tables.new.carrier } in
    let gives = c.run_by_tables.ensures in
    let rounds = c.args.rounds.now in
    let result = c.run_by_tables.result in
    let bursts = c.short_bad_runs_complete.ensures in
    record {
      machine = trace-gives rounds old new result (λ trace. FollowsMachine rounds old trace new) gives (c.rounds_are_turns.ensures.go_on rounds old new);
      stopped = fault-gives rounds old new result (λ fault. StopsWithMachine 1 rounds old fault new) gives (c.rounds_are_turns.ensures.stop 1 rounds old new);
      commits = c.new_ends_commit_a_prefix.ensures.commits rounds old new result gives;
      reports = λ fresh. trace-gives rounds old new result (λ trace. ReportsCommitted trace new) gives (λ trace is. c.new_ends_commit_a_prefix.ensures.reports rounds old new trace is fresh);
      neither_gives_up = λ brings. trace-gives rounds old new result (λ trace. AreGoing trace new) gives (λ trace is. bursts.going rounds old new trace is brings);
      both_finish = λ brings enough. trace-gives rounds old new result (λ trace. HaveFinished old.sender.files trace new) gives (λ trace is. bursts.complete rounds old new trace is brings enough);
      not_sooner = λ fresh none whole fewer. trace-gives rounds old new result (λ (trace : Trace). trace.send ≢ send_state.Finished) gives (λ trace is. bursts.sooner rounds old new trace is fresh none whole fewer);
    }
