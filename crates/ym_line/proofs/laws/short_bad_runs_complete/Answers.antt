use Rattle.ym_line.proofs.Completing.{Completion, run-going, run-complete, run-sooner}
use Rattle.ym_line.proofs.Promised.{Laws}
use Rattle.ym_line.proofs.laws.short_bad_runs_complete.Goals as goal

pub returns : goal.returns
returns c =
    let laws : Laws = record {
      go_on = c.rounds_are_turns.ensures.go_on;
      stop = c.rounds_are_turns.ensures.stop;
      stand = c.turns_of_a_standing_pair.ensures.stand;
      first = c.a_standing_pair_commits_the_first_files.ensures.first;
      prefix = c.a_standing_pair_commits_the_first_files.ensures.prefix;
      new_stand = c.new_ends_stand.ensures;
    } in
    let completion : Completion = record {
      damage = c.turns_of_a_standing_pair.ensures.damage;
      count = c.one_pieces.ensures.count;
      going = c.neither_end_gives_up.ensures.going;
      counts = c.neither_end_gives_up.ensures.counts;
      complete = c.both_finish.ensures.complete;
      running = c.not_sooner.ensures.running;
    } in
    record {
      going = run-going laws completion;
      complete = run-complete laws completion;
      sooner = run-sooner laws completion;
    }
