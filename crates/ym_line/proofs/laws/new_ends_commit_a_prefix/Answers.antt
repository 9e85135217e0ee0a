use Rattle.ym_line.proofs.Promised.{Laws, run-commits, run-reports}
use Rattle.ym_line.proofs.laws.new_ends_commit_a_prefix.Goals as goal

pub returns : goal.returns
returns c =
    let laws : Laws = record {
      go_on = c.rounds_are_turns.ensures.go_on;
      stop = c.rounds_are_turns.ensures.stop;
      stand = c.turns_of_a_standing_pair.ensures.stand;
      first = c.a_standing_pair_commits_the_first_files.ensures.first;
      prefix = c.a_standing_pair_commits_the_first_files.ensures.prefix;
      new_stand = c.new_ends_stand.ensures;
    } in
    record {
      commits = λ rounds old new result gives fresh. run-commits laws rounds old new result gives fresh;
      reports = λ rounds old new trace gives fresh. run-reports laws rounds old new trace gives fresh;
    }
