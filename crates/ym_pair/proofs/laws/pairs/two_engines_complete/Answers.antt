use Rattle.std.proofs.Common.{ap, inl, true}
use Rattle.ym_pair.proofs.Names.{Standing, spoken, written_for}
use Rattle.ym_pair.proofs.Engines.{files-within}
use Rattle.ym_pair.proofs.Finishing.{FinishLaws, engines-finish}
use Rattle.ym_pair.proofs.Prefixes.{TurnLaws}
use Rattle.ym_pair.proofs.Paired.{Leaves, speaks, leaves, sent-over, answers-all, speaks-along, answers-along, written-sent}
use Rattle.ym_pair.proofs.SenderLaws.{SenderLaws}
use Rattle.ym_pair.proofs.laws.pairs.two_engines_complete.Goals as goal

pub returns : goal.returns
returns c =
    let counts = c.failure_counts_tell.ensures in
    let laws : TurnLaws = record {
      computed = c.one_verdict.ensures.computed;
      go = c.rounds_are_turns.ensures.go;
      damage = c.turns_of_a_standing_pair.ensures.damage;
      goes_on = c.short_bursts_are_survived.ensures.goes_on;
      whole = c.turns_of_a_standing_pair.ensures.whole;
      first = c.a_standing_pair_commits_the_first_files.ensures.first;
      prefix = c.a_standing_pair_commits_the_first_files.ensures.prefix;
      new_stand = c.new_ends_stand.ensures;
      alone = c.a_sender_alone_goes_on.ensures.stands;
      alone_fine = c.a_sender_alone_goes_on.ensures.fine;
      filled = counts.filled;
      long = counts.long;
      grow = counts.grow;
      source = counts.source;
      sink = counts.sink;
    } in
    let all_laws : FinishLaws = record {
      turns = laws;
      starts = c.short_bursts_are_survived.ensures.starts;
      finishes = c.short_bursts_are_survived.ensures.finishes;
      all = c.files_within_a_batch.ensures.all;
    } in
    let kept : SenderLaws = record { goes = c.a_delivery_goes_one_position.ensures.goes; finishes = c.a_delivery_goes_one_position.ensures.finishes; counts = c.a_step_keeps_the_batch.ensures.counts; files = c.a_step_keeps_the_batch.ensures.files } in
    record {
      told = λ s t out sends r u end receives rounds fresh pairs sent received none short.
          let said = speaks s t out sends in
          let left = leaves kept s t out sends (λ over. absurd (over (ap (λ (x : Standing). x.state) fresh.sender))) in
          let answered = answers-all r u end receives received in
          engines-finish all_laws s out.sender r end.receiver _ _ _ rounds fresh (files-within s out.sender _ _ said left) said answered.0 (sent-over s t out sends sent) answered.1 pairs none short;
      history = λ s new r end calls rounds fresh is pairs over ended none short.
          let said = speaks-along s calls.deliveries calls.progress new calls.speaks in
          let left : Leaves new (written_for (spoken new)) = record { is = is; words = inl (written-sent (spoken new)) } in
          engines-finish all_laws s new r end _ _ _ rounds fresh (files-within s new _ _ said left) said (answers-along true r calls.heard calls.steps end calls.hears) over ended pairs none short;
    }
