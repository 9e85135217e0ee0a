use Rattle.std.proofs.Common.{ap, false, inl}
use Rattle.ym_pair.proofs.Names.{Standing, spoken, written_for}
use Rattle.ym_pair.proofs.Engines.{Laws, engines-commit, files-within}
use Rattle.ym_pair.proofs.Paired.{Leaves, speaks, leaves, answers, speaks-along, answers-along, written-sent}
use Rattle.ym_pair.proofs.SenderLaws.{SenderLaws}
use Rattle.ym_pair.proofs.laws.pairs.two_engines_commit_a_prefix.Goals as goal

pub returns : goal.returns
returns c =
    let machine = c.committed_is_reported_or_one_more.ensures in
    let laws : Laws = record {
      computed = c.one_verdict.ensures.computed;
      silence = c.nothing_comes_back_of_silence.ensures;
      go = c.rounds_are_turns.ensures.go;
      there = c.rounds_are_turns.ensures.there;
      alone = c.a_sender_alone_goes_on.ensures.stands;
      new_stand = c.new_ends_stand.ensures;
      done = c.a_sender_follows_the_machine.ensures.done;
      counted = machine.counted;
      committed_first = machine.committed_first;
      reported_within = machine.reported_within;
      prefix = c.a_standing_pair_commits_the_first_files.ensures.prefix;
    } in
    let kept : SenderLaws = record { goes = c.a_delivery_goes_one_position.ensures.goes; finishes = c.a_delivery_goes_one_position.ensures.finishes; counts = c.a_step_keeps_the_batch.ensures.counts; files = c.a_step_keeps_the_batch.ensures.files } in
    record {
      told = λ s t out sends r u end receives rounds fresh pairs.
          let said = speaks s t out sends in
          let left = leaves kept s t out sends (λ over. absurd (over (ap (λ (x : Standing). x.state) fresh.sender))) in
          engines-commit laws s out.sender r end.receiver _ _ _ rounds fresh (files-within s out.sender _ _ said left) said left (answers r u end receives) pairs;
      history = λ s new r end calls rounds fresh is pairs.
          let said = speaks-along s calls.deliveries calls.progress new calls.speaks in
          let left : Leaves new (written_for (spoken new)) = record { is = is; words = inl (written-sent (spoken new)) } in
          engines-commit laws s new r end _ _ _ rounds fresh (files-within s new _ _ said left) said left (answers-along false r calls.heard calls.steps end calls.hears) pairs;
    }
