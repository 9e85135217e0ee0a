use Rattle.std.proofs.Common.{◌∙◌, sym}
use Rattle.ym_line.proofs.Prefixes.{PlanLaws, commits-prefix}
use Rattle.ym_line.proofs.laws.a_standing_pair_commits_the_first_files.Goals as goal

pub returns : goal.returns
returns c =
    let machine = c.committed_is_reported_or_one_more.ensures in
    let plan : PlanLaws = record { bytes = c.a_planned_file_is_sent.ensures.bytes; pieces = c.one_pieces.ensures.computed } in
    record {
      first = λ confirm files st pair refines. record {
        headers = refines.receiver.keeps.headers;
        bytes = refines.receiver.keeps.bytes;
        first = machine.committed_first files st;
        files_is = refines.receiver.files_is ∙ sym (machine.counted files st.taken);
        done_is = c.a_sender_follows_the_machine.ensures.done files st pair.sender refines.sender ∙ sym (machine.counted files st.acknowledged);
        among = machine.reported_within files confirm st refines.machine;
        send_is = refines.sender.standing.state;
        recv_is = refines.receiver.state_is;
      };
      prefix = λ shape sources st pair files tells commits. commits-prefix plan shape sources st pair files tells commits;
    }
