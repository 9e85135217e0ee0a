use Rattle.ym_line.proofs.Names.{frames_of}
use Rattle.ym_line.proofs.HalfSteps.{Laws, receiver-step, goes-turn, run-turns}
use Rattle.ym_line.proofs.Stops.{run-stops}
use Rattle.ym_line.proofs.laws.rounds_are_turns.Goals as goal

pub returns : goal.returns
returns c =
    let laws : Laws = record {
      found = c.frame_found.ensures;
      within = c.what_comes_back.ensures.subsequence;
      whole = c.what_comes_back.ensures.whole;
      remnants = c.what_comes_back.ensures.remnants;
      says = c.a_sender_follows_the_machine.ensures.says;
      sender_follows = c.a_sender_follows_the_machine.ensures.follows;
      receiver_follows = c.a_standing_receiver_follows_the_machine.ensures.follows;
      machine_there = c.halves_keep_machine_states.ensures.half_there;
      machine_back = c.halves_keep_machine_states.ensures.half_back;
      keeps_sender = λ files confirm sink_failed whole old. c.halves_keep_the_other_end.ensures.there_keeps (frames_of files) confirm sink_failed whole old;
      done = c.a_sender_follows_the_machine.ensures.done;
      counted = c.committed_is_reported_or_one_more.ensures.counted;
      keeps_receiver = λ files source_failed came old. c.halves_keep_the_other_end.ensures.back_keeps (frames_of files) source_failed came old;
    } in
    record {
      go = λ round old new seen goes confirm files st refines. goes-turn laws confirm files st round old new seen refines goes;
      go_on = λ rounds old new trace gives confirm files st refines. run-turns laws confirm files st rounds old new trace refines gives;
      stop = λ n rounds old new fault stops confirm files st refines. run-stops laws confirm files rounds n st old new fault refines stops;
      there = λ delivery old new reply goes confirm files st refines. receiver-step laws confirm files st delivery old reply new refines goes;
    }
