-- A round of a pair that refines a state of the machine is a turn of the machine.
use Rattle.std.proofs.Common.{◌≡◌, ◌∙◌, ℕ, Bool, true, false, List, [], ◌∷◌, length, Option, Some, Ok, IsSome, refl, sym, ap, subst, inl, inr, arith}
use Rattle.std.proofs.lemmas.List.Elements.{All-set}
use Rattle.ym_line.proofs.Names.{reply_bytes, Control, Reply, Confirm, File, frames_of, State, Turn, IsDamage, came_back, after_turn, after_turns, HeaderParts, done_at, controls_in, IsBatch, Batch, IsSaid, AllTold, SenderParts, IsSender, spoken, FileParts, file_at, no_file, Kept, Position, Delivery, Round, Seen, Trace, ShowsBack, arrives, Pair, Goes, GoOn, IsTrace, AreTurns, IsSourceTruth, PairRefines, Reports, RunsAsMachine, came_of, is_whole, turn_of}
use Rattle.ym_machine.specs.Frames.{count_within, files_within}
use Rattle.ym_machine.specs.Steps as machine
use Rattle.ym_machine.specs.Machine.{Invariant, said, receiver_step, sender_step, KeepsSender, KeepsReceiver}
use Rattle.ym_link.specs.ReceiverInto.{ReceiverParts, HearsGives}
use Rattle.ym_core.specs.Receiver.{Receiver}
use Rattle.ym_link.specs.ReceiverRefines.{ReceiverRefines, heard_there}
use Rattle.ym_link.specs.ReceiverRefines as receiver
use Rattle.ym_link.specs.SenderRefines.{SenderRefines}
use Rattle.ym_link.specs.Sender.{IsStep, IsFilled, counts}
use Rattle.ym_file.specs.SourceFile.{filled}
use Rattle.ym_core.specs.Standing.{hears}
use Rattle.ym_core.specs.declared.position.Position.TheVariants.{Block}
use Rattle.ym_line.specs.declared.delivery.Way.TheVariants.{Back}
use Rattle.ym_line.specs.Rounds.{GoesBack, GoesThere, handed}
use Rattle.ym_line.specs.Turns.{IsReceiverStep, IsTurn, handed_both}
use Rattle.ym_line.proofs.Turns.{FrameFound, WithinReply, said-heard, came-within, controls-arrive}

-- ---- What the laws below say

pub record Laws : Type 0 where
  pub found : FrameFound
  pub within : WithinReply
  pub whole : (r : Reply) → machine.is_within (machine.controls r) (machine.controls r) ≡ true
  pub remnants : (r : Reply) (came : List Control) → machine.is_within came (machine.controls r) ≡ true → machine.IsRemnant came
  pub says : (files : Batch) (st : State) (sender : SenderParts) → SenderRefines files st sender → IsSender sender → AllTold sender.files → IsSaid files (said st) (spoken sender)
  pub sender_follows : (files : Batch) (st : State) (old new : SenderParts) (bytes : List ℕ) (failed : Bool) →
      SenderRefines files st old → machine.IsRemnant (controls_in bytes) → IsStep old (hears (counts old) old.standing (controls_in bytes)) failed new →
      SenderRefines files (sender_step (frames_of files) failed (controls_in bytes) st) new
  pub receiver_follows : (confirm : Confirm) (files : List (File HeaderParts)) (whole : Bool) (st : State) (old : ReceiverParts) (reply : Reply) (new : ReceiverParts) →
      IsBatch files → Invariant confirm (frames_of files) st → ReceiverRefines confirm files st old.receiver old.kept →
      HearsGives old (heard_there files whole st) (Ok reply) new → receiver.Follows confirm files whole st old reply new
  pub machine_there : (files : List (File HeaderParts)) (confirm : Confirm) (sink_failed whole : Bool) (old : State) →
      Invariant confirm (frames_of files) old → Invariant confirm (frames_of files) (receiver_step (frames_of files) confirm sink_failed whole old).0
  pub machine_back : (files : List (File HeaderParts)) (confirm : Confirm) (sink_failed whole source_failed : Bool) (came : List Control) (old : State) →
      Invariant confirm (frames_of files) old → machine.is_within came (machine.controls (receiver_step (frames_of files) confirm sink_failed whole old).1) ≡ true →
      Invariant confirm (frames_of files) (sender_step (frames_of files) source_failed came (receiver_step (frames_of files) confirm sink_failed whole old).0)
  pub keeps_sender : (files : List (File HeaderParts)) (confirm : Confirm) (sink_failed whole : Bool) (old : State) →
      KeepsSender old (receiver_step (frames_of files) confirm sink_failed whole old).0
  pub done : (files : Batch) (st : State) (sender : SenderParts) → SenderRefines files st sender → done_at (length sender.files) sender.standing.position ≡ count_within files st.acknowledged
  pub counted : (files : Batch) (n : ℕ) → length (files_within files n) ≡ count_within files n
  pub keeps_receiver : (files : List (File HeaderParts)) (source_failed : Bool) (came : List Control) (old : State) →
      KeepsReceiver old (sender_step (frames_of files) source_failed came old)

-- ---- An end that the step leaves alone

pub sender-still : (files : Batch) (old new : State) (sender : SenderParts) → KeepsSender old new → SenderRefines files old sender → SenderRefines files new sender
sender-still files old new sender same refines = grind (arith, same, refines)

receiver-still : (confirm : Confirm) (files : Batch) (old new : State) (r : Receiver) (kept : Kept) → KeepsReceiver old new → ReceiverRefines confirm files old r kept → ReceiverRefines confirm files new r kept
receiver-still confirm files old new r kept same refines = grind (arith, same, refines)

-- ---- The sources

pub source-truth : (failed : Bool) (fills : Option Position) (old new : List FileParts) → IsFilled failed fills old new → IsSourceTruth failed old new
source-truth false (Some (Block file k)) old new filled = inr (file, filled)
source-truth true (Some (Block file k)) old new filled = (file, filled)
source-truth false _ old new filled = inl filled
source-truth true _ old new filled = absurd filled

-- the files go on to tell their bytes
pub still-told : (failed : Bool) (old new : List FileParts) → IsSourceTruth failed old new → AllTold old → AllTold new
still-told false old new (inl same) told = rw same told
still-told false old new (inr truth) told = rw truth.1.after (All-set (λ (f : FileParts). IsSome f.bytes) old truth.0 (filled (file_at old truth.0)) (told truth.0 no_file truth.1.within) told)
still-told true old new truth told =
    rw truth.1.after (All-set (λ (f : FileParts). IsSome f.bytes) old truth.0 (record (filled (file_at old truth.0)) { failures = truth.1.failures }) (told truth.0 no_file truth.1.within) told)

-- ---- The receiver step

-- It leads from the state that a pair refined to where the machine's step leads, and its reply is the machine's.
pub receiver-step : Laws → (confirm : Confirm) (files : Batch) (st : State) (delivery : Delivery) (old : Pair) (reply : Reply) (new : Pair) →
    PairRefines confirm files st old → GoesThere delivery old reply new → IsReceiverStep confirm files st delivery old reply new
receiver-step laws confirm files st delivery old reply new refines goes =
    let whole = is_whole delivery in
    let says = laws.says files st old.sender refines.sender goes.keeps refines.told in
    let heard = said-heard laws.found files (said st) old.sender delivery says goes.bad in
    let answers = laws.receiver_follows confirm files whole st old.receiver reply new.receiver refines.batch refines.machine refines.receiver (rw heard at goes.hears) in
    let same_sender : new.sender ≡ old.sender = ap (λ (p : Pair). p.sender) goes.others in
    let keeps = laws.keeps_sender files confirm answers.0 whole st in
    record {
      there = (goes.shows, goes.short);
      says = says;
      sink_failed = answers.0;
      reply_is = answers.2.reply_is;
      others = goes.others;
      sink = answers.1;
      refines = record {
        machine = laws.machine_there files confirm answers.0 whole st refines.machine;
        batch = refines.batch;
        told = rw same_sender refines.told;
        sender = rw same_sender (sender-still files st (receiver_step (frames_of files) confirm answers.0 whole st).0 old.sender keeps refines.sender);
        receiver = answers.2.refines;
      };
    }

-- ---- A round

-- the line was handed both deliveries, and nothing else is changed but the ends
both-handed : (round : Round) (reply : Reply) (old between new : Pair) → GoesThere round.there old reply between → GoesBack round.back reply between new →
    new ≡ record (handed_both round reply old) { sender = new.sender; receiver = new.receiver }
both-handed round reply old between new there back =
    let same_receiver : new.receiver ≡ between.receiver = ap (λ (p : Pair). p.receiver) back.others in
    back.others ∙ (ap (λ (p : Pair). record (handed Back (arrives round.back (reply_bytes reply)) p) { sender = new.sender }) there.others
    ∙ ap (λ (r : ReceiverParts). record (handed_both round reply old) { sender = new.sender; receiver = r }) (sym same_receiver))

pub goes-turn : Laws → (confirm : Confirm) (files : Batch) (st : State) (round : Round) (old new : Pair) (seen : Seen) →
    PairRefines confirm files st old → Goes round old seen new → (turn : Turn) × IsTurn confirm files st round turn old seen new
goes-turn laws confirm files st round old new seen refines goes =
    let between = goes.between in
    let half = receiver-step laws confirm files st round.there old seen.reply between refines goes.there in
    let answer = receiver_step (frames_of files) confirm half.sink_failed (is_whole round.there) st in
    let came = came_back (came_of round.back) answer.1 in
    let same_receiver : new.receiver ≡ between.receiver = ap (λ (p : Pair). p.receiver) goes.back.others in
    let bytes = arrives round.back (reply_bytes seen.reply) in
    let came_is : controls_in bytes ≡ came = controls-arrive round.back seen.reply ∙ ap (came_back (came_of round.back)) half.reply_is in
    let within : machine.is_within came (machine.controls answer.1) ≡ true = came-within laws.within laws.whole round.back answer.1 (subst (λ r. ShowsBack r round.back) half.reply_is goes.back.shows) in
    let remnant : machine.IsRemnant (controls_in bytes) = rw came_is (laws.remnants answer.1 came within) in
    let source_failed = goes.back.hears.0 in
    let filled = source-truth source_failed _ between.sender.files new.sender.files goes.back.hears.1.files in
    let source : IsSourceTruth source_failed old.sender.files new.sender.files = rw (ap (λ (p : Pair). p.sender) goes.there.others) at filled in
    let follows = laws.sender_follows files answer.0 between.sender new.sender bytes source_failed half.refines.sender remnant goes.back.hears.1 in
    let keeps = laws.keeps_receiver files source_failed came answer.0 in (
      turn_of round half.sink_failed source_failed,
      record {
        there = half.there;
        back = (goes.back.shows, goes.back.short);
        says = half.says;
        reply_is = half.reply_is;
        seen_is = goes.seen_is;
        others = both-handed round seen.reply old between new goes.there goes.back;
        turn_is = refl;
        sink = rw same_receiver half.sink;
        source = source;
        refines = record {
          machine = laws.machine_back files confirm half.sink_failed (is_whole round.there) source_failed came st refines.machine within;
          batch = refines.batch;
          told = still-told source_failed old.sender.files new.sender.files source refines.told;
          sender = rw came_is at follows;
          receiver = rw same_receiver
              (receiver-still confirm files answer.0 (sender_step (frames_of files) source_failed came answer.0) between.receiver.receiver between.receiver.kept keeps half.refines.receiver);
        };
      },
    )

-- ---- A run

-- its rounds are turns
pub rounds-turns : Laws → (confirm : Confirm) (files : Batch) (rounds : List Round) (st : State) (old new : Pair) (all : List Seen) →
    PairRefines confirm files st old → GoOn rounds old all new → (turns : List Turn) × AreTurns confirm files st rounds turns old all new
rounds-turns laws confirm files [] st old new [] refines went = ([], went)
rounds-turns laws confirm files (round ∷ rounds) st old new (seen ∷ all) refines went =
    let first = goes-turn laws confirm files st round old went.0 seen refines went.1 in
    let others = rounds-turns laws confirm files rounds (after_turn (frames_of files) confirm first.0 st) went.0 new all first.1.refines went.2 in
    (first.0 ∷ others.0, (went.0, first.1, others.1))
rounds-turns laws confirm files _ st old new _ refines went = absurd went

-- the pair refines the state behind them
pub turns-refine : (confirm : Confirm) (files : Batch) (rounds : List Round) (turns : List Turn) (st : State) (old new : Pair) (all : List Seen) →
    AreTurns confirm files st rounds turns old all new → PairRefines confirm files st old → PairRefines confirm files (after_turns (frames_of files) confirm turns st) new
turns-refine confirm files [] [] st old new [] went refines = rw went refines
turns-refine confirm files (round ∷ rounds) (turn ∷ turns) st old new (seen ∷ all) went refines =
    turns-refine confirm files rounds turns (after_turn (frames_of files) confirm turn st) went.0 new all went.2 went.1.refines
turns-refine confirm files _ _ st old new _ went refines = absurd went

-- what came back was within the reply
pub turns-damage : WithinReply → ((r : Reply) → machine.is_within (machine.controls r) (machine.controls r) ≡ true) →
    (confirm : Confirm) (files : Batch) (rounds : List Round) (turns : List Turn) (st : State) (old new : Pair) (all : List Seen) →
    AreTurns confirm files st rounds turns old all new → IsDamage (frames_of files) confirm turns st
turns-damage within whole confirm files [] [] st old new [] went = tt
turns-damage within whole confirm files (round ∷ rounds) (turn ∷ turns) st old new (seen ∷ all) went =
    let shown = came-within within whole round.back _ (subst (λ r. ShowsBack r round.back) went.1.reply_is went.1.back.0) in
    (rw (ap (λ (t : Turn). t.back) went.1.turn_is) shown, turns-damage within whole confirm files rounds turns (after_turn (frames_of files) confirm turn st) went.0 new all went.2)
turns-damage within whole confirm files _ _ st old new _ went = absurd went

-- what the trace of a pair that refines a state reports
pub refines-reports : Laws → (confirm : Confirm) (files : Batch) (st : State) (rounds : List Round) (old new : Pair) (trace : Trace) →
    IsTrace rounds old trace new → PairRefines confirm files st new → Reports files st trace
refines-reports laws confirm files st rounds old new trace gives refines = record {
  done = gives.done ∙ (laws.done files st new.sender refines.sender ∙ sym (laws.counted files st.acknowledged));
  files_is = gives.files ∙ (refines.receiver.files_is ∙ sym (laws.counted files st.taken));
  send = gives.send ∙ refines.sender.standing.state;
  recv = gives.recv ∙ refines.receiver.state_is;
}

pub run-turns : Laws → (confirm : Confirm) (files : Batch) (st : State) (rounds : List Round) (old new : Pair) (trace : Trace) →
    PairRefines confirm files st old → IsTrace rounds old trace new → RunsAsMachine confirm files st rounds old trace new
run-turns laws confirm files st rounds old new trace refines gives =
    let run = rounds-turns laws confirm files rounds st old new trace.rounds.items refines gives.goes_on in
    record {
      turns = run.0;
      are_turns = run.1;
      reports = refines-reports laws confirm files (after_turns (frames_of files) confirm run.0 st) rounds old new trace gives
          (turns-refine confirm files rounds run.0 st old new trace.rounds.items run.1 refines);
    }
