-- Two engines whose deliveries pair up stand where the machine goes, round for round; and where one has returned, the other goes on alone.
use Rattle.std.proofs.Common.{◌≡◌, ◌∙◌, ◌⊎◌, inl, inr, ℕ, Bool, false, List, [], ◌∷◌, All, length, refl, sym, ap, subst, Ok}
use Rattle.ym_pair.proofs.Names.{Reply, Shape, Confirm, frames_of, State, start, committed, reported, after_turn, Heard, controls_in, hears, ReceiverParts, HearsGives, SenderParts, IsSender, IsStep, counts, Batch, FileParts, IsFile, AreNew, Pair, Goes, sent_by, seen_of, PairRefines, CommitsFirst, Delivery, Lost, Round, Spoke, Answered, ArrivesThere, ArrivesBack, SenderAlone, PairUp, ends, up_to_start}
use Rattle.ym_machine.specs.Frames.{count_within, files_within, IsPrefix}
use Rattle.ym_machine.specs.Machine.{Invariant, KeepsReceiver, sender_step}
use Rattle.ym_core.specs.Position.{done_at}
use Rattle.ym_link.specs.ReceiverRefines.{KeepsFirst}
use Rattle.ym_link.specs.ReceiverRefines as receiver
use Rattle.ym_link.specs.SenderRefines.{SenderRefines, AllTold, batch_of}
use Rattle.ym_line.specs.Promise.{CommitsAPrefix}
use Rattle.ym_line.specs.Rounds.{GoesThere}
use Rattle.ym_line.specs.Turns.{IsReceiverStep, TakesATurn}
use Rattle.ym_line.specs.declared.trace.Seen.{Seen}
use Rattle.ym_pair.specs.Pairing.{ReceiverAlone}
use Rattle.ym_pair.proofs.Paired.{Computed, SilenceBack, HearsControls, SpeaksTo, IsWritten, AnswersTo, Leaves, there-of, nothing-back, paired-half, paired-round, receiver-stays}

-- ---- What the laws say

pub record Laws : Type 0 where
  pub computed : Computed
  pub silence : SilenceBack
  pub go : (round : Round) (old new : Pair) (seen : Seen) → Goes round old seen new → TakesATurn round old seen new
  pub there : (delivery : Delivery) (old new : Pair) (reply : Reply) → GoesThere delivery old reply new →
      (confirm : Confirm) (files : Batch) (st : State) → PairRefines confirm files st old → IsReceiverStep confirm files st delivery old reply new
  pub alone : (confirm : Confirm) (files : Batch) (st : State) (old new : SenderParts) (failed : Bool) → Invariant confirm (frames_of files) st → AllTold old.files →
      SenderRefines files st old → IsStep old (hears (counts old) old.standing []) failed new →
      Invariant confirm (frames_of files) (sender_step (frames_of files) failed [] st) × AllTold new.files
      × SenderRefines files (sender_step (frames_of files) failed [] st) new × KeepsReceiver st (sender_step (frames_of files) failed [] st)
  pub new_stand : (pair : Pair) → AreNew pair → All IsFile pair.sender.files → PairRefines pair.receiver.receiver.confirm (batch_of pair.sender.shape pair.sender.files) start pair
  pub done : (files : Batch) (st : State) (sender : SenderParts) → SenderRefines files st sender → done_at (length sender.files) sender.standing.position ≡ count_within files st.acknowledged
  pub counted : (files : Batch) (n : ℕ) → length (files_within files n) ≡ count_within files n
  pub committed_first : (files : Batch) (st : State) → IsPrefix (committed files st) files
  pub reported_within : (files : Batch) (confirm : Confirm) (st : State) → Invariant confirm (frames_of files) st → IsPrefix (reported files st) (committed files st)
  pub prefix : (shape : Shape) (sources : List FileParts) (st : State) (pair : Pair) → All IsFile sources → AllTold sources → CommitsFirst (batch_of shape sources) st pair → CommitsAPrefix sources pair

-- ---- A sender alone

-- The sender refines a state of the machine, and the receiver that has returned keeps what it had: that of a receiver that has taken as many frames.
pub record RefinesAlone (confirm : Confirm) (files : Batch) (st : State) (s : SenderParts) (r : ReceiverParts) : Type 0 where
  pub machine : Invariant confirm (frames_of files) st
  pub told : AllTold s.files
  pub sender : SenderRefines files st s
  pub keeps : KeepsFirst files st.taken r.kept
  pub files_is : r.receiver.files ≡ count_within files st.taken

alone-at : (confirm : Confirm) (files : Batch) (st : State) (s : SenderParts) (r : ReceiverParts) → PairRefines confirm files st (ends s r) → RefinesAlone confirm files st s r
alone-at confirm files st s r refines = record {
  machine = refines.machine;
  told = refines.told;
  sender = refines.sender;
  keeps = refines.receiver.keeps;
  files_is = refines.receiver.files_is;
}

alone-hears : Laws → (confirm : Confirm) (files : Batch) (st : State) (s next : SenderParts) (r : ReceiverParts) →
    RefinesAlone confirm files st s r → HearsControls s [] next → (st_new : State) × RefinesAlone confirm files st_new next r
alone-hears laws confirm files st s next r refines heard =
    let goes = laws.alone confirm files st s next heard.0 refines.machine refines.told refines.sender heard.1 in (
      sender_step (frames_of files) heard.0 [] st,
      record {
        machine = goes.0;
        told = goes.1;
        sender = goes.2;
        keeps = subst (λ n. KeepsFirst files n r.kept) (sym goes.3.taken) refines.keeps;
        files_is = refines.files_is ∙ ap (count_within files) (sym goes.3.taken);
      },
    )

sender-alone : Laws → (confirm : Confirm) (files : Batch) (st : State) (s new : SenderParts) (r : ReceiverParts) (spoke : List Spoke) (rounds : List Round) →
    RefinesAlone confirm files st s r → SpeaksTo s spoke new → SenderAlone spoke rounds → (st_new : State) × RefinesAlone confirm files st_new new r
sender-alone laws confirm files st s new r [] rounds refines speaks pairs = (st, subst (λ x. RefinesAlone confirm files st x r) (sym speaks) refines)
sender-alone laws confirm files st s new r (one ∷ spoke) [] refines speaks pairs = absurd pairs
sender-alone laws confirm files st s new r (one ∷ spoke) (round ∷ rounds) refines speaks pairs =
    let nothing : up_to_start (controls_in one.came) ≡ [] = nothing-back laws.silence round.back one.came pairs.1 in
    let first = alone-hears laws confirm files st s speaks.0 r refines (subst (λ controls. HearsControls s controls speaks.0) nothing speaks.4) in
    sender-alone laws confirm files first.0 speaks.0 new r spoke rounds first.1 speaks.5 pairs.2

-- ---- A receiver alone

-- what arrives of what there was to send
half-paired : Laws → (confirm : Confirm) (files : Batch) (st : State) (s : SenderParts) (r next : ReceiverParts) (wrote : List ℕ) (h : Heard) (delivery : Delivery) (reply : Reply) →
    PairRefines confirm files st (ends s r) → IsSender s → (wrote ≡ sent_by s) ⊎ (wrote ≡ []) → ArrivesThere delivery wrote h → HearsGives r h (Ok reply) next →
    (st_new : State) × PairRefines confirm files st_new (ends s next)
half-paired laws confirm files st s r next wrote h delivery reply refines is spoken arrives gives =
    let there = there-of laws.computed s wrote delivery h spoken arrives in
    let half = laws.there there.0 (ends s r) (ends s next) reply (paired-half laws.computed s r next h reply there.0 is there.1 gives) confirm files st refines in
    (_, half.refines)

receiver-alone : Laws → (confirm : Confirm) (files : Batch) (st : State) (s : SenderParts) (r end : ReceiverParts) (last : List ℕ) (answered : List Answered) (rounds : List Round) →
    PairRefines confirm files st (ends s r) → Leaves s last → AnswersTo false r answered end → ReceiverAlone last answered rounds → (st_new : State) × PairRefines confirm files st_new (ends s end)
receiver-alone laws confirm files st s r end last [] rounds refines leaves answers pairs = (st, subst (λ x. PairRefines confirm files st (ends s x)) (sym answers) refines)
receiver-alone laws confirm files st s r end last (one ∷ answered) [] refines leaves answers pairs = absurd pairs
receiver-alone laws confirm files st s r end last (one ∷ answered) (round ∷ rounds) refines leaves answers pairs =
    let first = half-paired laws confirm files st s r answers.0 last one.heard round.there answers.1 refines leaves.is leaves.words pairs.0 answers.3 in
    receiver-alone laws confirm files first.0 s answers.0 end last answered rounds first.1 leaves answers.5 pairs.2

-- ---- A sender that waits in vain

pub vain-refines : Laws → (confirm : Confirm) (files : Batch) (st : State) (s next : SenderParts) (r : ReceiverParts) → PairRefines confirm files st (ends s r) → HearsControls s [] next →
    (st_new : State) × PairRefines confirm files st_new (ends next r)
vain-refines laws confirm files st s next r refines heard =
    let goes = laws.alone confirm files st s next heard.0 refines.machine refines.told refines.sender heard.1 in (
      sender_step (frames_of files) heard.0 [] st,
      record {
        machine = goes.0;
        batch = refines.batch;
        told = goes.1;
        sender = goes.2;
        receiver = receiver-stays confirm files st (sender_step (frames_of files) heard.0 [] st) r.receiver r.kept goes.3 refines.receiver;
      },
    )

-- ---- Both

-- the delivery back, of the reply that was given: where it was not written, it is lost
back-of : Laws → (reply wrote : Reply) (delivery : Delivery) (came : List ℕ) → IsWritten false reply wrote → ArrivesBack delivery wrote came → (back : Delivery) × ArrivesBack back reply came
back-of laws reply wrote delivery came (inl same) arrives = (delivery, subst (λ r. ArrivesBack delivery r came) same arrives)
back-of laws reply wrote delivery came (inr silent) arrives = (
  Lost,
  record {
    shows = tt;
    short = tt;
    heard_is = nothing-back laws.silence delivery came (subst (λ r. ArrivesBack delivery r came) silent arrives);
  },
)

pub engines-stand : Laws → (confirm : Confirm) (files : Batch) (st : State) (s new : SenderParts) (r end : ReceiverParts) (spoke : List Spoke) (last : List ℕ) (answered : List Answered) (rounds : List Round) →
    PairRefines confirm files st (ends s r) → SpeaksTo s spoke new → Leaves new last → AnswersTo false r answered end → PairUp spoke last answered rounds →
    (st_new : State) × RefinesAlone confirm files st_new new end
engines-stand laws confirm files st s new r end [] last answered rounds refines speaks leaves answers pairs =
    let behind = receiver-alone laws confirm files st new r end last answered rounds (subst (λ x. PairRefines confirm files st (ends x r)) (sym speaks) refines) leaves answers pairs in
    (behind.0, alone-at confirm files behind.0 new end behind.1)
engines-stand laws confirm files st s new r end (one ∷ spoke) last [] rounds refines speaks leaves answers pairs =
    sender-alone laws confirm files st s new end (one ∷ spoke) rounds (alone-at confirm files st s end (subst (λ x. PairRefines confirm files st (ends s x)) (sym answers) refines)) speaks pairs
engines-stand laws confirm files st s new r end (one ∷ spoke) last (answer ∷ answered) [] refines speaks leaves answers pairs = absurd pairs
engines-stand laws confirm files st s new r end (one ∷ spoke) last (answer ∷ answered) (round ∷ rounds) refines speaks leaves answers (inl (there_pairs, inl (back_pairs, later))) =
    let next : SenderParts = speaks.0 in
    let after : ReceiverParts = answers.0 in
    let there = there-of laws.computed s one.wrote round.there answer.heard (inl speaks.3) there_pairs in
    let came = back-of laws answers.1 answer.wrote round.back one.came answers.4 back_pairs in
    let made : Round = record { there = there.0; back = came.0 } in
    let goes = paired-round laws.computed s next r after one.came answer.heard answers.1 there.0 came.0 speaks.1 speaks.4 answers.3 there.1 came.1 in
    let first = laws.go made (ends s r) (ends next after) (seen_of made s answers.1) goes confirm files st refines in
    engines-stand laws confirm files (after_turn (frames_of files) confirm first.0 st) next new after end spoke last answered rounds first.1.refines speaks.5 leaves answers.5 later
engines-stand laws confirm files st s new r end (one ∷ spoke) last (answer ∷ answered) (round ∷ rounds) refines speaks leaves answers (inl (there_pairs, inr (lost, later))) =
    let first = half-paired laws confirm files st s r answers.0 one.wrote answer.heard round.there answers.1 refines speaks.1 (inl speaks.3) there_pairs answers.3 in
    engines-stand laws confirm files first.0 s new answers.0 end (one ∷ spoke) last answered rounds first.1 speaks leaves answers.5 later
engines-stand laws confirm files st s new r end (one ∷ spoke) last (answer ∷ answered) (round ∷ rounds) refines speaks leaves answers (inr (vain, later)) =
    let first = vain-refines laws confirm files st s speaks.0 r refines (subst (λ controls. HearsControls s (up_to_start controls) speaks.0) vain.nothing speaks.4) in
    engines-stand laws confirm files first.0 speaks.0 new r end spoke last (answer ∷ answered) rounds first.1 speaks.5 leaves answers later

-- ---- What is committed

-- the ends as they stand, with the receiver's state that of the machine's
abbrev pub with_end : State → ReceiverParts → ReceiverParts
with_end st r = record r { receiver = record r.receiver { state = receiver.state_of st.receiver } }

alone-commits : Laws → (confirm : Confirm) (files : Batch) (st : State) (s : SenderParts) (r : ReceiverParts) → RefinesAlone confirm files st s r → CommitsFirst files st (ends s (with_end st r))
alone-commits laws confirm files st s r refines = record {
  headers = refines.keeps.headers;
  bytes = refines.keeps.bytes;
  first = laws.committed_first files st;
  files_is = refines.files_is ∙ sym (laws.counted files st.taken);
  done_is = laws.done files st s refines.sender ∙ sym (laws.counted files st.acknowledged);
  among = laws.reported_within files confirm st refines.machine;
  send_is = refines.sender.standing.state;
  recv_is = refl;
}

pub engines-commit : Laws → (s new : SenderParts) (r end : ReceiverParts) (spoke : List Spoke) (last : List ℕ) (answered : List Answered) (rounds : List Round) →
    AreNew (ends s r) → All IsFile s.files → SpeaksTo s spoke new → Leaves new last → AnswersTo false r answered end → PairUp spoke last answered rounds → CommitsAPrefix s.files (ends new end)
engines-commit laws s new r end spoke last answered rounds fresh within speaks leaves answers pairs =
    let old : Pair = ends s r in
    let confirm : Confirm = r.receiver.confirm in
    let files : Batch = batch_of s.shape s.files in
    let behind = engines-stand laws confirm files start s new r end spoke last answered rounds (laws.new_stand old fresh within) speaks leaves answers pairs in
    let first = alone-commits laws confirm files behind.0 new end behind.1 in
    let commits = laws.prefix s.shape s.files behind.0 (ends new (with_end behind.0 end)) within fresh.tells first in
    record {
      number = commits.number;
      within = commits.within;
      headers = commits.headers;
      bytes = commits.bytes;
      files_is = commits.files_is;
      done = commits.done;
    }

-- each sender that runs keeps files that are within their limits
pub files-within : (s new : SenderParts) (spoke : List Spoke) (last : List ℕ) → SpeaksTo s spoke new → Leaves new last → All IsFile s.files
files-within s new [] last speaks leaves = subst (λ (x : SenderParts). All IsFile x.files) speaks leaves.is.files
files-within s new (one ∷ spoke) last speaks leaves = speaks.1.files
