-- Two engines whose deliveries pair up, and that both end, finish where damage comes in short bursts.
use Rattle.std.proofs.Common.{◌≡◌, ◌≢◌, ◌∙◌, ◌≤◌, inl, inr, ℕ, true, false, List, [], ◌∷◌, length, map, take, Ok, Result, All, refl, sym, ap, subst, arith}
use Rattle.std.proofs.lemmas.List.{length-map, take_all}
use Rattle.ym_pair.proofs.Names.{Silence, HeaderFault, Zero, Confirm, BURST, frames_of, State, start, committed, reported, Receiver, Step, No_call, hears_at, Bad, RecvState, ReceiverParts, HearsGives, called, SenderParts, Batch, FileParts, IsFile, longest_bad_run, AreNew, Pair, sent_by, seen_of, CommitsFirst, Lost, Round, Spoke, Answered, SenderAlone, PairUp, ends, up_to_start}
use Rattle.ym_header.specs.declared.reading.Zero.TheVariants.{End}
use Rattle.ym_machine.specs.Frames.{files_within}
use Rattle.ym_machine.specs.Machine.{Invariant}
use Rattle.ym_machine.specs.ShortBursts.{IsFine}
use Rattle.ym_machine.specs.State.{SenderEnd, ReceiverEnd}
use Rattle.ym_core.specs.declared.state.RecvState.TheVariants as recv_state
use Rattle.ym_core.specs.declared.state.SendState.TheVariants as send_state
use Rattle.ym_link.specs.ReceiverRefines as receiver
use Rattle.ym_link.specs.SenderRefines.{batch_of, file_of}
use Rattle.ym_line.specs.Completion.{NoneCounted}
use Rattle.ym_line.specs.Promise.{CommitsAPrefix}
use Rattle.ym_pair.specs.Pairing.{HaveBothFinished}
use Rattle.ym_pair.proofs.Prefixes.{TurnLaws, Prefix, Onward, IsShort, IsCalm, sender-going, sender-finished, prefix-goes, prefix-is, prefix-vain, answers-grew, speaks-grew, calm-there, calm-back, turns-longest}
use Rattle.ym_pair.proofs.Ghosts.{Comes, ghost, comes-along, comes-waiting}
use Rattle.ym_pair.proofs.Paired.{HearsControls, SpeaksTo, AnswersTo, bad-lost, paired-round}

-- ---- A receiver that has ended, and hears nothing

silent-step : (now : RecvState) (r : Receiver) (zero : Result Zero HeaderFault) → now ≢ recv_state.Running → hears_at now r zero Bad ≡ record { receiver = r; reply = Silence; call = No_call }
silent-step recv_state.Running r zero over = absurd (over refl)
silent-step _ r zero over = refl

silent : (r : ReceiverParts) → r.receiver.state ≢ recv_state.Running → HearsGives r Bad (Ok Silence) r
silent r over =
    let same = silent-step r.receiver.state r.receiver (Ok End) over in (
      Ok End,
      λ block on. absurd (over on),
      (
        false,
        record {
          truth = refl;
          no_call = λ e. refl;
          reply_is = sym (ap (λ (s : Step). s.reply) same);
          receiver_is = sym (ap (λ (s : Step). s.receiver) same);
          kept_is = sym (ap (λ (s : Step). called s.call r.kept) same);
        },
      ),
    )

-- ---- What the laws of the machine say

pub record FinishLaws : Type 0 where
  pub turns : TurnLaws
  pub starts : (files : Batch) (confirm : Confirm) → IsFine confirm (frames_of files) 0 start
  pub finishes : (files : Batch) (confirm : Confirm) (st : State) → Invariant confirm (frames_of files) st → st.sender ≡ SenderEnd.Finished → st.receiver ≡ ReceiverEnd.Finished
  pub all : (files : Batch) → files_within files (length (frames_of files)) ≡ files

-- ---- Round for round

-- where the sender is at the end, neither has given up
pub record Reached (confirm : Confirm) (files : Batch) (s : SenderParts) (r : ReceiverParts) : Type 0 where
  pub before : ℕ
  pub prefix : Prefix confirm files before s r

module _ (all_laws : FinishLaws) (confirm : Confirm) (files : Batch) where
  laws : TurnLaws
  laws = all_laws.turns

  -- the receiver has ended
  sender-reaches : (s new : SenderParts) (end : ReceiverParts) (spoke : List Spoke) (rounds : List Round) → Onward confirm files rounds s end → SpeaksTo s spoke new →
      end.receiver.state ≢ recv_state.Running → SenderAlone spoke rounds → IsCalm s new end end → Reached confirm files new end
  sender-reaches s new end [] rounds on speaks over pairs calm = record { before = on.before; prefix = subst (λ x. Prefix confirm files on.before x end) (sym speaks) on.prefix }
  sender-reaches s new end (one ∷ spoke) [] on speaks over pairs calm = absurd pairs
  sender-reaches s new end (one ∷ spoke) (round ∷ rounds) on speaks over pairs calm =
      let prefix : Prefix confirm files on.before s end = on.prefix in
      let next : SenderParts = speaks.0 in
      let comes : Comes prefix.retries s _ next = comes-along prefix.retries s _ next prefix.few speaks.2 speaks.4 in
      let made : Round = record { there = Lost; back = round.back } in
      let goes = paired-round laws.computed (ghost prefix.retries s) comes.new end end one.came Bad Silence Lost round.back (prefix-is confirm files on.before s end prefix speaks.1)
      comes.heard (silent end over) (bad-lost (sent_by s) Bad refl) pairs.1 in
      let onward : Onward confirm files rounds next end = prefix-goes laws confirm files on.before made rounds s next end end _ (seen_of made (ghost prefix.retries s) Silence) prefix comes goes
      (λ failed tells. laws.sink failed end.failures end.failures end.failures tells (omega arith) calm.sink)
      (λ failed found. laws.source failed s.files next.files new.files found (speaks-grew laws next new spoke speaks.5) calm.sources)
      (subst (λ there. IsShort on.before (record { there = there; back = round.back } ∷ rounds)) pairs.0 on.short) in
      sender-reaches next new end spoke rounds onward speaks.5 over pairs.2 (calm-back laws s next new end end speaks.4.0 calm (laws.filled speaks.4.0 _ s.files next.files speaks.4.1.files))

  -- the sender has ended: where it has finished, so has the receiver
  all-heard : (s : SenderParts) (r end : ReceiverParts) (before : ℕ) (answered : List Answered) → Prefix confirm files before s r → s.standing.state ≢ send_state.Running → AnswersTo true r answered end → Reached confirm files s end
  all-heard s r end before [] prefix over answers = record { before = before; prefix = subst (λ x. Prefix confirm files before s x) (sym answers) prefix }
  all-heard s r end before (one ∷ answered) prefix over answers = elim (sender-going prefix.st.sender s.standing.state prefix.refines.sender.standing.state prefix.fine.going.0) [
    | inl runs ↦ absurd (over runs)
    | inr done ↦
        let sent = sender-finished prefix.st.sender (sym prefix.refines.sender.standing.state ∙ done) in
        let taken = all_laws.finishes files confirm prefix.st prefix.fine.machine sent in
        let ended : r.receiver.state ≡ recv_state.Finished = prefix.refines.receiver.state_is ∙ ap receiver.state_of taken in
        absurd (let runs = answers.2 in cc)
  ]

  pub reaches-end : (s new : SenderParts) (r end : ReceiverParts) (spoke : List Spoke) (last : List ℕ) (answered : List Answered) (rounds : List Round) → Onward confirm files rounds s r →
      SpeaksTo s spoke new → AnswersTo true r answered end → new.standing.state ≢ send_state.Running → end.receiver.state ≢ recv_state.Running →
      PairUp spoke last answered rounds → IsCalm s new r end → Reached confirm files new end
  reaches-end s new r end [] last answered rounds on speaks answers over ended pairs calm =
      all-heard new r end on.before answered (subst (λ x. Prefix confirm files on.before x r) (sym speaks) on.prefix) over answers
  reaches-end s new r end (one ∷ spoke) last [] rounds on speaks answers over ended pairs calm =
      sender-reaches s new end (one ∷ spoke) rounds (subst (λ x. Onward confirm files rounds s x) (sym answers) on) speaks ended pairs (subst (λ x. IsCalm s new x end) (sym answers) calm)
  reaches-end s new r end (one ∷ spoke) last (answer ∷ answered) [] on speaks answers over ended pairs calm = absurd pairs
  reaches-end s new r end (one ∷ spoke) last (answer ∷ answered) (round ∷ rounds) on speaks answers over ended (inl (there_pairs, inl (back_pairs, later))) calm =
      let prefix : Prefix confirm files on.before s r = on.prefix in
      let next : SenderParts = speaks.0 in
      let after : ReceiverParts = answers.0 in
      let comes : Comes prefix.retries s _ next = comes-along prefix.retries s _ next prefix.few speaks.2 speaks.4 in
      let goes = paired-round laws.computed (ghost prefix.retries s) comes.new r after one.came answer.heard answers.1 round.there round.back (prefix-is confirm files on.before s r prefix speaks.1) comes.heard answers.3
      (rw speaks.3 at there_pairs) (rw answers.4 at back_pairs) in
      let onward : Onward confirm files rounds next after = prefix-goes laws confirm files on.before round rounds s next r after _ (seen_of round (ghost prefix.retries s) answers.1) prefix comes goes
      (λ failed tells. laws.sink failed r.failures after.failures end.failures tells (answers-grew after end answered answers.5) calm.sink)
      (λ failed found. laws.source failed s.files next.files new.files found (speaks-grew laws next new spoke speaks.5) calm.sources)
      on.short in
      reaches-end next new after end spoke last answered rounds onward speaks.5 answers.5 over ended later
      (calm-there next new r after end answers.3.2.0 (calm-back laws s next new r end speaks.4.0 calm (laws.filled speaks.4.0 _ s.files next.files speaks.4.1.files)) answers.3.2.1.truth)
  reaches-end s new r end (one ∷ spoke) last (answer ∷ answered) (round ∷ rounds) on speaks answers over ended (inl (there_pairs, inr (lost, later))) calm =
      let prefix : Prefix confirm files on.before s r = on.prefix in
      let after : ReceiverParts = answers.0 in
      let made : Round = record { there = round.there; back = Lost } in
      let comes : Comes prefix.retries s [] s = comes-waiting prefix.retries s prefix.few speaks.2 in
      let goes = paired-round laws.computed (ghost prefix.retries s) comes.new r after [] answer.heard answers.1 round.there Lost (prefix-is confirm files on.before s r prefix speaks.1) comes.heard answers.3
      (rw speaks.3 at there_pairs) (record { shows = tt; short = tt; heard_is = refl }) in
      let onward : Onward confirm files rounds s after = prefix-goes laws confirm files on.before made rounds s s r after [] (seen_of made (ghost prefix.retries s) answers.1) prefix comes goes
      (λ failed tells. laws.sink failed r.failures after.failures end.failures tells (answers-grew after end answered answers.5) calm.sink)
      (λ failed found. laws.source failed s.files s.files new.files found (speaks-grew laws s new (one ∷ spoke) speaks) calm.sources)
      (subst (λ back. IsShort on.before (record { there = round.there; back = back } ∷ rounds)) lost on.short) in
      reaches-end s new after end (one ∷ spoke) last answered rounds onward speaks answers.5 over ended later (calm-there s new r after end answers.3.2.0 calm answers.3.2.1.truth)
  reaches-end s new r end (one ∷ spoke) last (answer ∷ answered) (round ∷ rounds) on speaks answers over ended (inr (vain, later)) calm =
      let prefix : Prefix confirm files on.before s r = on.prefix in
      let next : SenderParts = speaks.0 in
      let heard : HearsControls s [] next = subst (λ controls. HearsControls s (up_to_start controls) next) vain.nothing speaks.4 in
      let comes : Comes prefix.retries s [] next = comes-along prefix.retries s [] next prefix.few speaks.2 heard in
      let onward : Onward confirm files rounds next r = prefix-vain laws confirm files on.before round rounds s next r prefix comes vain.there vain.back
      (λ failed found. laws.source failed s.files next.files new.files found (speaks-grew laws next new spoke speaks.5) calm.sources)
      on.short in
      reaches-end next new r end spoke last (answer ∷ answered) rounds onward speaks.5 answers over ended later
      (calm-back laws s next new r end speaks.4.0 calm (laws.filled speaks.4.0 _ s.files next.files speaks.4.1.files))

-- ---- Both finish

pub engines-finish : FinishLaws → (s new : SenderParts) (r end : ReceiverParts) (spoke : List Spoke) (last : List ℕ) (answered : List Answered) (rounds : List Round) → AreNew (ends s r) → All IsFile s.files →
    SpeaksTo s spoke new → AnswersTo true r answered end → new.standing.state ≢ send_state.Running → end.receiver.state ≢ recv_state.Running → PairUp spoke last answered rounds →
    NoneCounted (ends s r) (ends new end) → longest_bad_run 0 rounds ≤ BURST → HaveBothFinished s.files (ends new end)
engines-finish all_laws s new r end spoke last answered rounds fresh within speaks answers over ended pairs none short =
    let laws : TurnLaws = all_laws.turns in
    let old : Pair = ends s r in
    let confirm : Confirm = r.receiver.confirm in
    let files : Batch = batch_of s.shape s.files in
    let first : Prefix confirm files 0 s r = record {
      st = start;
      retries = s.standing.retries;
      few = omega arith;
      refines = laws.new_stand old fresh within;
      fine = all_laws.starts files confirm;
    } in
    let begins : Onward confirm files rounds s r = record { before = 0; prefix = first; short = subst (λ n. n ≤ BURST) (sym (turns-longest laws rounds 0)) short } in
    let reached : Reached confirm files new end = reaches-end all_laws confirm files s new r end spoke last answered rounds begins speaks answers over ended pairs (record { sink = none.sink; sources = none.sources }) in
    let prefix : Prefix confirm files reached.before new end = reached.prefix in
    let st : State = prefix.st in
    let commits : CommitsFirst files st (ends (ghost prefix.retries new) end) = laws.first confirm files st _ prefix.refines in
    let send : new.standing.state ≡ send_state.Finished = elim (sender-going st.sender new.standing.state prefix.refines.sender.standing.state prefix.fine.going.0) [ inl runs ↦ absurd (over runs) | inr done ↦ done ] in
    let sent = sender-finished st.sender (sym prefix.refines.sender.standing.state ∙ send) in
    let took = all_laws.finishes files confirm st prefix.fine.machine sent in
    let reported_is : reported files st ≡ files = ap (files_within files) (prefix.fine.machine.counters.sender_done.1 sent) ∙ all_laws.all files in
    let committed_is : committed files st ≡ files = ap (files_within files) (prefix.fine.machine.counters.receiver_done.1 took) ∙ all_laws.all files in
    let counted : length (committed files st) ≡ length s.files = ap length committed_is ∙ length-map s.files (file_of s.shape) in
    let prefix : CommitsAPrefix s.files (ends (ghost prefix.retries new) end) = laws.prefix s.shape s.files st _ within fresh.tells commits in
    let all : take prefix.number s.files ≡ s.files = take_all prefix.number s.files (let n = prefix.files_is in let m = commits.files_is in omega (arith, n, m, counted)) in
    record {
      send = send;
      recv = commits.recv_is ∙ ap receiver.state_of took;
      done = commits.done_is ∙ (ap length reported_is ∙ length-map s.files (file_of s.shape));
      files = commits.files_is ∙ counted;
      headers = prefix.headers ∙ ap (map (λ (f : FileParts). f.header)) all;
      bytes = λ told told_is. prefix.bytes told told_is ∙ ap (map (λ (f : FileParts). f.bytes)) all;
    }
