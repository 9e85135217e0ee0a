-- Runs of new ends in which damage comes in short bursts: how they go on, and when they finish.
--
-- The burst is this profile's choice; after how many errors in a row an end gives up is the
-- reference's ("XMODEM Protocol Overview").
use Rattle.std.specs.Prelude.{◌≡◌, ◌≤◌, ◌<◌, ◌⊎◌, ℕ, ◌+◌, ◌&&◌, max, Bool, true, if◌then◌else◌, List, [], ◌∷◌, length, map, Some}
use Rattle.ym_file.specs.Counts.{Counted}
use Rattle.ym_file.specs.Kept.{Told}
use Rattle.ym_file.specs.SourceFile.{FileParts, file_at}
use Rattle.ym_core.specs.declared.state.SendState.TheVariants as sender
use Rattle.ym_core.specs.declared.state.RecvState.TheVariants as receiver
use Rattle.ym_machine.specs.declared.limits.TheConstants.{BURST}
use Rattle.ym_line.specs.declared.delivery.Round.{Round}
use Rattle.ym_line.specs.declared.trace.Trace.{Trace}
use Rattle.ym_line.specs.Needed.{rounds_of}
use Rattle.ym_line.specs.Promise.{AreNew}
use Rattle.ym_line.specs.Rounds.{Pair}
use Rattle.ym_line.specs.Turns.{is_whole}

-- ---- Whole rounds and bad runs

-- a round is whole where both deliveries are; else it is bad
abbrev pub both_whole : Round → Bool
both_whole round = is_whole round.there && is_whole round.back

-- how many rounds are whole
abbrev pub whole_rounds : List Round → ℕ
whole_rounds [] = 0
whole_rounds (round ∷ rounds) =
    if both_whole round then whole_rounds rounds + 1 else whole_rounds rounds

abbrev pub AllWhole : List Round → Type 0
AllWhole [] = Unit {0}
AllWhole (round ∷ rounds) = (both_whole round ≡ true) × AllWhole rounds

-- the length of the longest bad run, of bad rounds one behind another, where so many bad rounds
-- went before
abbrev pub longest_bad_run : ℕ → List Round → ℕ
longest_bad_run before [] = before
longest_bad_run before (round ∷ rounds) =
    if both_whole round
    then max before (longest_bad_run 0 rounds)
    else longest_bad_run (before + 1) rounds

-- ---- What is promised of them

-- no failure was counted, neither the sink's nor that of any file's source
pub record NoneCounted (old new : Pair) : Type 0 where
  pub sink : ¬ Counted old.receiver.failures new.receiver.failures
  pub sources : (i : ℕ) →
      i < length old.sender.files →
      ¬ Counted (file_at old.sender.files i).failures (file_at new.sender.files i).failures

-- how many whole rounds these ends need
abbrev pub rounds_for : Pair → ℕ
rounds_for pair = rounds_of pair.sender.shape pair.receiver.receiver.confirm pair.sender.files

-- neither end gave up, was cancelled or has failed, and the retries of one that runs are at most
-- those of a burst, one round and a burst again
pub record AreGoing (trace : Trace) (pair : Pair) : Type 0 where
  pub send : (trace.send ≡ sender.Running) ⊎ (trace.send ≡ sender.Finished)
  pub recv : (trace.recv ≡ receiver.Running) ⊎ (trace.recv ≡ receiver.Finished)
  pub sender_retries : trace.send ≡ sender.Running →
      pair.sender.standing.retries ≤ BURST + 1 + BURST
  pub receiver_retries : trace.recv ≡ receiver.Running →
      pair.receiver.receiver.retries ≤ BURST + 1 + BURST

-- both ends have finished, and the whole batch is committed and reported
pub record HaveFinished (batch : List FileParts) (trace : Trace) (pair : Pair) : Type 0 where
  pub send : trace.send ≡ sender.Finished
  pub recv : trace.recv ≡ receiver.Finished
  pub done : trace.done ≡ length batch
  pub files : trace.files ≡ length batch
  pub headers : pair.receiver.kept.headers ≡ map (λ (f : FileParts). f.header) batch
  pub bytes : (told : Told) →
      pair.receiver.kept.told ≡ Some told →
      map (λ (bytes : List ℕ). Some bytes) told.files ≡ map (λ (f : FileParts). f.bytes) batch

-- new ends over whose rounds no failure was counted, and no bad run is longer than a burst
pub record BringsShortBadRuns (rounds : List Round) (old new : Pair) : Type 0 where
  pub fresh : AreNew old
  pub none : NoneCounted old new
  pub short : longest_bad_run 0 rounds ≤ BURST
