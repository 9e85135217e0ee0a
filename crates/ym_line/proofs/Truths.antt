-- Where no failure was counted over a run, none of its turns has a sink or a source that failed; and what is whole or bad in a list of rounds
-- is so in its turns.
use Rattle.std.proofs.Common.{◌≡◌, ◌∙◌, ◌≤◌, ◌<◌, ◌&&◌, ℕ, ◌+◌, Bool, true, false, List, [], ◌∷◌, length, is_none, refl, ap, subst, inl, inr, arith}
use Rattle.std.proofs.lemmas.Bool.{cases_eq}
use Rattle.std.proofs.lemmas.List.{length-set, get_or-set_same, get_or-set_other}
use Rattle.ym_line.proofs.Names.{Confirm, frames_of, State, Turn, NoFailure, after_turn, Batch, FileParts, file_at, no_file, Delivery, Whole, Round, Seen, NoneCounted, AllWhole, whole_rounds, Pair, AreTurns, IsSourceTruth, came_of, is_whole, turn_of}
use Rattle.ym_file.specs.Counts.{Counted}
use Rattle.ym_machine.specs.Run as machine
use Rattle.ym_link.specs.ReceiverInto.{Tells}
use Rattle.ym_link.specs.Sender.{FilledAt, FailedAt}
use Rattle.ym_line.specs.Completion.{both_whole, longest_bad_run}

-- ---- Counts never fall

pub counted-on : (a b c : ℕ) → Counted a b → b ≤ c → Counted a c
counted-on a b c counted_failure within = grind (arith, counted_failure, within)

counted-grew : (a b : ℕ) → Counted a b → a ≤ b
counted-grew a b counted_failure = grind (arith, counted_failure)

pub tells-grew : (failed : Bool) (a b : ℕ) → Tells failed a b → a ≤ b
tells-grew failed a b tells = grind (arith, tells)

failed-at : (at : ℕ) (old new : List FileParts) (failed : FailedAt at old new) → (file_at new at).failures ≡ failed.failures
failed-at at old new failed = ap (λ l. (file_at l at).failures) failed.after ∙ ap (λ (f : FileParts). f.failures) (get_or-set_same old at _ no_file failed.within)

failed-grew : (at : ℕ) (old new : List FileParts) → FailedAt at old new → (i : ℕ) → (file_at old i).failures ≤ (file_at new i).failures
failed-grew at old new failed i = elim (cases_eq i at) [
  | inl same ↦ let counts = failed-at at old new failed in let grew = counted-grew (file_at old at).failures failed.failures failed.counted_failure in rw same (omega (arith, counts, grew))
  | inr other ↦ let kept = ap (λ l. (file_at l i).failures) failed.after ∙ ap (λ (f : FileParts). f.failures) (get_or-set_other old at i _ no_file other) in omega (arith, kept)
]

filled-same : (at : ℕ) (old new : List FileParts) → FilledAt at old new → (i : ℕ) → (file_at new i).failures ≡ (file_at old i).failures
filled-same at old new asked i = rw asked.after (elim (cases_eq i at) [
  | inl same ↦ rw same (ap (λ (f : FileParts). f.failures) (get_or-set_same old at _ no_file asked.within))
  | inr other ↦ ap (λ (f : FileParts). f.failures) (get_or-set_other old at i _ no_file other)
])

pub sources-grew : (failed : Bool) (old new : List FileParts) → IsSourceTruth failed old new → (i : ℕ) → (file_at old i).failures ≤ (file_at new i).failures
sources-grew true old new truth i = failed-grew truth.0 old new truth.1 i
sources-grew false old new (inl truth) i = let same : (file_at new i).failures ≡ (file_at old i).failures = ap (λ l. (file_at l i).failures) truth in omega (arith, same)
sources-grew false old new (inr truth) i = let same = filled-same truth.0 old new truth.1 i in omega (arith, same)

-- the number of files stays
pub sources-long : (failed : Bool) (old new : List FileParts) → IsSourceTruth failed old new → length new ≡ length old
sources-long true old new truth = ap length truth.1.after ∙ length-set old truth.0 _
sources-long false old new (inl truth) = ap length truth
sources-long false old new (inr truth) = ap length truth.1.after ∙ length-set old truth.0 _

record Grew (old new : Pair) : Type 0 where
  sink : old.receiver.failures ≤ new.receiver.failures
  sources : (i : ℕ) → (file_at old.sender.files i).failures ≤ (file_at new.sender.files i).failures

turns-grew : (confirm : Confirm) (files : Batch) (rounds : List Round) (turns : List Turn) (st : State) (old new : Pair) (all : List Seen) →
    AreTurns confirm files st rounds turns old all new → Grew old new
turns-grew confirm files [] [] st old new [] went = rw went (record { sink = omega arith; sources = λ i. omega arith })
turns-grew confirm files (round ∷ rounds) (turn ∷ turns) st old new (seen ∷ all) went =
    let others = turns-grew confirm files rounds turns (after_turn (frames_of files) confirm turn st) went.0 new all went.2 in
    record {
      sink = omega (arith, tells-grew turn.sink_failed old.receiver.failures went.0.receiver.failures went.1.sink, others.sink);
      sources = λ i. omega (arith, sources-grew turn.source_failed old.sender.files went.0.sender.files went.1.source i, others.sources i);
    }
turns-grew confirm files _ _ st old new _ went = absurd went

-- ---- The truths

pub sink-true : (failed : Bool) (a b c : ℕ) → Tells failed a b → b ≤ c → ¬ Counted a c → failed ≡ false
sink-true true a b c counted_failure grew none = absurd (none (counted-on a b c counted_failure grew))
sink-true false a b c same grew none = refl

failed-counted : (at : ℕ) (old between new : List FileParts) → FailedAt at old between →
    ((i : ℕ) → (file_at between i).failures ≤ (file_at new i).failures) → Counted (file_at old at).failures (file_at new at).failures
failed-counted at old between new failed grew =
    let counts = failed-at at old between failed in
    counted-on (file_at old at).failures failed.failures (file_at new at).failures failed.counted_failure (omega (arith, counts, grew at))

pub source-true : (failed : Bool) (old between new : List FileParts) → IsSourceTruth failed old between →
    ((i : ℕ) → (file_at between i).failures ≤ (file_at new i).failures) →
    ((i : ℕ) → i < length old → ¬ Counted (file_at old i).failures (file_at new i).failures) → failed ≡ false
source-true true old between new truth grew none = absurd (none truth.0 truth.1.within (failed-counted truth.0 old between new truth.1 grew))
source-true false old between new truth grew none = refl

-- a count that rose behind a turn rose over the run
pub counted-behind : (a b c : ℕ) → a ≤ b → Counted b c → Counted a c
counted-behind a b c grew counted_failure = grind (arith, grew, counted_failure)

pub no-failure : (confirm : Confirm) (files : Batch) (rounds : List Round) (turns : List Turn) (st : State) (old new : Pair) (all : List Seen) →
    AreTurns confirm files st rounds turns old all new → NoneCounted old new → NoFailure turns
no-failure confirm files [] [] st old new [] went none = tt
no-failure confirm files (round ∷ rounds) (turn ∷ turns) st old new (seen ∷ all) went none =
    let between : Pair = went.0 in
    let later : State = after_turn (frames_of files) confirm turn st in
    let grew = turns-grew confirm files rounds turns later between new all went.2 in
    let sink_grew = tells-grew turn.sink_failed old.receiver.failures between.receiver.failures went.1.sink in
    let sources_grew = sources-grew turn.source_failed old.sender.files between.sender.files went.1.source in
    let long : length between.sender.files ≡ length old.sender.files = sources-long turn.source_failed old.sender.files between.sender.files went.1.source in (
      sink-true turn.sink_failed old.receiver.failures between.receiver.failures new.receiver.failures went.1.sink grew.sink none.sink,
      source-true turn.source_failed old.sender.files between.sender.files new.sender.files went.1.source grew.sources none.sources,
      no-failure confirm files rounds turns later between new all went.2 (record {
        sink = λ counted_failure. none.sink (counted-behind _ _ _ sink_grew counted_failure);
        sources = λ i below counted_failure. none.sources i (subst (λ n. i < n) long below) (counted-behind _ _ _ (sources_grew i) counted_failure);
      }),
    )
no-failure confirm files _ _ st old new _ went none = absurd went

-- ---- Whole rounds are whole turns

comes-whole : (delivery : Delivery) → is_none (came_of delivery) ≡ is_whole delivery
comes-whole Whole = refl
comes-whole _ = refl

pub whole-turn : (round : Round) (turn : Turn) → turn ≡ turn_of round turn.sink_failed turn.source_failed → machine.is_whole turn ≡ both_whole round
whole-turn round turn turn_is = ap machine.is_whole turn_is ∙ ap (λ back. is_whole round.there && back) (comes-whole round.back)

-- the turns are whole and bad where the rounds are
pub record SameTurns (rounds : List Round) (turns : List Turn) : Type 0 where
  pub long : length turns ≡ length rounds
  pub whole : machine.whole_turns turns ≡ whole_rounds rounds
  pub longest : (before : ℕ) → machine.longest_bad_run before turns ≡ longest_bad_run before rounds
  pub all_whole : AllWhole rounds → machine.AllWhole turns

pub same-turns : (confirm : Confirm) (files : Batch) (rounds : List Round) (turns : List Turn) (st : State) (old new : Pair) (all : List Seen) →
    AreTurns confirm files st rounds turns old all new → SameTurns rounds turns
same-turns confirm files [] [] st old new [] went = record { long = refl; whole = refl; longest = λ before. refl; all_whole = λ all. all }
same-turns confirm files (round ∷ rounds) (turn ∷ turns) st old new (seen ∷ all) went =
    let first : machine.is_whole turn ≡ both_whole round = whole-turn round turn went.1.turn_is in
    let others = same-turns confirm files rounds turns (after_turn (frames_of files) confirm turn st) went.0 new all went.2 in
    record {
      long = omega (arith, others.long);
      whole = rw (first, others.whole) refl;
      longest = λ before. rw (first, others.longest 0, others.longest (before + 1)) refl;
      all_whole = λ whole. (first ∙ whole.0, others.all_whole whole.1);
    }
same-turns confirm files _ _ st old new _ went = absurd went
