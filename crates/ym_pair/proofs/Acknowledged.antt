-- A sender goes past a frame only where it wrote it, and then read an ACK.
use Rattle.std.proofs.Common.{◌≡◌, ◌∙◌, ◌-◌, ◌<◌, slice_set, ◌⊎◌, inl, inr, ℕ, Bool, true, false, List, [], ◌∷◌, ◌++◌, length, Option, Some, IfSome, refl, sym, ap, subst, append_assoc, append-nil}
use Rattle.std.proofs.lemmas.Bool.{cases_eq}
use Rattle.std.proofs.lemmas.List.{length-map, get_or-set_same, get_or-set_other}
use Rattle.ym_pair.proofs.Names.{HeaderParts, Shape, Item, AreAcknowledged, block_positions, files_positions, positions_before, Spoke, spoke_in, spoke_along, count_at, IsFrameAt, SenderHears, sender_none, sender_more, Tape, controls_in, SenderParts, IsSender, IsStep, IsFilled, counts, spoken, written_for, FileParts, file_at, hears, Position, Header, Block, Eot, End, Sent, Standing, Running, Finished}
use Rattle.ym_header.specs.Text.{text}
use Rattle.ym_file.specs.Plan.{piece_at, size_at}
use Rattle.ym_frame.specs.declared.frame.Item.TheVariants as item
use Rattle.ym_pair.specs.AnyPeer.{batch_positions}
use Rattle.ym_core.specs.Position.{first_of, done_at}
use Rattle.ym_link.specs.FrameAt.{IsItemAt}
use Rattle.ym_link.specs.SendOver.{Outcome, Sends, heard}
use Rattle.ym_file.specs.SourceFile.{filled, no_file}
use Rattle.ym_core.specs.Standing.{new_standing}
use Rattle.ym_link.specs.Moves.{IsBefore}
use Rattle.ym_pair.proofs.PositionsBefore.{before-next}
use Rattle.ym_pair.proofs.SenderLaws.{SenderLaws}

-- ---- The files, apart from their counts

record SameFile (old new : FileParts) : Type 0 where
  header : new.header ≡ old.header
  bytes : new.bytes ≡ old.bytes

abbrev SameFiles : List FileParts → List FileParts → Type 0
SameFiles old new = (i : ℕ) → SameFile (file_at old i) (file_at new i)

same-file : (old new : FileParts) → new ≡ old → SameFile old new
same-file old new same = record { header = ap (λ (f : FileParts). f.header) same; bytes = ap (λ (f : FileParts). f.bytes) same }

-- one file was changed, and only in its counts
changed-files : (at : ℕ) (changed : FileParts) (old new : List FileParts) → at < length old → new ≡ slice_set old at changed → SameFile (file_at old at) changed → SameFiles old new
changed-files at changed old new within after same_file i = elim (cases_eq i at) [
  | inl same ↦
      let set_is : file_at new at ≡ changed = ap (λ l. file_at l at) after ∙ get_or-set_same old at _ no_file within in
      rw (same, set_is) same_file
  | inr other ↦ same-file (file_at old i) (file_at new i) (ap (λ l. file_at l i) after ∙ get_or-set_other old at i _ no_file other)
]

filled-same : (failed : Bool) (fills : Option Position) (old new : List FileParts) → IsFilled failed fills old new → SameFiles old new
filled-same false (Some (Block file k)) old new asked = changed-files file (filled (file_at old file)) old new asked.within asked.after (record { header = refl; bytes = refl })
filled-same true (Some (Block file k)) old new failed =
    changed-files file (record (filled (file_at old file)) { failures = failed.failures }) old new failed.within failed.after (record { header = refl; bytes = refl })
filled-same false _ old new same = λ i. same-file (file_at old i) (file_at new i) (ap (λ l. file_at l i) same)
filled-same true _ old new failed = absurd failed

item-same : (shape : Shape) (old new : List FileParts) (position : Position) (i : Item) → SameFiles old new → IsItemAt shape new position i → IsItemAt shape old position i
item-same shape old new (Header file) i same is = is ∙ ap (λ (h : HeaderParts). item.Block (record { number = 0; body = text h })) (same file).header
item-same shape old new (Block file k) i same is = (
  is.0,
  is.1,
  record {
    number = is.2.number;
    size = is.2.size ∙ ap (λ (h : HeaderParts). size_at shape h.length k) (same file).header;
    body = subst (λ (bytes : Option (List ℕ)). IfSome bytes (λ all. is.0.body ≡ piece_at shape all k)) (same file).bytes is.2.body;
  },
)
item-same shape old new _ i same is = is

frame-same : (shape late : Shape) (old new : List FileParts) (position : Position) (bytes : List ℕ) → late ≡ shape → SameFiles old new → IsFrameAt late new position bytes → IsFrameAt shape old position bytes
frame-same shape late old new position bytes shape_is same is =
    record { item = is.item; there = item-same shape old new position is.item same (rw shape_is at is.there); frame = is.frame }

acknowledged-same : (shape late : Shape) (old new : List FileParts) (positions : List Position) (all : List Spoke) → late ≡ shape → SameFiles old new →
    AreAcknowledged late new positions all → AreAcknowledged shape old positions all
acknowledged-same shape late old new [] all shape_is same are = tt
acknowledged-same shape late old new (position ∷ positions) [] shape_is same are = absurd are
acknowledged-same shape late old new (position ∷ positions) (one ∷ all) shape_is same (inl here) =
    inl (frame-same shape late old new position one.wrote shape_is same here.0, here.1, acknowledged-same shape late old new positions all shape_is same here.2)
acknowledged-same shape late old new (position ∷ positions) (one ∷ all) shape_is same (inr later) = inr (acknowledged-same shape late old new (position ∷ positions) all shape_is same later)

acknowledged-skip : (shape : Shape) (files : List FileParts) (positions : List Position) (one : Spoke) (all : List Spoke) → AreAcknowledged shape files positions all → AreAcknowledged shape files positions (one ∷ all)
acknowledged-skip shape files [] one all are = tt
acknowledged-skip shape files (position ∷ positions) one all are = inr are

acknowledged-prefix : (shape : Shape) (files : List FileParts) (prefix more : List Position) (all : List Spoke) → AreAcknowledged shape files (prefix ++ more) all → AreAcknowledged shape files prefix all
acknowledged-prefix shape files [] more all are = tt
acknowledged-prefix shape files (position ∷ prefix) more [] are = absurd are
acknowledged-prefix shape files (position ∷ prefix) more (one ∷ all) (inl here) = inl (here.0, here.1, acknowledged-prefix shape files prefix more all here.2)
acknowledged-prefix shape files (position ∷ prefix) more (one ∷ all) (inr later) = inr (acknowledged-prefix shape files (position ∷ prefix) more all later)

acknowledged-behind : (shape : Shape) (files : List FileParts) (positions : List Position) (prefix all : List Spoke) → AreAcknowledged shape files positions all → AreAcknowledged shape files positions (prefix ++ all)
acknowledged-behind shape files positions [] all are = are
acknowledged-behind shape files positions (one ∷ prefix) all are = acknowledged-skip shape files positions one (prefix ++ all) (acknowledged-behind shape files positions prefix all are)

acknowledged-append : (shape : Shape) (files : List FileParts) (first later : List Position) (prefix all : List Spoke) → AreAcknowledged shape files first prefix → AreAcknowledged shape files later all →
    AreAcknowledged shape files (first ++ later) (prefix ++ all)
acknowledged-append shape files [] later prefix all are rest = acknowledged-behind shape files later prefix all rest
acknowledged-append shape files (position ∷ first) later [] all are rest = absurd are
acknowledged-append shape files (position ∷ first) later (one ∷ prefix) all (inl here) rest = inl (here.0, here.1, acknowledged-append shape files first later prefix all here.2 rest)
acknowledged-append shape files (position ∷ first) later (one ∷ prefix) all (inr behind) rest = inr (acknowledged-append shape files (position ∷ first) later prefix all behind rest)

-- ---- A run

-- Where it has finished: it has heard nothing, or the end block was acknowledged behind the frames passed.
record Ends (s : SenderParts) (all : List Spoke) (new : SenderParts) (more : List Position) : Type 0 where
  position : new.standing.position ≡ End
  acknowledged : AreAcknowledged s.shape s.files (more ++ End ∷ []) all

abbrev EndsOr : SenderParts → List Spoke → SenderParts → List Position → Type 0
EndsOr s all new more = ((new ≡ s) × (more ≡ [])) ⊎ Ends s all new more

-- of what the sender wrote and heard from the one to the other: the frames passed, in order, and the files are the same
record Passes (s : SenderParts) (all : List Spoke) (new : SenderParts) : Type 0 where
  more : List Position
  finished : new.standing.state ≡ Finished → EndsOr s all new more
  acknowledged : AreAcknowledged s.shape s.files more all
  before : positions_before (counts s) new.standing.position ≡ positions_before (counts s) s.standing.position ++ more
  shape : new.shape ≡ s.shape
  same : SameFiles s.files new.files
  counted : counts new ≡ counts s

passes-none : (s : SenderParts) → Passes s [] s
passes-none s = record {
  more = [];
  finished = λ over. inl (refl, refl);
  acknowledged = tt;
  before = sym (append-nil (positions_before (counts s) s.standing.position));
  shape = refl;
  same = λ i. record { header = refl; bytes = refl };
  counted = refl;
}

passes-one : SenderLaws → (s new : SenderParts) (one : Spoke) (failed : Bool) → IsSender s → s.standing.state ≡ Running → one.wrote ≡ written_for (spoken s) →
    IsStep s (hears (counts s) s.standing (controls_in one.came)) failed new → Passes s (one ∷ []) new
passes-one laws s new one failed is on wrote step =
    let fills : Option Position = (hears (counts s) s.standing (controls_in one.came)).fills in
    let same_files : SameFiles s.files new.files = filled-same failed fills s.files new.files step.files in
    let counts_same : counts new ≡ counts s = laws.counts s _ failed new step in
    let held : s.standing.mode ≡ Sent → IsFrameAt s.shape s.files s.standing.position one.wrote = λ sent. rw (wrote, on, sent) (is.frame on sent) in
    elim (laws.goes s (controls_in one.came) failed new on step) [
      | inl stayed ↦ record {
        more = [];
        finished = λ over.
            let at = laws.finishes s (controls_in one.came) failed new on step over in
            inr (record { position = at.after; acknowledged = inl (rw at.position at (held at.mode), at.ack, tt) });
        acknowledged = tt;
        before = ap (positions_before (counts s)) stayed ∙ sym (append-nil (positions_before (counts s) s.standing.position));
        shape = step.shape;
        same = same_files;
        counted = counts_same;
      }
      | inr moved ↦ record {
        more = s.standing.position ∷ [];
        finished = λ over. absurd (subst IsBefore (laws.finishes s (controls_in one.came) failed new on step over).position moved.1);
        acknowledged = inl (held moved.0, moved.2, tt);
        before = ap (positions_before (counts s)) moved.3 ∙ sym (before-next (counts s) s.standing.position is.position moved.1);
        shape = step.shape;
        same = same_files;
        counted = counts_same;
      }
    ]

ends-early : (s between new : SenderParts) (first later : List Spoke) (one more : List Position) → new ≡ between → more ≡ [] → EndsOr s first between one → EndsOr s (first ++ later) new (one ++ more)
ends-early s between new first later one more same none (inl early) = inl (same ∙ early.0, rw early.1 none)
ends-early s between new first later one more same none (inr ends) =
    inr (record {
      position = ap (λ (x : SenderParts). x.standing.position) same ∙ ends.position;
      acknowledged = rw (none, append-nil one) (rw (append-nil (one ++ End ∷ [])) at (acknowledged-append s.shape s.files (one ++ End ∷ []) [] first later ends.acknowledged tt));
    })

ends-then : (s between new : SenderParts) (first later : List Spoke) (one : Passes s first between) (more : List Position) → new.standing.state ≡ Finished → EndsOr between later new more →
    EndsOr s (first ++ later) new (one.more ++ more)
ends-then s between new first later one more over (inl early) =
    ends-early s between new first later one.more more early.0 early.1 (one.finished (rw early.0 at over))
ends-then s between new first later one more over (inr ends) =
    let rest = acknowledged-same s.shape between.shape s.files between.files (more ++ End ∷ []) later one.shape one.same ends.acknowledged in
    inr (record { position = ends.position; acknowledged = rw append_assoc (acknowledged-append s.shape s.files one.more (more ++ End ∷ []) first later one.acknowledged rest) })

passes-then : (s between new : SenderParts) (first later : List Spoke) → Passes s first between → Passes between later new → Passes s (first ++ later) new
passes-then s between new first later one rest =
    let behind = subst (λ c. positions_before c new.standing.position ≡ positions_before c between.standing.position ++ rest.more) one.counted rest.before in
    record {
      more = one.more ++ rest.more;
      finished = λ over. ends-then s between new first later one rest.more over (rest.finished over);
      acknowledged = acknowledged-append s.shape s.files one.more rest.more first later one.acknowledged
          (acknowledged-same s.shape between.shape s.files between.files rest.more later one.shape one.same rest.acknowledged);
      before = behind ∙ (ap (λ prefix. prefix ++ rest.more) one.before ∙ append_assoc (positions_before (counts s) s.standing.position) one.more rest.more);
      shape = rest.shape ∙ one.shape;
      same = λ i. record { header = (rest.same i).header ∙ (one.same i).header; bytes = (rest.same i).bytes ∙ (one.same i).bytes };
      counted = rest.counted ∙ one.counted;
    }

passes : SenderLaws → (s : SenderParts) (t : Tape) (out : Outcome) (run : Sends s t out) → Passes s (spoke_in s t out run) out.sender
passes laws s t out (heard _ _ bytes new _ is on some gives later) =
    let one : Spoke = record { wrote = written_for (spoken s); came = bytes } in
    passes-then s new out.sender (one ∷ []) (spoke_in new _ out later) (passes-one laws s new one gives.0 is on refl gives.1) (passes laws new _ out later)
passes laws s t out _ = passes-none s

passes-along : SenderLaws → (s : SenderParts) (deliveries : List (List ℕ)) (progress : ℕ) (new : SenderParts) (hears : SenderHears s deliveries progress new) → Passes s (spoke_along s deliveries progress new hears) new
passes-along laws s deliveries progress new (sender_none _) = passes-none s
passes-along laws s deliveries progress new (sender_more _ before steps between bytes _ hears is on short gives) =
    let one : Spoke = record { wrote = written_for (spoken between); came = bytes } in
    passes-then s between new (spoke_along s before steps between hears) (one ∷ []) (passes-along laws s before steps between hears) (passes-one laws between new one gives.0 is on refl gives.1)

-- ---- From the first place on

none-before : (counts : List ℕ) → positions_before counts (first_of counts) ≡ []
none-before [] = refl
none-before (count ∷ more) = refl

-- the frames of the files that are done are in front
done-prefix : (counts : List ℕ) (files : ℕ) (position : Position) → files ≡ length counts → (more : List Position) × (positions_before counts position ≡ files_positions counts (done_at files position) ++ more)
done-prefix counts files (Header file) same = ([], sym (append-nil (files_positions counts file)))
done-prefix counts files (Block file k) same = (Header file ∷ block_positions file (k - 1), refl)
done-prefix counts files (Eot file) same = (Header file ∷ block_positions file (count_at counts file), refl)
done-prefix counts files End same = ([], ap (files_positions counts) (sym same) ∙ sym (append-nil (files_positions counts files)))

passed-before : (s new : SenderParts) (all : List Spoke) → s.standing ≡ new_standing (counts s) → Passes s all new → AreAcknowledged s.shape s.files (positions_before (counts s) new.standing.position) all
passed-before s new all fresh passed =
    let first : positions_before (counts s) s.standing.position ≡ [] = ap (λ (x : Standing). positions_before (counts s) x.position) fresh ∙ none-before (counts s) in
    rw (passed.before, first) passed.acknowledged

passed-done : (s new : SenderParts) (all : List Spoke) → s.standing ≡ new_standing (counts s) → Passes s all new →
    AreAcknowledged s.shape s.files (files_positions (counts s) (done_at (length s.files) new.standing.position)) all
passed-done s new all fresh passed =
    let prefix = done-prefix (counts s) (length s.files) new.standing.position (sym (length-map s.files _)) in
    acknowledged-prefix s.shape s.files (files_positions (counts s) (done_at (length s.files) new.standing.position)) prefix.0 all
    (rw prefix.1 at (passed-before s new all fresh passed))

passed-all : (s new : SenderParts) (all : List Spoke) → s.standing ≡ new_standing (counts s) → new.standing.state ≡ Finished → Passes s all new → AreAcknowledged s.shape s.files (batch_positions (counts s)) all
passed-all s new all fresh over passed = elim (passed.finished over) [
  | inl none ↦ let clash : Finished ≡ Running = sym over ∙ (ap (λ (x : SenderParts). x.standing.state) none.0 ∙ ap (λ (x : Standing). x.state) fresh) in absurd (cc)
  | inr ends ↦
      let first : positions_before (counts s) s.standing.position ≡ [] = ap (λ (x : Standing). positions_before (counts s) x.position) fresh ∙ none-before (counts s) in
      let whole : files_positions (counts s) (length (counts s)) ≡ passed.more = ap (positions_before (counts s)) (sym ends.position) ∙ (passed.before ∙ ap (λ prefix. prefix ++ passed.more) first) in
      subst (λ positions. AreAcknowledged s.shape s.files positions all) (ap (λ prefix. prefix ++ End ∷ []) (sym whole)) ends.acknowledged
]

pub all-before : SenderLaws → (s : SenderParts) (t : Tape) (out : Outcome) (run : Sends s t out) → s.standing ≡ new_standing (counts s) →
    AreAcknowledged s.shape s.files (positions_before (counts s) out.sender.standing.position) (spoke_in s t out run)
all-before laws s t out run fresh = passed-before s out.sender (spoke_in s t out run) fresh (passes laws s t out run)

pub all-done : SenderLaws → (s : SenderParts) (t : Tape) (out : Outcome) (run : Sends s t out) → s.standing ≡ new_standing (counts s) →
    AreAcknowledged s.shape s.files (files_positions (counts s) (done_at (length s.files) out.sender.standing.position)) (spoke_in s t out run)
all-done laws s t out run fresh = passed-done s out.sender (spoke_in s t out run) fresh (passes laws s t out run)

pub history-done : SenderLaws → (s new : SenderParts) (deliveries : List (List ℕ)) (progress : ℕ) (hears : SenderHears s deliveries progress new) → s.standing ≡ new_standing (counts s) →
    AreAcknowledged s.shape s.files (files_positions (counts s) (done_at (length s.files) new.standing.position)) (spoke_along s deliveries progress new hears)
history-done laws s new deliveries progress hears fresh = passed-done s new (spoke_along s deliveries progress new hears) fresh (passes-along laws s deliveries progress new hears)

pub all-finished : SenderLaws → (s : SenderParts) (t : Tape) (out : Outcome) (run : Sends s t out) → s.standing ≡ new_standing (counts s) → out.sender.standing.state ≡ Finished →
    AreAcknowledged s.shape s.files (batch_positions (counts s)) (spoke_in s t out run)
all-finished laws s t out run fresh over = passed-all s out.sender (spoke_in s t out run) fresh over (passes laws s t out run)

pub history-finished : SenderLaws → (s new : SenderParts) (deliveries : List (List ℕ)) (progress : ℕ) (hears : SenderHears s deliveries progress new) → s.standing ≡ new_standing (counts s) → new.standing.state ≡ Finished →
    AreAcknowledged s.shape s.files (batch_positions (counts s)) (spoke_along s deliveries progress new hears)
history-finished laws s new deliveries progress hears fresh over = passed-all s new (spoke_along s deliveries progress new hears) fresh over (passes-along laws s deliveries progress new hears)
