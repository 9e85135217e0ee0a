-- A sender with its files, where it stands.
use Rattle.std.proofs.Common.{ℕ, ◌+◌, ◌%◌, ◌≡◌, suc, zero, List, [], ◌∷◌, length, get_or, Bool, true, false, refl, sym, ap, ap₂, ◌∙◌, arith, Option, None, Some}
use Rattle.std.specs.Prelude.{All, IfSome, IsSome, slice_set}
use Rattle.std.specs.List.{AllZip}
use Rattle.std.proofs.lemmas.List.{length-map, length-replicate}
use Rattle.std.proofs.lemmas.List.Elements.{All-head, All-tail}
use Rattle.ym_link.proofs.Names.{IsFrame, Item, HeaderParts, text, raised, Shape, piece_at, EotFrame, frames_of, frame_at, body_at, count_within, State, SenderEnd, start, said_by, sender_step, IsRemnant, Position, Block, FileParts, IsFile, file_at, blocks_of, counts_of, first_of, done_at, IsItemAt, IsFrameAt, controls_in, hears, SenderParts, IsSender, IsStep, IsFilled, counts, spoken, item_of, Batch, counts_in, position_from, position_at, state_of, mode_of, cancel_pending_of}
use Rattle.ym_frame.specs.declared.frame.Item.TheVariants as item
use Rattle.ym_file.specs.Plan.{pieces_of, count_of}
use Rattle.ym_machine.specs.State.{said}
use Rattle.ym_core.specs.Standing.{new_standing}
use Rattle.ym_link.specs.Sender.{spoken_in}
use Rattle.ym_link.specs.SenderRefines.{IsFileOf, told_pieces, batch_of, SenderRefines, IsSaid, AllTold}
use Rattle.ym_link.proofs.SenderPositions.{below, equal, above, ordered, position_block, position_eot, position_rest, in_blocks, behind_blocks, body_is, counts_length, done_is}
use Rattle.ym_link.proofs.SenderSteps.{half_back}

abbrev Are : Shape → List FileParts → Batch → Type 0
Are shape sources files = AllZip (IsFileOf shape) sources files

counts_are : (shape : Shape) (sources : List FileParts) (files : Batch) → Are shape sources files → counts_of shape sources ≡ counts_in files
counts_are shape [] [] are = refl
counts_are shape (source ∷ sources) (file ∷ files) are = ap₂ (λ (k : ℕ) (ks : List ℕ). k ∷ ks) (sym are.0.count) (counts_are shape sources files are.1)
counts_are shape _ _ are = absurd are

-- ---- Hearing

-- how often a source was asked, or failed, does not matter
set_are : (shape : Shape) (sources : List FileParts) (files : Batch) (i n m : ℕ) → Are shape sources files → Are shape (slice_set sources i (record (file_at sources i) { failures = n; fills = m })) files
set_are shape [] [] i n m are = tt
set_are shape (source ∷ sources) (file ∷ files) zero n m are = (record { header = are.0.header; count = are.0.count; pieces = are.0.pieces }, are.1)
set_are shape (source ∷ sources) (file ∷ files) (suc i) n m are = (are.0, set_are shape sources files i n m are.1)
set_are shape _ _ i n m are = absurd are

still_are : (shape : Shape) (failed : Bool) (fills : Option Position) (old new : List FileParts) (files : Batch) → IsFilled failed fills old new → Are shape old files → Are shape new files
still_are shape false (Some (Block file k)) old new files filled are = rw filled.after (set_are shape old files file (file_at old file).failures (raised (file_at old file).fills) are)
still_are shape false _ old new files filled are = rw filled are
still_are shape true (Some (Block file k)) old new files filled are = rw filled.after (set_are shape old files file filled.failures (raised (file_at old file).fills) are)
still_are shape true _ old new files filled are = absurd filled

pub follows : (files : Batch) (st : State) (old new : SenderParts) (bytes : List ℕ) (failed : Bool) → SenderRefines files st old → IsRemnant (controls_in bytes)
    → IsStep old (hears (counts old) old.standing (controls_in bytes)) failed new → SenderRefines files (sender_step (frames_of files) failed (controls_in bytes) st) new
follows files st old new bytes failed refines remnant given =
    let took = rw (counts_are old.shape old.files files refines.batch) at given in
    record {
      standing = rw took.standing (half_back files st old.standing failed (controls_in bytes) refines.standing remnant);
      batch = rw took.shape (still_are old.shape failed (hears (counts_in files) old.standing (controls_in bytes)).fills old.files new.files files took.files refines.batch);
    }

-- ---- What it says

told_body : (shape : Shape) (n : ℕ) (body : List ℕ) (pieces : List (List ℕ)) (bytes : Option (List ℕ)) → IsSome bytes → IfSome bytes (λ all. pieces ≡ pieces_of shape all)
    → IfSome bytes (λ all. body ≡ piece_at shape all (n + 1)) → body ≡ body_at n pieces
told_body shape n body pieces None told are is = absurd cc
told_body shape n body pieces (Some all) told are is = rw (is, are, body_is) (ap (λ i. get_or (pieces_of shape all) i []) (omega arith))

item_from : (shape : Shape) (all : List FileParts) (i : ℕ) (sources : List FileParts) (files : Batch) (n : ℕ) (it : Item) → ((j : ℕ) → file_at all (i + j) ≡ file_at sources j) → Are shape sources files
    → AllTold sources → IsItemAt shape all (position_from i files n) it → it ≡ item_of (frame_at (frames_of files) n)
item_from shape all i [] [] zero it here are told is = is
item_from shape all i [] [] (suc n) it here are told is = is
item_from shape all i (source ∷ sources) (file ∷ files) zero it here are told is =
    is ∙ ap (λ (h : HeaderParts). item.Block (record { number = 0; body = text h })) (ap (λ (f : FileParts). f.header) (ap (file_at all) (omega arith) ∙ here 0) ∙ sym are.0.header)
item_from shape all i (source ∷ sources) (file ∷ files) (suc n) it here are told is =
    let rest : (j : ℕ) → file_at all (i + 1 + j) ≡ file_at sources j = λ j. ap (file_at all) (omega arith) ∙ here (suc j) in
    let first : file_at all i ≡ source = ap (file_at all) (omega arith) ∙ here 0 in
    elim (ordered n (length file.pieces)) [
      | below h ↦
          let block = rw (position_block i file files n h) at is in
          let of = rw first at block.2 in
          let number : block.0.number ≡ (1 + n) % 256 = of.number ∙ ap (λ k. k % 256) (omega arith) in
          let body = told_body shape n block.0.body file.pieces source.bytes (All-head (λ (f : FileParts). IsSome f.bytes) source sources told) are.0.pieces of.body in
          rw (in_blocks 1 n file.pieces (EotFrame ∷ frames_of files) h, block.1, ← number, ← body) refl
      | equal h ↦ rw (behind_blocks 1 0 n file.pieces (EotFrame ∷ frames_of files) (omega (arith, h))) (rw (position_eot i file files n h) at is)
      | above m h ↦
          let told = All-tail (λ (f : FileParts). IsSome f.bytes) source sources told in
          rw (behind_blocks 1 (suc m) n file.pieces (EotFrame ∷ frames_of files) (omega (arith, h))) (item_from shape all (i + 1) sources files m it rest are.1 told (rw (position_rest i file files n m h) at is))
    ]
item_from shape all i _ _ n it here are told is = absurd are

pub says : (files : Batch) (st : State) (s : SenderParts) → SenderRefines files st s → IsSender s → AllTold s.files → IsSaid files (said st) (spoken s)
says files st s refines sender told = rw (refines.standing.state, refines.standing.cancel_pending) (by st.sender refl st.sent refl st.cancel_pending)
  where
    frame : IsFrameAt s.shape s.files s.standing.position s.frame → IsFrame (item_of (frame_at (frames_of files) st.acknowledged)) s.frame
    frame at = rw (← item_from s.shape s.files 0 s.files files st.acknowledged at.item (λ j. ap (file_at s.files) (omega arith)) refines.batch told (rw refines.standing.position at at.there)) at.frame

    by : (e : SenderEnd) → st.sender ≡ e → (sent : Bool) → st.sent ≡ sent → (f : Bool) → IsSaid files (said_by e sent f st.acknowledged) (spoken_in (state_of e) s.standing.mode (cancel_pending_of e f) s.frame)
    by SenderEnd.Running is true sent f =
        let mode = refines.standing.mode is ∙ ap mode_of sent in
        rw mode (s.frame, refl, frame (sender.frame (refines.standing.state ∙ ap state_of is) mode))
    by SenderEnd.Running is false sent f = rw (refines.standing.mode is ∙ ap mode_of sent) refl
    by SenderEnd.NoReply is _ sent true = refl
    by SenderEnd.NoReply is _ sent false = refl
    by SenderEnd.SourceFailed is _ sent true = refl
    by SenderEnd.SourceFailed is _ sent false = refl
    by _ is _ sent f = refl

-- ---- A new sender

first_is : (files : Batch) → first_of (counts_in files) ≡ position_at files 0
first_is [] = refl
first_is (file ∷ files) = refl

pub starts : (shape : Shape) (sources : List FileParts) (files : Batch) (frame : List ℕ) → Are shape sources files
    → SenderRefines files start (record { standing = new_standing (counts_of shape sources); shape = shape; files = sources; frame = frame })
starts shape sources files frame are = record { standing = record { state = refl; cancel_pending = refl; position = rw (counts_are shape sources files are) (first_is files); mode = λ _. refl; retries = λ _. refl }; batch = are }

-- ---- What is done

pub done_refines : (files : Batch) (st : State) (s : SenderParts) → SenderRefines files st s → done_at (length s.files) s.standing.position ≡ count_within files st.acknowledged
done_refines files st s refines =
    let lengths : length s.files ≡ length files =
    sym (length-map s.files (blocks_of s.shape)) ∙ (ap length (counts_are s.shape s.files files refines.batch) ∙ counts_length files) in
    rw (lengths, refines.standing.position) (done_is files st.acknowledged)

-- ---- The machine's batch of a sender's files

module _ (shape : Shape) (counted : (file : List ℕ) → length (pieces_of shape file) ≡ count_of shape (length file)) where
  count_is : (len : ℕ) (bytes : Option (List ℕ)) → IfSome bytes (λ all. length all ≡ len) → length (told_pieces shape (count_of shape len) bytes) ≡ count_of shape len
  count_is len None told = length-replicate (count_of shape len) []
  count_is len (Some all) told = counted all ∙ ap (count_of shape) told

  pieces_are : (count : ℕ) (bytes : Option (List ℕ)) → IfSome bytes (λ all. told_pieces shape count bytes ≡ pieces_of shape all)
  pieces_are count None = tt
  pieces_are count (Some all) = refl

  pub batch_are : (sources : List FileParts) → All IsFile sources → Are shape sources (batch_of shape sources)
  batch_are [] all = tt
  batch_are (source ∷ sources) all =
      let one = All-head IsFile source sources all in (
        record { header = refl; count = count_is source.header.length source.bytes one.bytes; pieces = pieces_are (blocks_of shape source) source.bytes },
        batch_are sources (All-tail IsFile source sources all),
      )
