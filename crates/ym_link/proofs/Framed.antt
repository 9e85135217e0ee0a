-- The frame of a data block.
use Rattle.std.proofs.Common.{ℕ, ◌≡◌, List, take, Option, Result, Ok, Err, refl, ap, sym, ◌∙◌, subst}
use Rattle.std.specs.Prelude.{IfSome, IfOk}
use Rattle.ym_link.proofs.Names.{BlockParts, IsFrame, Shape, piece_at, FileParts, file_at, HeaderParts, text, IsItemAt, IsFrameAt, Position}
use Rattle.ym_frame.specs.declared.frame.Item.TheVariants.{Block}
use Rattle.ym_file.specs.Plan.{size_at}
use Rattle.ym_file.specs.declared.source.SourceFault.{SourceFault}
use Rattle.ym_file.specs.SourceFile.{IsBlockOf}
use Rattle.ym_core.specs.declared.position.Position.TheVariants as position

-- a block of a file is one of any file with its header and bytes
pub frame_of_same : (shape : Shape) (old new : FileParts) (k : ℕ) (r : Result ℕ SourceFault) (buffer : List ℕ) → new.header ≡ old.header → new.bytes ≡ old.bytes
    → IfOk r (λ len. (block : BlockParts) × IsBlockOf shape old k block × IsFrame (Block block) (take len buffer))
    → IfOk r (λ len. (block : BlockParts) × IsBlockOf shape new k block × IsFrame (Block block) (take len buffer))
frame_of_same shape old new k (Ok len) buffer header bytes made = (
  made.0,
  record {
    number = made.1.number;
    size = made.1.size ∙ ap (λ (h : HeaderParts). size_at shape h.length k) (sym header);
    body = subst (λ (b : Option (List ℕ)). IfSome b (λ all. made.0.body ≡ piece_at shape all k)) (sym bytes) made.1.body;
  },
  made.2,
)
frame_of_same shape old new k (Err fault) buffer header bytes made = tt

-- the frame of a file's block is that of its place in the batch
pub block_frame_at : (shape : Shape) (files : List FileParts) (file k : ℕ) (p : Position) → p ≡ position.Block file k → (one : FileParts) → one ≡ file_at files file → (r : Result ℕ SourceFault) (buffer : List ℕ)
    → IfOk r (λ len. (block : BlockParts) × IsBlockOf shape one k block × IsFrame (Block block) (take len buffer))
    → IfOk r (λ len. IsFrameAt shape files p (take len buffer))
block_frame_at shape files file k p is one same (Ok len) buffer made =
    subst (λ (q : Position). IsFrameAt shape files q (take len buffer)) (sym is)
    (record { item = Block made.0; there = (made.0, refl, subst (λ (f : FileParts). IsBlockOf shape f k made.0) same made.1); frame = made.2 })
block_frame_at shape files file k p is one same (Err fault) buffer made = tt

-- the block 0 of a file is the item of its place in the batch
pub header_item_at : (shape : Shape) (files : List FileParts) (file : ℕ) (p : Position) → p ≡ position.Header file → (block : BlockParts) → block ≡ record { number = 0; body = text (file_at files file).header } → IsItemAt shape files p (Block block)
header_item_at shape files file p is block same = subst (λ (q : Position). IsItemAt shape files q (Block block)) (sym is) (ap Block same)
