-- The frame that a source's fill made is that of the file's block.
use Rattle.std.proofs.Common.{ℕ, ◌+◌, ◌/◌, ◌%◌, ◌≡◌, inl, inr, List, [], ◌∷◌, length, take, Option, None, Some, Result, Ok, Err, refl, ap, ◌∙◌, arith}
use Rattle.std.specs.Prelude.{IfSome, IfOk}
use Rattle.std.proofs.lemmas.List.{length-append}
use Rattle.ym_frame.specs.Block.{BlockParts}
use Rattle.ym_frame.specs.Frame.{IsFrame, block_frame}
use Rattle.ym_frame.specs.Check.{check_of}
use Rattle.ym_frame.specs.declared.frame.Item.TheVariants.{Block}
use Rattle.ym_file.specs.declared.plan.Shape.{Shape}
use Rattle.ym_file.specs.Plan.{piece_at, size_at}
use Rattle.ym_file.specs.declared.source.SourceFault.{SourceFault}
use Rattle.ym_file.specs.SourceFile.{FileParts, IsBlockOf}

block_frame_length : (first : ℕ) (b : BlockParts) → length (block_frame first b) ≡ length b.body + 5
block_frame_length first b = let h = length-append b.body (check_of b.body / 256 ∷ check_of b.body % 256 ∷ []) in omega (arith, h)

-- the frame of a block has 5 bytes more than its body
pub frame_length : (b : BlockParts) (bytes : List ℕ) → IsFrame (Block b) bytes → length bytes ≡ length b.body + 5
frame_length b bytes (inl h) = ap length h.1 ∙ block_frame_length 0x01 b
frame_length b bytes (inr h) = ap length h.1 ∙ block_frame_length 0x02 b

-- The frame that a source's fill made is that of the file's block, and fits a buffer of 1029 bytes.
module _ (shape : Shape) (file : FileParts) (k : ℕ) where
  framed_by : (known : Option (List ℕ)) → file.bytes ≡ known → (bytes body : List ℕ) → length body ≡ size_at shape file.header.length k → IsFrame (Block (record { number = k % 256; body = body })) bytes
      → IfSome known (λ all. IsFrame (Block (record { number = k % 256; body = piece_at shape all k })) bytes)
      → (block : BlockParts) × IsBlockOf shape file k block × IsFrame (Block block) bytes
  framed_by None is bytes body size frame told = (record { number = k % 256; body = body }, record { number = refl; size = size; body = rw is tt }, frame)
  framed_by (Some all) is bytes body size frame told =
      let piece : BlockParts = record { number = k % 256; body = piece_at shape all k } in
      let a = frame_length (record { number = k % 256; body = body }) bytes frame in
      let b = frame_length piece bytes told in
      (piece, record { number = refl; size = omega (arith, a, b, size); body = rw is refl }, told)

  pub framed : (size : ℕ) (bytes : Option (List ℕ)) → size ≡ file.header.length → bytes ≡ file.bytes → (r : Result ℕ SourceFault) (buffer : List ℕ)
      → IfOk r (λ len. (body : List ℕ) × (length body ≡ size_at shape size k) × IsFrame (Block (record { number = k % 256; body = body })) (take len buffer))
      → IfOk r (λ len. IfSome bytes (λ all. IsFrame (Block (record { number = k % 256; body = piece_at shape all k })) (take len buffer)))
      → IfOk r (λ len. (block : BlockParts) × IsBlockOf shape file k block × IsFrame (Block block) (take len buffer))
  framed size bytes same known (Ok len) buffer made told =
      framed_by file.bytes refl (take len buffer) made.0 (made.1 ∙ ap (λ n. size_at shape n k) same) made.2 (rw known at told)
  framed size bytes same known (Err fault) buffer made told = tt
