-- A file of a batch, as contracts see it, and the data blocks that it is sent in.
use Rattle.std.specs.Prelude.{◌≡◌, ℕ, ◌%◌, List, [], Option, None, IfSome, length, map, slice_index_or}
use Rattle.ym_frame.specs.Block.{BlockParts}
use Rattle.ym_header.specs.declared.stamp.Stamp.TheVariants.{Nothing}
use Rattle.ym_header.specs.Header.{HeaderParts, IsHeader, length_limit}
use Rattle.ym_file.specs.Counts.{raised}
use Rattle.ym_file.specs.declared.plan.Shape.{Shape}
use Rattle.ym_file.specs.Plan.{count_of, piece_at, size_at}

-- the header, the source's bytes where they are known, how often the source failed, and how often
-- it was asked to fill
pub record FileParts : Type 0 where
  pub header : HeaderParts
  pub bytes : Option (List ℕ)
  pub failures : ℕ
  pub fills : ℕ

-- the header is within its limits, and the bytes are as many as it says
pub record IsFile (file : FileParts) : Type 0 where
  pub header : IsHeader length_limit file.header
  pub bytes : IfSome file.bytes (λ all. length all ≡ file.header.length)

-- how many data blocks it is sent in
abbrev pub blocks_of : Shape → FileParts → ℕ
blocks_of shape file = count_of shape file.header.length

-- Data block k of a file, counted from 1. Where the source does not tell its bytes, the number and
-- the size of the body are still known.
pub record IsBlockOf (shape : Shape) (file : FileParts) (k : ℕ) (block : BlockParts) : Type 0 where
  pub number : block.number ≡ k % 256
  pub size : length block.body ≡ size_at shape file.header.length k
  pub body : IfSome file.bytes (λ all. block.body ≡ piece_at shape all k)

-- its source was asked to fill once more
abbrev pub filled : FileParts → FileParts
filled file = record file { fills = raised file.fills }

-- ---- The files of a batch

-- stands behind the last file, so that each number has a file
abbrev pub no_file : FileParts
no_file =
    record {
      header = record { name = []; length = 0; stamp = Nothing };
      bytes = None;
      failures = 0;
      fills = 0;
    }

-- file number i, counted from 0
abbrev pub file_at : List FileParts → ℕ → FileParts
file_at files i = slice_index_or files i no_file

-- how many data blocks each file is sent in
abbrev pub counts_of : Shape → List FileParts → List ℕ
counts_of shape files = map (blocks_of shape) files
