-- The files that are sent to a receiver, and the frames of them that an end writes.
use Rattle.std.specs.Prelude.{◌≡◌, ℕ, ◌-◌, Bool, true, false, nat_le, ◌&&◌, List, [], ◌∷◌, ◌++◌, Option, Some, None, MatchBool, length, replicate, take}
use Rattle.ym_file.specs.Plan.{count_of, piece_at}
use Rattle.ym_file.specs.declared.plan.Shape.TheVariants.{Mixed}
use Rattle.ym_frame.specs.Frame.{IsFrame}
use Rattle.ym_frame.specs.declared.frame.Item.TheVariants as item
use Rattle.ym_header.specs.Text.{end_text}
use Rattle.ym_judge.specs.declared.act.Act.{Act}
use Rattle.ym_judge.specs.declared.act.Act.TheVariants as act
use Rattle.ym_judging.specs.Contents.{content_of}
use Rattle.ym_judging.specs.declared.payload.Payload.{Payload}

-- a file: its name, what stands behind that in its block 0, how many bytes it has, and whether its
-- block 0 is a long one
pub record Sent : Type 0 where
  pub name : List ℕ
  pub fields : List ℕ
  pub length : ℕ
  pub is_long : Bool

abbrev pub sent_of : Payload → Sent
sent_of file = record {
  name = file.name.now;
  fields = file.fields.now;
  length = file.length;
  is_long = file.is_long;
}

abbrev pub header_size : Bool → ℕ
header_size true = 1024
header_size false = 128

-- these bytes, cut or filled up by 00 to a size
abbrev pub sized : ℕ → List ℕ → List ℕ
sized size bytes = take size bytes ++ replicate (size - length bytes) 0

-- the body of a file's block 0: the name, 00, the fields, and 00 up to its end
abbrev pub header_body : Sent → List ℕ
header_body file = sized (header_size file.is_long) (file.name ++ 0 ∷ file.fields)

-- the frame of the block of this number and body
abbrev pub IsBlock : ℕ → List ℕ → List ℕ → Type 0
IsBlock number body bytes = IsFrame (item.Block (record { number = number; body = body })) bytes

-- a file's data block of this number, counted from 1, or none where it has none
abbrev pub IsDataBlock : Sent → ℕ → List ℕ → Type 0
IsDataBlock file number bytes =
    MatchBool (nat_le 1 number && nat_le number (count_of Mixed file.length))
    (IsBlock number (piece_at Mixed (content_of file.length) number) bytes) (bytes ≡ [])

abbrev pub IsHeaderOf : Option Sent → List ℕ → Type 0
IsHeaderOf None bytes = bytes ≡ []
IsHeaderOf (Some file) bytes = IsBlock 0 (header_body file) bytes

abbrev pub IsDataOf : Option Sent → ℕ → List ℕ → Type 0
IsDataOf None number bytes = bytes ≡ []
IsDataOf (Some file) number bytes = IsDataBlock file number bytes

-- what an end writes that does this with a file, or with none
abbrev pub IsWritten : Option Sent → Act → List ℕ → Type 0
IsWritten file act.Nothing bytes = bytes ≡ []
IsWritten file act.Header bytes = IsHeaderOf file bytes
IsWritten file (act.Block number) bytes = IsDataOf file number bytes
IsWritten file act.Eot bytes = IsFrame item.Eot bytes
IsWritten file act.End bytes = IsBlock 0 end_text bytes
IsWritten file act.Cancel bytes = IsFrame item.Cancel bytes
IsWritten file act.Noise bytes = bytes ≡ []
IsWritten file (act.Answer reply) bytes = bytes ≡ []
IsWritten file (act.Answers first second) bytes = bytes ≡ []
IsWritten file (act.Form form) bytes = bytes ≡ []
