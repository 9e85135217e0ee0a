-- What an end promises against any peer, in words of what it heard and wrote alone: there is no
-- premise on who is at the other end (this profile).
use Rattle.std.specs.Prelude.{◌≡◌, ◌+◌, ◌-◌, ◌%◌, ◌⊎◌, ℕ, zero, suc, List, [], ◌∷◌, ◌++◌, length, map, All, Some}
use Rattle.ym_frame.specs.declared.frame.Item.{Item}
use Rattle.ym_frame.specs.declared.frame.Item.TheVariants.{Block, Eot}
use Rattle.ym_header.specs.Header.{HeaderParts, length_limit}
use Rattle.ym_header.specs.HeaderReading.{Reads}
use Rattle.ym_header.specs.declared.reading.Zero.TheVariants.{File}
use Rattle.ym_file.specs.Collecting.{keep_all}
use Rattle.ym_file.specs.Kept.{Kept, Told}
use Rattle.ym_file.specs.declared.plan.Shape.{Shape}
use Rattle.ym_machine.specs.declared.confirm.Confirm.{Confirm}
use Rattle.ym_machine.specs.declared.confirm.Confirm.TheVariants.{Twice, Once}
use Rattle.ym_core.specs.Position.{count_at}
use Rattle.ym_core.specs.Scan.{controls_in}
use Rattle.ym_core.specs.declared.delivery.Heard.{Heard}
use Rattle.ym_core.specs.declared.delivery.Heard.TheVariants.{Item as Heard_item}
use Rattle.ym_core.specs.declared.position.Position.{Position}
use Rattle.ym_core.specs.declared.position.Position.TheVariants as position
use Rattle.ym_link.specs.FrameAt.{IsFrameAt}
use Rattle.ym_link.specs.Moves.{SaysAck}
use Rattle.ym_file.specs.SourceFile.{FileParts}
use Rattle.ym_pair.specs.Logs.{Spoke}

-- ---- A receiver

-- Some of the deliveries, in their order, were heard as these items, one for one; law
-- `a_delivery_brings_its_frame` says that a delivery is heard as the item whose frame it begins
-- with.
abbrev pub AreAmong : List Item → List Heard → Type 0
AreAmong [] all = Unit {0}
AreAmong (item ∷ items) [] = ⊥
AreAmong (item ∷ items) (h ∷ all) =
    ((h ≡ Heard_item item) × AreAmong items all) ⊎ AreAmong (item ∷ items) all

-- a file as it was heard: its header, the body of the block 0 that was read as that header, and the
-- bodies of its data blocks
pub record FileHeard : Type 0 where
  pub header : HeaderParts
  pub zero : List ℕ
  pub bodies : List (List ℕ)

-- its bytes: the bodies put together, and cut at the length
abbrev pub bytes_heard : FileHeard → List ℕ
bytes_heard file = keep_all file.header.length [] file.bodies

abbrev pub header_heard : FileHeard → HeaderParts
header_heard file = file.header

abbrev pub block : ℕ → List ℕ → Item
block number body = Block (record { number = number; body = body })

-- blocks of these bodies, numbered on from here, modulo 256
abbrev pub blocks_from : ℕ → List (List ℕ) → List Item
blocks_from number [] = []
blocks_from number (body ∷ bodies) = block (number % 256) body ∷ blocks_from (number + 1) bodies

-- an EOT, or two
abbrev pub eots : Confirm → List Item
eots Twice = Eot ∷ Eot ∷ []
eots Once = Eot ∷ []

-- what spells a file: its block 0, its data blocks from number 1 on, and its EOT
abbrev pub items_of : Confirm → FileHeard → List Item
items_of confirm file = block 0 file.zero ∷ (blocks_from 1 file.bodies ++ eots confirm)

-- and what spells files, one behind another
abbrev pub spelling : Confirm → List FileHeard → List Item
spelling confirm [] = []
spelling confirm (file ∷ files) = items_of confirm file ++ spelling confirm files

-- its block 0 reads as its header, and it has as many bytes as that states
pub record IsSpelled (file : FileHeard) : Type 0 where
  pub reads : Reads length_limit file.zero (File file.header)
  pub covered : length (bytes_heard file) ≡ file.header.length

-- What is committed was spelled by what was heard: file by file, in order, each with the header
-- that its block 0 reads as and, where the sink tells them, the bytes of its data blocks.
pub record CommitsTheHeard (confirm : Confirm) (heard : List Heard) (kept : Kept) : Type 0 where
  pub files : List FileHeard
  pub spelled : All IsSpelled files
  pub among : AreAmong (spelling confirm files) heard
  pub headers : kept.headers ≡ map header_heard files
  pub bytes : (told : Told) → kept.told ≡ Some told → told.files ≡ map bytes_heard files

-- ---- A sender

-- The frames of these positions of a batch were acknowledged, in this order, whatever came between:
-- for each there is a delivery of its own in which an ACK was read while exactly that frame was
-- what had been written last.
abbrev pub AreAcknowledged : Shape → List FileParts → List Position → List Spoke → Type 0
AreAcknowledged shape files [] all = Unit {0}
AreAcknowledged shape files (position ∷ positions) [] = ⊥
AreAcknowledged shape files (position ∷ positions) (one ∷ all) =
    (IsFrameAt shape files position one.wrote × SaysAck (controls_in one.came) ×
    AreAcknowledged shape files positions all) ⊎
    AreAcknowledged shape files (position ∷ positions) all

-- the positions of the first so many data blocks of a file
abbrev pub block_positions : ℕ → ℕ → List Position
block_positions file zero = []
block_positions file (suc n) = block_positions file n ++ position.Block file (suc n) ∷ []

-- of all frames of a file that has so many data blocks: its block 0, they, and its EOT
abbrev pub file_positions : ℕ → ℕ → List Position
file_positions file count =
    position.Header file ∷ (block_positions file count ++ position.Eot file ∷ [])

-- of all frames of the first so many files
abbrev pub files_positions : List ℕ → ℕ → List Position
files_positions counts zero = []
files_positions counts (suc n) = files_positions counts n ++ file_positions n (count_at counts n)

-- of all frames of a batch: those of its files, and the end block
abbrev pub batch_positions : List ℕ → List Position
batch_positions counts = files_positions counts (length counts) ++ position.End ∷ []

-- of all frames before this position
abbrev pub positions_before : List ℕ → Position → List Position
positions_before counts (position.Header file) = files_positions counts file
positions_before counts (position.Block file k) =
    files_positions counts file ++ (position.Header file ∷ block_positions file (k - 1))
positions_before counts (position.Eot file) =
    files_positions counts file ++
    (position.Header file ∷ block_positions file (count_at counts file))
positions_before counts position.End = files_positions counts (length counts)
