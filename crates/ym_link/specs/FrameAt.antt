-- What is sent at each place of a batch.
use Rattle.std.specs.Prelude.{◌≡◌, ℕ, List}
use Rattle.ym_frame.specs.Block.{BlockParts}
use Rattle.ym_frame.specs.Frame.{IsFrame}
use Rattle.ym_frame.specs.declared.frame.Item.{Item}
use Rattle.ym_frame.specs.declared.frame.Item.TheVariants as item
use Rattle.ym_header.specs.Text.{text, end_text}
use Rattle.ym_file.specs.declared.plan.Shape.{Shape}
use Rattle.ym_core.specs.declared.position.Position.{Position}
use Rattle.ym_core.specs.declared.position.Position.TheVariants.{Header, Block, Eot, End}
use Rattle.ym_file.specs.SourceFile.{FileParts, IsBlockOf, file_at}

-- the item of this place of the batch; block 0 and the end block have number 0
abbrev pub IsItemAt : Shape → List FileParts → Position → Item → Type 0
IsItemAt shape files (Header file) i =
    i ≡ item.Block (record { number = 0; body = text (file_at files file).header })
IsItemAt shape files (Block file k) i =
    (block : BlockParts) × (i ≡ item.Block block) × IsBlockOf shape (file_at files file) k block
IsItemAt shape files (Eot file) i = i ≡ item.Eot
IsItemAt shape files End i = i ≡ item.Block (record { number = 0; body = end_text })

-- its frame
pub record IsFrameAt (shape : Shape) (files : List FileParts) (position : Position)
    (bytes : List ℕ) : Type 0 where
  pub item : Item
  pub there : IsItemAt shape files position item
  pub frame : IsFrame item bytes
