-- What a sender has to send, as a trace shows it.
use Rattle.std.specs.Prelude.{ℕ, ◌==◌, if◌then◌else◌, List, [], ◌∷◌, length}
use Rattle.ym_frame.specs.declared.frame.Item.{Item}
use Rattle.ym_frame.specs.declared.frame.Item.TheVariants as item
use Rattle.ym_core.specs.declared.delivery.Heard.{Heard}
use Rattle.ym_core.specs.declared.delivery.Heard.TheVariants as heard
use Rattle.ym_line.specs.declared.trace.What.{What}
use Rattle.ym_line.specs.declared.trace.What.TheVariants.{Nothing, Block, Eot, Can}

-- an item: of a block its number and how many bytes its body has
abbrev pub what_is : Item → What
what_is (item.Block block) = Block block.number (length block.body)
what_is item.Eot = Eot
what_is item.Cancel = Can

-- what was sent, by what a receiver hears of it whole
abbrev pub what_heard : Heard → What
what_heard (heard.Item i) = what_is i
what_heard heard.Bad = Nothing

-- ---- The same by the first bytes, as it is told

-- a block by the first two bytes of its frame
abbrev pub block_of : List ℕ → ℕ → What
block_of [] size = Nothing
block_of (number ∷ more) size = Block number size

-- a frame by its first bytes
abbrev pub what_of : List ℕ → What
what_of [] = Nothing
what_of (first ∷ more) =
    if first == 0x04 then Eot else
    if first == 0x18 then Can else
    if first == 0x01 then block_of more 128 else
    if first == 0x02 then block_of more 1024 else
    Nothing
