-- An item whose body stands where it was found, as the item that owns it: contracts see their
-- blocks alike.
use Rattle.std.specs.Prelude.{ℕ, Result, Ok, Err}
use Rattle.ym_frame.specs.declared.frame.Item.{Item}
use Rattle.ym_frame.specs.declared.frame.Item.TheVariants as item
use Rattle.ym_frame.specs.declared.frame.Broken.{Broken}
use Rattle.ym_frame.specs.declared.item_ref.ItemRef.{ItemRef}
use Rattle.ym_frame.specs.declared.item_ref.ItemRef.TheVariants.{Block, Eot, Cancel}

abbrev pub owned_item : ItemRef → Item
owned_item (Block b) = item.Block b
owned_item Eot = item.Eot
owned_item Cancel = item.Cancel

abbrev pub owned_verdict : Result (ItemRef × ℕ) Broken → Result (Item × ℕ) Broken
owned_verdict (Ok found) = Ok (owned_item found.0, found.1)
owned_verdict (Err broken) = Err broken
