-- What is heard with a block's body where it stands, as what owns it: contracts see their blocks
-- alike.
use Rattle.ym_frame.specs.ItemRef.{owned_item}
use Rattle.ym_core.specs.declared.delivery.Heard.{Heard}
use Rattle.ym_core.specs.declared.delivery.Heard.TheVariants as heard
use Rattle.ym_core.specs.declared.delivery.HeardRef.{HeardRef}
use Rattle.ym_core.specs.declared.delivery.HeardRef.TheVariants.{Item, Bad}

abbrev pub owned_heard : HeardRef → Heard
owned_heard (Item i) = heard.Item (owned_item i)
owned_heard Bad = heard.Bad
