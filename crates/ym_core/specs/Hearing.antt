-- What an end hears of a delivery: the item whose frame is a prefix of the bytes, else that the
-- delivery is bad.
use Rattle.std.specs.Prelude.{ℕ, List, Result, Ok, Err}
use Rattle.ym_frame.specs.Frame.{verdict_of}
use Rattle.ym_frame.specs.declared.frame.Item.{Item}
use Rattle.ym_frame.specs.declared.frame.Broken.{Broken}
use Rattle.ym_core.specs.declared.delivery.Heard.{Heard}
use Rattle.ym_core.specs.declared.delivery.Heard.TheVariants as heard

abbrev pub heard_at : Result (Item × ℕ) Broken → Heard
heard_at (Ok found) = heard.Item found.0
heard_at (Err broken) = heard.Bad

abbrev pub heard_of : List ℕ → Heard
heard_of bytes = heard_at (verdict_of bytes)
