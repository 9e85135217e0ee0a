-- What came since an end last got on.
use Rattle.std.specs.Prelude.{ℕ, ◌/◌, nat_lt, Option, Some, None, if◌then◌else◌}
use Rattle.ym_text.specs.declared.came.Came.{Came}
use Rattle.ym_text.specs.declared.came.Came.TheVariants as came
use Rattle.ym_text.specs.declared.came.TheConstants.{SLOW_MS}

-- after more that asks
abbrev pub and_asks : Came → Came
and_asks came.Nothing = came.Asks
and_asks came.Takes = came.Other
and_asks came.Passes = came.Other
and_asks before = before

-- after more that asks for all blocks
abbrev pub and_streams : Came → Came
and_streams came.Nothing = came.Streams
and_streams came.Takes = came.Other
and_streams came.Passes = came.Other
and_streams before = before

-- after more that asks for a block again
abbrev pub and_refusals : Came → Came
and_refusals came.Text = came.Other
and_refusals came.Copies = came.Other
and_refusals came.Past = came.Other
and_refusals came.Other = came.Other
and_refusals came.Takes = came.Passes
and_refusals came.Passes = came.Passes
and_refusals _ = came.Refuses

-- after more that takes a frame: what asked before, or refused one, may have crossed it
abbrev pub and_takings : Came → Came
and_takings came.Nothing = came.Takes
and_takings came.Asks = came.Takes
and_takings came.Refuses = came.Takes
and_takings came.Takes = came.Takes
and_takings _ = came.Other

-- after more that is text
abbrev pub and_text : Came → Came
and_text came.Passes = came.Other
and_text came.Copies = came.Other
and_text came.Past = came.Other
and_text came.Other = came.Other
and_text _ = came.Text

-- after a frame more that came before, and was answered
abbrev pub and_copy : Came → Came
and_copy came.Nothing = came.Copies
and_copy came.Copies = came.Copies
and_copy came.Past = came.Past
and_copy _ = came.Other

-- after a block more that is behind the length of its file
abbrev pub and_past : Came → Came
and_past came.Nothing = came.Past
and_past came.Copies = came.Past
and_past came.Past = came.Past
and_past _ = came.Other

-- an answer takes so many seconds, where that is more than usual peers wait
abbrev pub slow_of : Option ℕ → Option ℕ
slow_of (Some millis) = if nat_lt SLOW_MS millis then Some (millis / 1000) else None
slow_of None = None
