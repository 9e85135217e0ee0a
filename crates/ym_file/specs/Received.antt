-- A received file as contracts see it.
use Rattle.std.specs.Prelude.{ℕ, List}
use Rattle.ym_header.specs.Header.{HeaderParts}

pub record ReceivedParts : Type 0 where
  pub header : HeaderParts
  pub bytes : List ℕ
