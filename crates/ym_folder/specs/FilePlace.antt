-- Where a file stands: its name, and the path of that in a folder.
use Rattle.std.specs.Prelude.{ℕ, List, string_bytes}
use Rattle.ym_folder.specs.declared.place.FilePlace.{FilePlace}

abbrev pub name_of : FilePlace → List ℕ
name_of place = string_bytes place.name
