-- A folder of one file, and what a sink does there: examples.
use Rattle.std.specs.Prelude.{◌≡◌, List, [], ◌∷◌, true, false, Option, Some, None, codes, refl}
use Rattle.ym_header.specs.declared.stamp.Stamp.TheVariants.{Nothing}
use Rattle.ym_folder.specs.DirSink.{DirSinkParts, put, stands}
use Rattle.ym_folder.specs.Folder.{Entry, entry, FolderParts, under}
use Rattle.ym_folder.specs.declared.dir_sink.Leftover.TheVariants.{Refused}

abbrev folder : List Entry → Option FolderParts
folder entries = Some (record { entries = entries; links = true; refused = false })

it_is_there : under (folder (entry (codes "a") (7 ∷ []) ∷ [])) (codes "a") ≡ Some (7 ∷ [])
unfolding under
it_is_there = refl

no_other_is : under (folder (entry (codes "a") (7 ∷ []) ∷ [])) (codes "b") ≡ None
unfolding under
no_other_is = refl

nobody_knows : under None (codes "a") ≡ None
unfolding under
nobody_knows = refl

-- a file of three bytes, of which one is written and one waits
abbrev sink : DirSinkParts
sink = record {
  opened = Some (record { name = codes "b"; length = 3; stamp = Nothing });
  taken = 2;
  headers = [];
  failures = 0;
  first = None;
  leftover = Refused;
  replaced = None;
  folder = folder (entry (codes "a") (7 ∷ []) ∷ entry (codes "b.part") (1 ∷ []) ∷ []);
  part = Some (codes "b.part");
  waiting = 2 ∷ [];
  is_sound = true;
}

two_were_put : put sink ≡ Some (1 ∷ 2 ∷ [])
unfolding under
two_were_put = refl

none_has_the_name : stands sink (codes "b") ≡ None
unfolding under
none_has_the_name = refl
