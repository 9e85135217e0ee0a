-- What is kept is what has another name.
use Rattle.std.proofs.Common.{not, rules}
use Rattle.std.proofs.lemmas.Fn.{filter_same}
use Rattle.std.specs.Str.{bytes_eq}
use Rattle.ym_folder.specs.FilePlace.{name_of}
use Rattle.ym_folder.specs.Folder.{Entry}
use Rattle.folder_uses.proofs.mem_folder.remove_name.Goals as goal

pub returns-clause-removed : goal.returns-clause-removed
returns-clause-removed c =
    filter_same _ (λ (file : Entry). not (bytes_eq file.name (name_of c.args.at.now))) _ (λ x b f' k. search rules) _ _ c.retain.ensures.filtered
