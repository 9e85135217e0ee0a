use Rattle.std.proofs.Common.{refl}
use Rattle.ym_folder.specs.FilePlace.{name_of}
use Rattle.folder_uses.proofs.MemFolderLemmas.{removed_from}
use Rattle.folder_uses.proofs.mem_folder.MemFolderFolder.remove.Goals as goal

pub returns-clause-removed : goal.returns-clause-removed
returns-clause-removed c =
    removed_from (name_of c.args.at.now) c.args.self.now.files.items _ _ _ _ _ c.remove_name.ensures.removed refl
