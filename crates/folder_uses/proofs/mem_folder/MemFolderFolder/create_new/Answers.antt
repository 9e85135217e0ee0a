use Rattle.std.proofs.Common.{refl}
use Rattle.ym_folder.specs.FilePlace.{name_of}
use Rattle.folder_uses.proofs.MemFolderLemmas.{made_from}
use Rattle.folder_uses.proofs.mem_folder.MemFolderFolder.create_new.Goals as goal

pub returns-clause-made : goal.returns-clause-made
returns-clause-made c =
    made_from (name_of c.args.at.now) c.args.self.now.files.items _ _ _ _ _ c.in_ok-put.ensures.put refl c.in_ok-check_free.ensures
