use Rattle.std.proofs.Common.{refl}
use Rattle.ym_folder.specs.FilePlace.{name_of}
use Rattle.folder_uses.proofs.MemFolderLemmas.{grown_from}
use Rattle.folder_uses.proofs.mem_folder.MemFolderFolder.append.Goals as goal

pub returns-in-Err-clause-prefix : goal.returns-in-Err-clause-prefix
returns-in-Err-clause-prefix c =
    (_, grown_from (name_of c.args.at.now) _ c.args.self.now.files.items _ _ _ _ _ c.in_ok-add.ensures.added refl)

pub returns-clause-grown : goal.returns-clause-grown
returns-clause-grown c =
    grown_from (name_of c.args.at.now) _ c.args.self.now.files.items _ _ _ _ _ c.in_ok-add-2.ensures.added refl
