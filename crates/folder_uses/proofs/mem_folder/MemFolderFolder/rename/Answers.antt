use Rattle.std.proofs.Common.{refl, rules}
use Rattle.ym_folder.specs.FilePlace.{name_of}
use Rattle.folder_uses.proofs.MemFolderLemmas.{renamed_from, renamed_alike}
use Rattle.folder_uses.proofs.mem_folder.MemFolderFolder.rename.Goals as goal

pub returns-then-eq-clause-renamed : goal.returns-then-eq-clause-renamed
returns-then-eq-clause-renamed c =
    renamed_alike (name_of c.args.from.now) (name_of c.args.to.now) c.args.self.now.files.items _ _ _ _ _ c.in_ok-copy.ensures.copied (search rules) refl

pub returns-clause-renamed : goal.returns-clause-renamed
returns-clause-renamed c =
    renamed_from (name_of c.args.from.now) (name_of c.args.to.now) c.args.self.now.files.items c.copy.new.files.items _ _ _ _ _ c.in_ok-copy.ensures.copied
    c.remove_name.ensures.removed (search rules) refl
