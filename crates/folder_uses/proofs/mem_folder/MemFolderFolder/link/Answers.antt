use Rattle.std.proofs.Common.{◌≡◌, None, Some, sym, ◌∙◌}
use Rattle.ym_folder.specs.FilePlace.{name_of}
use Rattle.folder_uses.proofs.MemFolderLemmas.{linked_from}
use Rattle.folder_uses.proofs.mem_folder.MemFolderFolder.link.Goals as goal

pub returns-in-Ok-clause-linked : goal.returns-in-Ok-clause-linked
returns-in-Ok-clause-linked c =
    linked_from (name_of c.args.from.now) (name_of c.args.to.now) c.args.self.now.files.items _ _ _ _ _ c.in-Ok.ensures.copied c.link_new.ensures.links c.in-Ok.ensures.free

pub returns-in-Err-clause-none : goal.returns-in-Err-clause-none
returns-in-Err-clause-none c = λ tells. let k : None ≡ Some tells.0 = sym c.fault.ensures ∙ tells.1 in cc
