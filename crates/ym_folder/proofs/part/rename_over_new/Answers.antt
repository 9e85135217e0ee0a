-- Where the rename fails, the name is taken away again, or a file of no bytes stays there.
use Rattle.std.proofs.Common.{inl, inr}
use Rattle.ym_folder.proofs.FolderLemmas.{all_then, half_given, taken_again}
use Rattle.ym_folder.proofs.part.rename_over_new.Goals as goal

pub returns-clause-unnamed : goal.returns-clause-unnamed
returns-clause-unnamed g c = elim c.take_back.ensures [
  | inl all ↦ half_given _ _ _ _ c.requires c.in_ok-made.ensures.made (all_then _ _ _ c.in-Err.ensures.refused all)
  | inr removed ↦ taken_again _ _ _ _ _ c.in_ok-made.ensures.made c.in-Err.ensures.refused removed
]
