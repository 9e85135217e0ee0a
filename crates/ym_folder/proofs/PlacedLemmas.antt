-- The file that is open, after a call that wrote of it.
use Rattle.std.proofs.Common.{◌≡◌, ℕ, List, true, Option, Some, sym, subst}
use Rattle.ym_folder.specs.DirSink.{IsTold}
use Rattle.ym_folder.specs.FilePlace.{name_of}
use Rattle.ym_folder.specs.OpenPart.{IsSameFile, IsReady, IsPlaced, ArePlaced}
use Rattle.ym_folder.specs.Part.{IsPartName}
use Rattle.ym_folder.specs.declared.dir_sink.Leftover.{Leftover}
use Rattle.ym_folder.specs.declared.dir_sink.Leftover.TheVariants.{Discarded}
use Rattle.ym_folder.specs.declared.store_fault.StoreFault.{StoreFault}
use Rattle.ym_folder.specs.declared.open_part.OpenPart.{OpenPart}

placed_again : {F : Type 0} (is_of : F → List ℕ → Type 0) (leftover : Leftover) (old new : OpenPart F) → IsSameFile old new → is_of new.file (name_of new.part)
    → IsPlaced is_of leftover old → IsPlaced is_of leftover new
placed_again {F} is_of leftover old new same made placed = record {
  part = subst (λ (o : OpenPart F). IsPartName o.header.name (name_of o.part)) (sym same) placed.part;
  target = subst (λ (o : OpenPart F). name_of o.target ≡ o.header.name) (sym same) placed.target;
  made = made;
  asked = subst (λ (o : OpenPart F). o.has_replaced ≡ true → leftover ≡ Discarded) (sym same) placed.asked;
}

-- what holds of a sink's fields holds still
pub still_ready : {F : Type 0} (is_of : F → List ℕ → Type 0) (leftover : Leftover) (taking : Option (OpenPart F)) (old new : OpenPart F) (count capacity failed : ℕ) (first : Option StoreFault)
    → taking ≡ Some old → IsSameFile old new → is_of new.file (name_of new.part)
    → IsReady taking count capacity × IsTold failed first × ArePlaced is_of leftover taking
    → IsReady (Some new) count capacity × IsTold failed first × ArePlaced is_of leftover (Some new)
still_ready {F} is_of leftover taking old new count capacity failed first is same made was =
    let now = subst (λ (t : Option (OpenPart F)). IsReady t count capacity × IsTold failed first × ArePlaced is_of leftover t) is was in
    (subst (λ (o : OpenPart F). IsReady (Some o) count capacity) (sym same) now.0, now.1, placed_again is_of leftover old new same made now.2)
