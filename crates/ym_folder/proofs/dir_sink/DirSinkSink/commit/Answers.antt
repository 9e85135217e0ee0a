use Rattle.ym_folder.proofs.PlacedLemmas.{still_ready}
use Rattle.ym_folder.proofs.dir_sink.DirSinkSink.commit.Goals as goal

pub invariant_of-self : goal.invariant_of-self
invariant_of-self g c =
    still_ready g.D.Folder.is_of c.self.inside.settings.leftover c.self.inside.taking c.in-Some.open c.store-stored.new.opened _ _ _ _ c.in-Some.is c.store-stored.ensures.same c.store-stored.ensures.of c.self.invariant
