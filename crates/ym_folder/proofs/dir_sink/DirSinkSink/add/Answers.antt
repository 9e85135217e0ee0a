use Rattle.ym_folder.proofs.PlacedLemmas.{still_ready}
use Rattle.ym_folder.proofs.dir_sink.DirSinkSink.add.Goals as goal

pub invariant_of-self-in-Some : goal.invariant_of-self-in-Some
invariant_of-self-in-Some g c =
    still_ready g.D.Folder.is_of c.self.inside.settings.leftover c.self.inside.taking c.in-Some.open c.put.new.opened _ _ _ _ c.in-Some.is c.put.ensures.same c.put.ensures.of c.self.invariant
