use Rattle.std.proofs.Common.{◌∙◌, ap, refl, is_ok}
use Rattle.ym_eager.specs.Eager.{ahead}
use Rattle.ym_eager.proofs.EagerLemmas.{ahead_write}
use Rattle.ym_eager.proofs.eager.EagerPort.write.Goals as goal

pub returns-clause-told : goal.returns-clause-told
returns-clause-told g c = λ u h.
    let told = c.write.ensures.told h.0 h.1 in (
      ahead c.args.self.now.is_first told.0,
      (told.0, told.1, refl),
      h.2 ∙ (ap (ahead c.args.self.now.is_first) told.2 ∙ ahead_write c.args.self.now.is_first (is_ok c.write.result) told.0 c.args.bytes.now),
    )
