use Rattle.std.proofs.Common.{◌∙◌, refl, rules}
use Rattle.ym_folder.specs.FilePlace.{name_of}
use Rattle.ym_folder.proofs.SinkLemmas.{keeps_made, ends_in_part}
use Rattle.ym_folder.proofs.dir_sink.DirSinkSink.begin.Goals as goal

pub returns-in-Ok-open_part-clause-keeps : goal.returns-in-Ok-open_part-clause-keeps
returns-in-Ok-open_part-clause-keeps g c =
    rw (← c.self.view_is) (keeps_made _ _ (name_of c.in-Ok.part) c.as_slice-stored.result.now (c.as_slice-stored.ensures.value ∙ c.places.ensures.same) refl refl (ends_in_part c.args.header.name (name_of c.in-Ok.part) (search rules))
    c.open_part.ensures.others c.in-Ok-open_part.ensures.was_free)
