use Rattle.std.proofs.Common.{sym, ap, ◌∙◌}
use Rattle.ym_file.specs.SourceFile.{FileParts}
use Rattle.ym_file.proofs.Framed.{framed}
use Rattle.ym_file.proofs.source_file.SourceFile.frame.Goals as goal

pub returns-clause-frame : goal.returns-clause-frame
returns-clause-frame g c =
    let v = c.self.view_is in
    framed c.args.shape c.args.self.now c.args.k (g.S.Source.size c.self.inside.source) (g.S.Source.bytes c.self.inside.source) (sym c.self.invariant.0 ∙ ap (λ (f : FileParts). f.header.length) v) (ap (λ (f : FileParts). f.bytes) v)
    c.frame_from.result c.frame_from.new.buffer c.frame_from.ensures.frame c.frame_from.ensures.body
