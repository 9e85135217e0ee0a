use Rattle.std.proofs.Common.{◌≡◌, ◌++◌, ◌∷◌, [], IsSome, All, rules, arith, sym, subst}
use Rattle.std.proofs.lemmas.Grind.{common_steps}
use Rattle.std.proofs.lemmas.List.Elements.{All-push}
use Rattle.ym_file.specs.SourceFile.{FileParts, IsFile}
use Rattle.ym_link.specs.SenderRefines.{AllTold}
use Rattle.ym_play.proofs.script.Script.add_file.Goals as goal

pub invariant_of-self-2 : goal.invariant_of-self-2
invariant_of-self-2 c =
    let items : c.push.new.self.items ≡ c.self.inside.batch.items ++ c.in_ok-file.file ∷ [] = search rules in (
      first_of (search rules, grind (arith, common_steps)),
      search rules,
      subst AllTold (sym items) (All-push (λ (f : FileParts). IsSome f.bytes) c.self.inside.batch.items c.in_ok-file.file c.self.invariant.2 c.in_ok-file.ensures.told),
      subst (All IsFile) (sym items) (All-push IsFile c.self.inside.batch.items c.in_ok-file.file c.self.invariant.3 c.in_ok-file.ensures.within),
    )
