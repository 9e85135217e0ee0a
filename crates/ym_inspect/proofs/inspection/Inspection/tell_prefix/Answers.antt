-- What was put is the text of the front, and the scene is the one behind it.
use Rattle.std.proofs.Common.{◌≡◌, ◌∙◌, rules, List, ℕ, take, ap, subst}
use Rattle.std.specs.Io.KnownBytes.{Appends}
use Rattle.ym_told.specs.Announcing.{IsAnnounced}
use Rattle.ym_told.specs.Scenes.{scene_words, scene_behind}
use Rattle.ym_told.specs.TellPrefix.{used_by}
use Rattle.ym_told.specs.declared.prefix.BufferedPrefix.{BufferedPrefix}
use Rattle.ym_inspect.specs.Inspecting.{buffered_of, with_scene, without}
use Rattle.ym_inspect.proofs.inspection.Inspection.tell_prefix.Goals as goal

pub returns-clause-tells : goal.returns-clause-tells
returns-clause-tells g c =
    let old = c.args.self.now in
    let way = c.args.way in
    let prefix = c.args.prefix in
    let stretch = c.of-stretch.result in
    let used : List ℕ = take (used_by prefix) (buffered_of old way) in
    let bytes : stretch.bytes.now ≡ used = c.of-stretch.ensures.bytes ∙ ap (take (used_by prefix)) c.buffered.ensures in
    let same : stretch.prefix ≡ prefix = c.of-stretch.ensures.prefix in
    let words : c.as_bytes.result.now ≡ scene_words old.scene way stretch.prefix stretch.bytes.now stretch.file = search rules in
    let put : Appends (g.O.Output.contents c.args.out.now) (g.O.Output.contents c.put.new.self) c.as_bytes.result.now = search rules in
    let behind : c.behind-behind.result ≡ scene_behind old.scene way stretch.prefix stretch.bytes.now stretch.file = search rules in (
      stretch.file,
      subst (λ b. IsAnnounced prefix b stretch.file) bytes c.of-stretch.ensures.file,
      subst (Appends (g.O.Output.contents c.args.out.now) (g.O.Output.contents c.put.new.self))
          (words ∙ (ap (λ (p : BufferedPrefix). scene_words old.scene way p stretch.bytes.now stretch.file) same ∙ ap (λ (b : List ℕ). scene_words old.scene way prefix b stretch.file) bytes)) put,
      c.go_on.ensures ∙ ap (λ s. without (with_scene old s) way (used_by prefix))
          (behind ∙ (ap (λ (p : BufferedPrefix). scene_behind old.scene way p stretch.bytes.now stretch.file) same ∙ ap (λ (b : List ℕ). scene_behind old.scene way prefix b stretch.file) bytes)),
    )
