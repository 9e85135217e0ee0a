-- A capture under way, and what is told of it: one front after another.
use Rattle.std.specs.Prelude.{◌≡◌, ℕ, Bool, true, false, List, [], ◌∷◌, ◌++◌, take, drop, not, ◌&&◌, if◌then◌else◌, Option, Some, None}
use Rattle.std.specs.Io.KnownBytes.{Appends}
use Rattle.ym_explain.specs.SentPrefix.{IsToldSent}
use Rattle.ym_explain.specs.Noting.{with_bytes}
use Rattle.ym_explain.specs.declared.sent.SentTold.{SentTold}
use Rattle.ym_told.specs.Announcing.{IsAnnounced}
use Rattle.ym_told.specs.TellPrefix.{prefix_there, prefix_back, used_by}
use Rattle.ym_told.specs.RunText.{tail_back}
use Rattle.ym_told.specs.Scenes.{first_scene, scene_words, scene_behind}
use Rattle.ym_told.specs.declared.prefix.BufferedPrefix.{BufferedPrefix}
use Rattle.ym_told.specs.declared.prefix.Settle.{Settle}
use Rattle.ym_told.specs.declared.moment.CaptureMoment.{CaptureMoment}
use Rattle.ym_told.specs.declared.scene.Scene.{Scene}
use Rattle.ym_told.specs.declared.stated.Announced.{Announced}
use Rattle.ym_told.specs.declared.way.Direction.{Direction}
use Rattle.ym_told.specs.declared.way.Direction.TheVariants as way

-- what is held of each way, what was told so far, when each way wrote last, and where they parted
pub record Parts : Type 0 where
  pub there : List ℕ
  pub back : List ℕ
  pub scene : Scene
  pub last_there : Option ℕ
  pub last_back : Option ℕ
  pub parted_at : Option CaptureMoment

abbrev pub nothing_buffered : Parts
nothing_buffered = record {
  there = [];
  back = [];
  scene = first_scene;
  last_there = None;
  last_back = None;
  parted_at = None;
}

abbrev pub buffered_of : Parts → Direction → List ℕ
buffered_of at way.There = at.there
buffered_of at way.Back = at.back

-- Bytes that came this way are held behind the others. Those of the sender are seen at once.
abbrev pub with_piece : Parts → Direction → List ℕ → Parts
with_piece at way.There piece = record at {
  there = at.there ++ piece;
  scene = record at.scene {
    standing = record at.scene.standing {
      signs = with_bytes at.scene.standing.signs piece;
    };
  };
}
with_piece at way.Back piece = record at { back = at.back ++ piece }

-- what stands at the front of a way, where that is sure
abbrev pub IsPrefix : Parts → Direction → Settle → Option BufferedPrefix → Type 0
IsPrefix at way.There settle prefix =
    (told : Option SentTold) × IsToldSent at.scene.standing.position at.there told
    × (prefix ≡ prefix_there at.there told settle)
IsPrefix at way.Back settle prefix =
    prefix ≡ prefix_back (tail_back at.scene.run) at.back settle

-- a front, with the file that it announces
pub record Step : Type 0 where
  pub way : Direction
  pub settle : Settle
  pub prefix : BufferedPrefix
  pub file : Announced

abbrev pub bytes_in : Parts → Step → List ℕ
bytes_in at step = take (used_by step.prefix) (buffered_of at step.way)

abbrev pub without : Parts → Direction → ℕ → Parts
without at way.There count = record at { there = drop count at.there }
without at way.Back count = record at { back = drop count at.back }

-- the first moment at which they part
abbrev pub parting_at : Parts → Scene → Option CaptureMoment
parting_at at behind =
    if behind.standing.parted && not at.scene.standing.parted
    then Some at.scene.moment
    else at.parted_at

abbrev pub with_scene : Parts → Scene → Parts
with_scene at behind = record at { scene = behind; parted_at = parting_at at behind }

-- behind a front, which is let go
abbrev pub behind_step : Parts → Step → Parts
behind_step at step = without
    (with_scene at (scene_behind at.scene step.way step.prefix (bytes_in at step) step.file))
    step.way (used_by step.prefix)

-- what tells it
abbrev pub step_words : Parts → Step → List ℕ
step_words at step = scene_words at.scene step.way step.prefix (bytes_in at step) step.file

abbrev pub IsStep : Parts → Step → Type 0
IsStep at step =
    IsPrefix at step.way step.settle (Some step.prefix)
    × IsAnnounced step.prefix (bytes_in at step) step.file

-- this front is told, and let go
abbrev pub TellsPrefix :
    Parts → Direction → BufferedPrefix → Parts → Option (List ℕ) → Option (List ℕ) → Type 0
TellsPrefix old way prefix new before after =
    (file : Announced)
    × IsAnnounced prefix (take (used_by prefix) (buffered_of old way)) file
    × Appends before after
    (scene_words old.scene way prefix (take (used_by prefix) (buffered_of old way)) file)
    × (new ≡ without
    (with_scene old
    (scene_behind old.scene way prefix (take (used_by prefix) (buffered_of old way)) file))
    way (used_by prefix))

-- A front is told and let go, or none is sure, and nothing changes.
abbrev pub IsTold :
    Parts → Direction → Settle → Bool → Parts → Option (List ℕ) → Option (List ℕ) → Type 0
IsTold old way settle true new before after =
    (prefix : BufferedPrefix) × IsPrefix old way settle (Some prefix)
    × TellsPrefix old way prefix new before after
IsTold old way settle false new before after =
    IsPrefix old way settle None × (new ≡ old) × (after ≡ before)
