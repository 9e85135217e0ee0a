-- What was told so far, and what a front adds to it.
use Rattle.std.specs.Prelude.{ℕ, List, [], ◌∷◌, ◌++◌, slice_index, Option, Some, None}
use Rattle.ym_told.specs.Announcing.{stated_by, announced_words}
use Rattle.ym_told.specs.LineWords.{told_words}
use Rattle.ym_told.specs.LineOf.{line_told}
use Rattle.ym_told.specs.RunText.{no_run, run_behind, part_words, end_words}
use Rattle.ym_told.specs.BothStand.{at_start, behind_prefix}
use Rattle.ym_told.specs.declared.prefix.BufferedPrefix.{BufferedPrefix}
use Rattle.ym_told.specs.declared.prefix.BufferedPrefix.TheVariants as prefix
use Rattle.ym_told.specs.declared.line.Telling.{Telling}
use Rattle.ym_told.specs.declared.run.Run.{Run}
use Rattle.ym_told.specs.declared.scene.Scene.{Scene}
use Rattle.ym_told.specs.declared.stated.Announced.{Announced}
use Rattle.ym_told.specs.declared.way.Direction.{Direction}

abbrev pub first_scene : Scene
first_scene = record { standing = at_start; run = no_run; moment = record { 0 = None } }

-- a line, behind the end of a run, and before the file that it announces
abbrev pub line_words_in : Scene → Direction → Telling → Announced → List ℕ
line_words_in scene way line file =
    end_words scene.run ++ (told_words (record { at = scene.moment; way = way; line = line })
    ++ (10 ∷ [] ++ announced_words file))

abbrev pub words_with : Option Telling → Scene → Direction → List ℕ → Announced → List ℕ
words_with (Some line) scene way bytes file = line_words_in scene way line file
words_with None scene way bytes file = part_words scene.run scene.moment way bytes

-- what tells a front of this way, with these bytes, which announces a file or not
abbrev pub scene_words : Scene → Direction → BufferedPrefix → List ℕ → Announced → List ℕ
scene_words scene way prefix bytes file =
    words_with (line_told scene.standing prefix (slice_index bytes 1)) scene way bytes file

-- a run goes on, and anything else ends it
abbrev pub run_after : Run → Direction → BufferedPrefix → List ℕ → Run
run_after run way (prefix.Run used) bytes = run_behind run way bytes
run_after run way prefix.Zmodem bytes = no_run
run_after run way (prefix.Cut used) bytes = no_run
run_after run way (prefix.Sent told) bytes = no_run
run_after run way (prefix.Answer line) bytes = no_run

abbrev pub scene_behind : Scene → Direction → BufferedPrefix → List ℕ → Announced → Scene
scene_behind scene way prefix bytes file = record {
  standing = behind_prefix scene.standing way prefix bytes (stated_by file);
  run = run_after scene.run way prefix bytes;
  moment = scene.moment;
}
