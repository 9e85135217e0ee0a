-- What a run of new ends promises, in words of the two ends alone: which files were committed, and
-- which are reported.
--
-- That this is promised is this profile's choice.
use Rattle.std.specs.Prelude.{◌≡◌, ◌≤◌, ℕ, false, List, [], ◌∷◌, length, map, take, All, Some, IsSome}
use Rattle.ym_file.specs.Kept.{Told, IsNew}
use Rattle.ym_core.specs.Position.{done_at}
use Rattle.ym_core.specs.Receiver.{new_receiver}
use Rattle.ym_file.specs.SourceFile.{FileParts}
use Rattle.ym_core.specs.declared.position.Position.{Position}
use Rattle.ym_core.specs.declared.position.Position.TheVariants.{Header, End}
use Rattle.ym_core.specs.declared.position.Mode.TheVariants.{Waiting}
use Rattle.ym_core.specs.declared.state.SendState.TheVariants.{Running}
use Rattle.ym_machine.specs.declared.limits.TheConstants.{MOST_FILES}
use Rattle.ym_line.specs.Rounds.{Pair}
use Rattle.ym_line.specs.declared.trace.Trace.{Trace}

-- the place of the first frame
abbrev pub first_position : List FileParts → Position
first_position [] = End
first_position (file ∷ files) = Header 0

-- New ends: a sender that waits at the first frame of a batch of no more files than one may have,
-- whose sources tell their bytes, and a receiver that awaits its first header, into a sink that has
-- no file.
pub record AreNew (pair : Pair) : Type 0 where
  pub sender : pair.sender.standing ≡
      record {
        position = first_position pair.sender.files;
        mode = Waiting;
        retries = 0;
        state = Running;
        cancel_pending = false;
      }
  pub tells : All (λ (f : FileParts). IsSome f.bytes) pair.sender.files
  pub few : length pair.sender.files ≤ MOST_FILES
  pub receiver : pair.receiver.receiver ≡ new_receiver pair.receiver.receiver.confirm
  pub sink : IsNew pair.receiver.kept

-- The committed files are the first so many of the batch, in order: each with its name, length and
-- stamp, and, where the sink tells bytes, with those of its source. The sender reports no more
-- files than those as done.
pub record CommitsAPrefix (batch : List FileParts) (pair : Pair) : Type 0 where
  pub number : ℕ
  pub within : number ≤ length batch
  pub headers : pair.receiver.kept.headers ≡ map (λ (f : FileParts). f.header) (take number batch)
  pub bytes : (told : Told) →
      pair.receiver.kept.told ≡ Some told →
      map (λ (bytes : List ℕ). Some bytes) told.files ≡
      map (λ (f : FileParts). f.bytes) (take number batch)
  pub files_is : pair.receiver.receiver.files ≡ number
  pub done : done_at (length pair.sender.files) pair.sender.standing.position ≤ number

-- A trace reports the number of files committed, and no more files as done.
pub record ReportsCommitted (trace : Trace) (pair : Pair) : Type 0 where
  pub files_is : trace.files ≡ length pair.receiver.kept.headers
  pub done : trace.done ≤ length pair.receiver.kept.headers
