-- How many deliveries an end hears at most: ten for each step of progress, and ten more (this
-- profile).
use Rattle.std.specs.Prelude.{ℕ, ◌+◌, ◌-◌, ◌*◌, if◌then◌else◌, List, [], ◌∷◌, drop}
use Rattle.ym_header.specs.declared.limits.TheConstants.{MOST_LENGTH}
use Rattle.ym_core.specs.declared.stage.Stage.{Stage}
use Rattle.ym_core.specs.declared.stage.Stage.TheVariants.{AwaitHeader, InFile}
use Rattle.ym_core.specs.declared.state.RecvState.{RecvState}
use Rattle.ym_core.specs.declared.state.RecvState.TheVariants as state
use Rattle.ym_core.specs.Receiver.{Receiver}
use Rattle.ym_core.specs.Position.{count_at}
use Rattle.ym_link.specs.Sender.{SenderParts, counts}
use Rattle.ym_core.specs.declared.position.Position.{Position}
use Rattle.ym_core.specs.declared.position.Position.TheVariants.{Header, Block, Eot, End}
use Rattle.ym_core.specs.declared.position.Mode.{Mode}
use Rattle.ym_core.specs.declared.position.Mode.TheVariants.{Waiting, Sent}
use Rattle.ym_core.specs.declared.standing.Standing.{Standing}
use Rattle.ym_core.specs.declared.state.SendState.{SendState}
use Rattle.ym_core.specs.declared.state.SendState.TheVariants.{Running}
use Rattle.ym_machine.specs.declared.limits.TheConstants.{GIVE_UP, MOST_FILES}

-- ---- A receiver

-- how many steps of progress a file of any length takes at most: each adds a byte, but for the
-- header and two EOTs
abbrev pub file_steps : ℕ
file_steps = MOST_LENGTH + 4

-- how many steps of progress a receiver has left at most, with so many files committed
abbrev pub receiver_steps : Stage → ℕ → ℕ
receiver_steps AwaitHeader files = (MOST_FILES - files) * file_steps
receiver_steps (InFile file) files =
    (MOST_FILES - (files + 1)) * file_steps + (file.length - file.taken) +
    (if file.first_eot then 1 else 2)

abbrev pub deliveries_at : RecvState → Receiver → ℕ
deliveries_at state.Running r = GIVE_UP * receiver_steps r.stage r.files + (GIVE_UP - r.retries)
deliveries_at _ r = 0

-- how many deliveries a receiver takes at most until it has ended
abbrev pub receiver_deliveries : Receiver → ℕ
receiver_deliveries r = deliveries_at r.state r

-- ---- A sender

-- how many frames a batch has whose files have so many data blocks: of each file its block 0, its
-- blocks and its EOT, and the end block
unfoldable pub frames_in : List ℕ → ℕ
frames_in [] = 1
frames_in (retries ∷ more) = retries + 2 + frames_in more

-- how many frames there are from a position on
abbrev pub frames_from : List ℕ → Position → ℕ
frames_from counts (Header file) = count_at counts file + 2 + frames_in (drop (file + 1) counts)
frames_from counts (Block file k) =
    count_at counts file - k + 2 + frames_in (drop (file + 1) counts)
frames_from counts (Eot file) = 1 + frames_in (drop (file + 1) counts)
frames_from counts End = 1

-- how many steps of progress a sender has left at most: two for each frame, one of them where it
-- waits for C
abbrev pub sender_steps : List ℕ → Position → Mode → ℕ
sender_steps counts position Waiting = 2 * frames_from counts position
sender_steps counts position Sent = 2 * frames_from counts position - 1

abbrev pub deliveries_in : SendState → List ℕ → Standing → ℕ
deliveries_in Running counts s =
    GIVE_UP * sender_steps counts s.position s.mode + (GIVE_UP - s.retries)
deliveries_in _ counts s = 0

-- how many deliveries a sender takes at most until it has ended
abbrev pub sender_deliveries : SenderParts → ℕ
sender_deliveries s = deliveries_in s.standing.state (counts s) s.standing
