-- How many deliveries are heard in a call of an engine, and how many of them bring progress (this
-- profile).
use Rattle.std.specs.Prelude.{ℕ, ◌+◌, ◌-◌, ◌/◌, ◌==◌, if◌then◌else◌, List, ◌++◌, sum_by, option_to_list}
use Rattle.ym_header.specs.Header.{HeaderParts}
use Rattle.ym_link.specs.Port.{Tape}
use Rattle.ym_link.specs.ReceiverInto.{ReceiverParts}
use Rattle.ym_link.specs.ReceiveOver.{Receives, ended, unread, unheard, unwritten, heard}
use Rattle.ym_link.specs.ReceiveOver as receiving
use Rattle.ym_link.specs.Sender.{SenderParts}
use Rattle.ym_link.specs.SendOver as sending
use Rattle.ym_core.specs.declared.stage.Stage.{Stage}
use Rattle.ym_core.specs.declared.stage.Stage.TheVariants.{AwaitHeader, InFile}
use Rattle.ym_core.specs.declared.state.RecvState.{RecvState}
use Rattle.ym_core.specs.declared.state.RecvState.TheVariants as state
use Rattle.ym_core.specs.declared.state.SendState.{SendState}
use Rattle.ym_core.specs.declared.state.SendState.TheVariants.{Running}

-- ---- A receiver

-- how many blocks of 128 bytes hold so many bytes
abbrev pub blocks_in : ℕ → ℕ
blocks_in length = (length + 127) / 128

-- the steps of progress of these files at most: of each its header, its blocks and two EOTs
abbrev pub steps_of : List HeaderParts → ℕ
steps_of headers = sum_by (λ (h : HeaderParts). blocks_in h.length + 3) headers

-- the headers that were accepted: those of the committed files and of the open one
abbrev pub accepted : ReceiverParts → List HeaderParts
accepted r = r.kept.headers ++ option_to_list r.kept.opened

-- The steps that a receiver has taken at most, where these files are committed: of the open one its
-- header, the blocks that are no longer missing, and a first EOT.
abbrev pub steps_taken : Stage → List HeaderParts → ℕ
steps_taken AwaitHeader headers = steps_of headers
steps_taken (InFile file) headers =
    steps_of headers + (blocks_in file.length - blocks_in (file.length - file.taken)) +
    (if file.first_eot then 2 else 1)

abbrev pub steps_at : ReceiverParts → ℕ
steps_at r = steps_taken r.receiver.stage r.kept.headers

-- a delivery brought progress where the receiver goes on and counts from 0
abbrev pub progress_in : RecvState → ℕ → ℕ
progress_in state.Running retries = if retries == 0 then 1 else 0
progress_in _ retries = 0

abbrev pub progress_at : ReceiverParts → ℕ
progress_at r = progress_in r.receiver.state r.receiver.retries

abbrev pub receiver_hears : (r : ReceiverParts) (t : Tape) (out : receiving.Outcome) →
    Receives r t out → ℕ
receiver_hears r t out (ended _ _ over) = 0
receiver_hears r t out (unread _ _ f is on none) = 0
receiver_hears r t out (unheard _ _ h e is on some gives) = 1
receiver_hears r t out (unwritten _ _ h reply new is on some gives spoken) = 1
receiver_hears r t out (heard _ _ h reply new _ is on some gives later) =
    receiver_hears new _ out later + 1

abbrev pub receiver_progress : (r : ReceiverParts) (t : Tape) (out : receiving.Outcome) →
    Receives r t out → ℕ
receiver_progress r t out (ended _ _ over) = 0
receiver_progress r t out (unread _ _ f is on none) = 0
receiver_progress r t out (unheard _ _ h e is on some gives) = 0
receiver_progress r t out (unwritten _ _ h reply new is on some gives spoken) = progress_at new
receiver_progress r t out (heard _ _ h reply new _ is on some gives later) =
    receiver_progress new _ out later + progress_at new

-- ---- A sender

abbrev pub sender_progress_in : SendState → ℕ → ℕ
sender_progress_in Running retries = if retries == 0 then 1 else 0
sender_progress_in _ retries = 0

abbrev pub sender_progress_at : SenderParts → ℕ
sender_progress_at s = sender_progress_in s.standing.state s.standing.retries

abbrev pub sender_hears : (s : SenderParts) (t : Tape) (out : sending.Outcome) →
    sending.Sends s t out → ℕ
sender_hears s t out (sending.ended _ _ over) = 0
sender_hears s t out (sending.unwritten _ _ is some) = 0
sender_hears s t out (sending.unread _ _ f is on none) = 0
sender_hears s t out (sending.heard _ _ bytes new _ is on some gives later) =
    sender_hears new _ out later + 1

abbrev pub sender_progress : (s : SenderParts) (t : Tape) (out : sending.Outcome) →
    sending.Sends s t out → ℕ
sender_progress s t out (sending.ended _ _ over) = 0
sender_progress s t out (sending.unwritten _ _ is some) = 0
sender_progress s t out (sending.unread _ _ f is on none) = 0
sender_progress s t out (sending.heard _ _ bytes new _ is on some gives later) =
    sender_progress new _ out later + sender_progress_at new
