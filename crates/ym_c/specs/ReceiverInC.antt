-- A receiver as C keeps it, and what its calls do.
use Rattle.std.specs.Prelude.{ℕ, ◌≡◌, ◌≤◌, ◌<◌, ◌⊎◌, ◌++◌, List, [], length, take, drop, ◌==◌, if◌then◌else◌, refl}
use Rattle.ym_header.specs.declared.stamp.Stamp.{Stamp}
use Rattle.ym_header.specs.declared.stamp.Stamp.TheVariants.{Nothing, Time, TimeMode}
use Rattle.ym_core.specs.Receiver.{Receiver, Call, No_call, Begins, Adds, Commits, Step, ends}
use Rattle.ym_core.specs.declared.delivery.Heard.{Heard}
use Rattle.ym_core.specs.declared.delivery.Heard.TheVariants as heard
use Rattle.ym_core.specs.declared.state.RecvState.{RecvState}
use Rattle.ym_core.specs.declared.state.RecvState.TheVariants.{Running, Finished, SinkFailed}
use Rattle.ym_frame.specs.declared.control.Reply.TheVariants.{Ack, Silence, Cancel}
use Rattle.ym_c.specs.declared.receiver.YmReceiver.{YmReceiver}
use Rattle.ym_c.specs.declared.receiver.YmAsk.{YmAsk}
use Rattle.ym_c.specs.Codes.{reply_code}
use Rattle.ym_c.specs.Stands.{Keeps, IsRubbish, ended_receiver}

-- a receiver, and what came of the delivery that is coming
pub record Holds (r : YmReceiver) (core : Receiver) (held : List ℕ) : Type 0 where
  pub stand : Keeps r.stand core
  pub room : r.len ≤ 1029
  pub bytes : take r.len r.held ≡ held

-- a receiver that has heard its delivery, and waits for the word that its host has done what the
-- step asks
pub record Awaits (r : YmReceiver) (core : Receiver) (step : Step) : Type 0 where
  pub stand : Keeps r.stand core
  pub next : Keeps r.next step.receiver
  pub reply : r.reply ≡ reply_code step.reply
  pub room : r.len ≤ 1029

abbrev pub IsStamped : YmAsk → Stamp → Type 0
IsStamped ask Nothing = ask.stamp ≡ 0
IsStamped ask (Time time) = (ask.stamp ≡ 1) × (ask.time ≡ time)
IsStamped ask (TimeMode time mode) = (ask.stamp ≡ 2) × (ask.time ≡ time) × (ask.mode ≡ mode)

-- what the ask tells of a call
abbrev pub IsAsk : Call → YmAsk → Type 0
IsAsk No_call ask = ask.kind ≡ 0
IsAsk (Begins header) ask =
    (ask.kind ≡ 1) × (ask.length ≡ header.length) × (ask.count ≡ length header.name)
    × IsStamped ask header.stamp
IsAsk (Adds bytes) ask = (ask.kind ≡ 2) × (ask.count ≡ length bytes)
IsAsk Commits ask = ask.kind ≡ 3

-- where the name of a file, or the bytes to add, stand in the delivery
abbrev pub IsPlaced : Call → YmAsk → List ℕ → Type 0
IsPlaced (Begins header) ask held = take ask.count (drop ask.at held) ≡ header.name
IsPlaced (Adds bytes) ask held = take ask.count (drop ask.at held) ≡ bytes
IsPlaced _ ask held = Unit {0}

-- whether no frame was heard
abbrev pub bad_code : Heard → ℕ
bad_code (heard.Item item) = 0
bad_code heard.Bad = 1

-- what is taken of a step where the host fails: a receiver that runs ends, and one that has ended
-- is not failed
abbrev pub failing : RecvState → Receiver → Step → Step
failing Running core step = ends core SinkFailed Cancel
failing ended core step = step

abbrev pub outcome : ℕ → Receiver → Step → Step
outcome done core step = if done == 0 then failing core.state core step else step

-- at the end block that comes again, nothing fails: it gets its ACK
again : Receiver → Step
again core = record { receiver = core; reply = Ack; call = No_call }

not_failed : (core : Receiver) → core.state ≡ Finished → outcome 0 core (again core) ≡ again core
not_failed core e = rw e refl

-- ---- Rubbish

-- a struct that is no receiver: by where it stands, or by more bytes held than there is room
abbrev pub IsNoReceiver : YmReceiver → Type 0
IsNoReceiver r = IsRubbish r.stand ⊎ (1029 < r.len)

-- nothing is asked, and nothing will be said: it has ended
pub record Ignores (r : YmReceiver) (ask : YmAsk) : Type 0 where
  pub asks : ask.kind ≡ 0
  pub says : r.reply ≡ reply_code Silence
  pub next : Keeps r.next ended_receiver
