-- The history of a call, over any port: the deliveries that the end heard, one after another, and
-- the waits that the port's reads were given (this profile).
use Rattle.std.specs.Prelude.{◌≡◌, ℕ, zero, suc, ◌+◌, ◌*◌, ◌<◌, ◌≤◌, List, [], ◌∷◌, ◌++◌, length, replicate, All, Ok}
use Rattle.ym_frame.specs.Block.{BlockParts}
use Rattle.ym_frame.specs.declared.control.Reply.{Reply as Answer}
use Rattle.ym_frame.specs.declared.frame.Item.TheVariants as item
use Rattle.ym_core.specs.declared.delivery.Heard.{Heard}
use Rattle.ym_core.specs.declared.delivery.Heard.TheVariants as heard
use Rattle.ym_core.specs.declared.state.RecvState.TheVariants as receiver
use Rattle.ym_core.specs.declared.state.SendState.TheVariants as sender
use Rattle.ym_link.specs.Bound.{accepted, steps_of, steps_at, progress_at, sender_progress_at}
use Rattle.ym_link.specs.Deliveries.{frames_from}
use Rattle.ym_link.specs.ReceiverInto.{ReceiverParts, IsReceiver, HearsGives}
use Rattle.ym_link.specs.Sender.{SenderParts, IsSender, Hears, counts}
use Rattle.ym_link.specs.declared.port.Wait.{Wait}
use Rattle.ym_link.specs.declared.port.Wait.TheVariants.{Within, Reply}
use Rattle.ym_machine.specs.declared.limits.TheConstants.{GIVE_UP}
use Rattle.ym_link.specs.declared.port.TheConstants.{DELIVERY_LIMIT}

-- ---- The waits

-- of a delivery of so many reads: the longer one for its first bytes, and the shorter one for more
-- of it
abbrev pub waits_of : ℕ → List Wait
waits_of zero = []
waits_of (suc more) = Reply ∷ replicate more Within

-- of deliveries in order
abbrev pub waits_in : List ℕ → List Wait
waits_in [] = []
waits_in (reads ∷ more) = waits_of reads ++ waits_in more

-- a delivery takes one read at least, and 2048 at most
abbrev pub AreReads : ℕ → Type 0
AreReads reads = (0 < reads) × (reads ≤ DELIVERY_LIMIT)

-- behind the waits before stand those of one delivery
pub record ReadOnce (old new : List Wait) : Type 0 where
  pub reads : ℕ
  pub are : AreReads reads
  pub waits : new ≡ old ++ waits_of reads

-- behind the waits before stand those of so many deliveries
pub record Asks (deliveries : ℕ) (old new : List Wait) : Type 0 where
  pub reads : List ℕ
  pub few : All AreReads reads
  pub count : length reads ≡ deliveries
  pub waits : new ≡ old ++ waits_in reads

-- ---- A sender

-- the deliveries that it hears while it runs, and how many of them bring progress
pub data SenderHears : SenderParts → List (List ℕ) → ℕ → SenderParts → Type 0 where
  sender_none : (s : SenderParts) → SenderHears s [] 0 s
  sender_more : (s : SenderParts) (deliveries : List (List ℕ)) (progress : ℕ)
      (between : SenderParts) (bytes : List ℕ) (new : SenderParts)
      → SenderHears s deliveries progress between → IsSender between
      → between.standing.state ≡ sender.Running → length bytes ≤ DELIVERY_LIMIT
      → Hears between bytes new
      → SenderHears s (deliveries ++ bytes ∷ []) (progress + sender_progress_at new) new

-- at most ten for each step of progress and ten more; and there are at most two such steps for each
-- frame from its place on
pub record SenderHistory (old : SenderParts) (deliveries : List (List ℕ))
    (new : SenderParts) : Type 0 where
  pub progress : ℕ
  pub hears : SenderHears old deliveries progress new
  pub few : length deliveries ≤ GIVE_UP * (progress + 1)
  pub steps : progress ≤ 2 * frames_from (counts old) old.standing.position

-- ---- A receiver

-- a block has 128 data bytes at least
abbrev pub IsLarge : Heard → Type 0
IsLarge h = (block : BlockParts) → h ≡ heard.Item (item.Block block) → 128 ≤ length block.body

-- what it hears while it runs, delivery by delivery, and how many of them bring progress
pub data ReceiverHears : ReceiverParts → List Heard → ℕ → ReceiverParts → Type 0 where
  receiver_none : (r : ReceiverParts) → ReceiverHears r [] 0 r
  receiver_more : (r : ReceiverParts) (deliveries : List Heard) (progress : ℕ)
      (between : ReceiverParts) (h : Heard) (reply : Answer) (new : ReceiverParts)
      → ReceiverHears r deliveries progress between → IsReceiver between
      → between.receiver.state ≡ receiver.Running → IsLarge h → HearsGives between h (Ok reply) new
      → ReceiverHears r (deliveries ++ h ∷ []) (progress + progress_at new) new

-- at most ten for each step of progress and ten more; and those steps, with the ones that it has
-- taken before, are among those of the files whose headers it accepted
pub record ReceiverHistory (old : ReceiverParts) (deliveries : List Heard)
    (new : ReceiverParts) : Type 0 where
  pub progress : ℕ
  pub hears : ReceiverHears old deliveries progress new
  pub few : length deliveries ≤ GIVE_UP * (progress + 1)
  pub steps : progress + steps_at old ≤ steps_of (accepted new)
