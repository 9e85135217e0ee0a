-- A sender over a port: its table, folded over the deliveries that are read (this profile).
use Rattle.std.specs.Prelude.{◌≡◌, ◌≢◌, ℕ, Bool, true, List, [], Option, None, Some, Result, Ok, Err}
use Rattle.ym_link.specs.Port.{Tape, after_write}
use Rattle.ym_link.specs.Delivery.{Taken, taken}
use Rattle.ym_core.specs.Scan.{controls_in}
use Rattle.ym_core.specs.Standing.{is_settled}
use Rattle.ym_link.specs.Sender.{SenderParts, IsSender, Hears, counts, spoken}
use Rattle.ym_link.specs.declared.end_fault.EndFault.{EndFault}
use Rattle.ym_link.specs.declared.end_fault.EndFault.TheVariants as fault
use Rattle.ym_core.specs.declared.state.SendState.TheVariants.{Running}

-- ---- What is written and read

abbrev pub written_for : Option (List ℕ) → List ℕ
written_for None = []
written_for (Some bytes) = bytes

-- the port once what is to be sent has been written
abbrev pub said : SenderParts → Tape → Tape
said s t = after_write true t (written_for (spoken s))

-- more bytes cannot change what the sender does with these, which ends the delivery
abbrev pub settles : SenderParts → List ℕ → Bool
settles s bytes = is_settled (counts s) s.standing (controls_in bytes)

-- the delivery that is read next
abbrev pub delivery_to : SenderParts → Tape → Taken
delivery_to s t = taken (settles s) [] t.coming

-- the port behind that delivery
abbrev pub behind : SenderParts → Tape → Tape
behind s t = record t { coming = (delivery_to s t).rest }

-- ---- What is done

-- how a call leaves the sender and the port, and what it answers
pub record Outcome : Type 0 where
  pub sender : SenderParts
  pub tape : Tape
  pub answer : Result Unit EndFault

-- How a call that began with a running sender may end, delivery by delivery: at each one the source
-- may fail, and at each frame the port may fail. A sender that has given up, or whose source
-- failed, has CAN CAN to say.
pub data Sends : SenderParts → Tape → Outcome → Type 0 where
  ended : (s : SenderParts) (t : Tape) → s.standing.state ≢ Running
      → Sends s t (record { sender = s; tape = said s t; answer = Ok tt })
  unwritten : (s : SenderParts) (t : Tape) → IsSender s → spoken s ≢ None
      → Sends s t (record { sender = s; tape = t; answer = Err fault.Device })
  unread : (s : SenderParts) (t : Tape) (f : EndFault)
      → IsSender s → s.standing.state ≡ Running → (delivery_to s t).delivery ≡ Err f
      → Sends s t (record { sender = s; tape = behind s (said s t); answer = Err f })
  heard : (s : SenderParts) (t : Tape) (bytes : List ℕ) (new : SenderParts) (out : Outcome)
      → IsSender s → s.standing.state ≡ Running
      → (delivery_to s t).delivery ≡ Ok bytes → Hears s bytes new
      → Sends new (behind s (said s t)) out
      → Sends s t out
