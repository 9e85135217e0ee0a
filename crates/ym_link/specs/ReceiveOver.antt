-- A receiver over a port: its table, folded over the deliveries that are read (this profile).
use Rattle.std.specs.Prelude.{◌≡◌, ◌≢◌, ℕ, Bool, true, is_ok, List, [], Result, Ok, Err}
use Rattle.std.specs.declared.alloc.AllocError.{AllocError}
use Rattle.ym_frame.specs.Frame.{verdict_of}
use Rattle.ym_frame.specs.WholeFrame.{IsThere, item_in, length_in}
use Rattle.ym_frame.specs.declared.frame.Whole.{Whole}
use Rattle.ym_frame.specs.Control.{reply_bytes}
use Rattle.ym_frame.specs.declared.control.Reply.{Reply}
use Rattle.ym_frame.specs.declared.control.Reply.TheVariants.{Silence}
use Rattle.ym_core.specs.Hearing.{heard_of}
use Rattle.ym_link.specs.Port.{Tape, after_write}
use Rattle.ym_link.specs.Delivery.{Taken, taken}
use Rattle.ym_link.specs.ReceiverInto.{ReceiverParts, IsReceiver, HearsGives}
use Rattle.ym_core.specs.declared.delivery.Heard.{Heard}
use Rattle.ym_link.specs.declared.end_fault.EndFault.{EndFault}
use Rattle.ym_link.specs.declared.end_fault.EndFault.TheVariants as fault
use Rattle.ym_core.specs.declared.state.RecvState.TheVariants as state

-- ---- What is read

-- the delivery begins with a frame, which ends it
abbrev pub has_item : List ℕ → Bool
has_item bytes = is_ok (verdict_of bytes)

-- this frame stands at the front of these bytes
pub record IsFound (bytes : List ℕ) (whole : Whole) : Type 0 where
  pub there : IsThere whole bytes
  pub exact : verdict_of bytes ≡ Ok (item_in whole bytes, length_in whole)

-- the delivery that is read next
abbrev pub delivery_at : Tape → Taken
delivery_at t = taken has_item [] t.coming

abbrev pub heard_in : Result (List ℕ) EndFault → Result Heard EndFault
heard_in (Ok bytes) = Ok (heard_of bytes)
heard_in (Err fault) = Err fault

-- what is heard next, or why nothing is
abbrev pub heard_at : Tape → Result Heard EndFault
heard_at t = heard_in (delivery_at t).delivery

-- the port behind that delivery
abbrev pub behind : Tape → Tape
behind t = record t { coming = (delivery_at t).rest }

-- ---- What is done

-- how a call leaves the receiver and the port, and what it answers
pub record Outcome : Type 0 where
  pub receiver : ReceiverParts
  pub tape : Tape
  pub answer : Result Unit EndFault

-- How a call may end, delivery by delivery: at each one the sink may fail or want memory, and at
-- each reply the port may fail.
pub data Receives : ReceiverParts → Tape → Outcome → Type 0 where
  ended : (r : ReceiverParts) (t : Tape) → r.receiver.state ≢ state.Running
      → Receives r t (record { receiver = r; tape = t; answer = Ok tt })
  unread : (r : ReceiverParts) (t : Tape) (f : EndFault)
      → IsReceiver r → r.receiver.state ≡ state.Running → heard_at t ≡ Err f
      → Receives r t (record { receiver = r; tape = behind t; answer = Err f })
  unheard : (r : ReceiverParts) (t : Tape) (h : Heard) (e : AllocError)
      → IsReceiver r → r.receiver.state ≡ state.Running → heard_at t ≡ Ok h
      → HearsGives r h (Err e) r
      → Receives r t (record { receiver = r; tape = behind t; answer = Err fault.Memory })
  unwritten : (r : ReceiverParts) (t : Tape) (h : Heard) (reply : Reply) (new : ReceiverParts)
      → IsReceiver r → r.receiver.state ≡ state.Running → heard_at t ≡ Ok h
      → HearsGives r h (Ok reply) new → reply ≢ Silence
      → Receives r t (record { receiver = new; tape = behind t; answer = Err fault.Device })
  heard : (r : ReceiverParts) (t : Tape) (h : Heard) (reply : Reply) (new : ReceiverParts)
      (out : Outcome)
      → IsReceiver r → r.receiver.state ≡ state.Running → heard_at t ≡ Ok h
      → HearsGives r h (Ok reply) new
      → Receives new (after_write true (behind t) (reply_bytes reply)) out
      → Receives r t out
