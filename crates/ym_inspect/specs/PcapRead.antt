-- A capture of one TCP connection: how it is written, and packets, one behind another.
use Rattle.std.specs.Prelude.{◌≡◌, ◌≢◌, ◌⊎◌, ℕ, ◌+◌, ◌<◌, ◌≤◌, Bool, List, [], ◌++◌, length, take, Option, Some, Result, Ok, Err}
use Rattle.ym_capture.specs.CaptureHead.{form_of, kind_of, packet_head}
use Rattle.ym_capture.specs.OneConnection.{none_yet, behind_packet, fresh_in, way_in}
use Rattle.ym_capture.specs.declared.connection.Connection.{Connection}
use Rattle.ym_capture.specs.declared.fault.CaptureFault.{CaptureFault}
use Rattle.ym_capture.specs.declared.fault.CaptureFault.TheVariants.{Cut, Long}
use Rattle.ym_capture.specs.declared.head.Form.{Form}
use Rattle.ym_capture.specs.declared.head.CaptureKind.{CaptureKind}
use Rattle.ym_capture.specs.declared.head.CaptureKind.TheVariants as kind
use Rattle.ym_capture.specs.declared.head.ByteOrder.{ByteOrder}
use Rattle.ym_capture.specs.declared.head.TheConstants.{HEAD, PACKET_HEAD, MOST_PACKET}
use Rattle.ym_capture.specs.declared.head.Part.{Part}
use Rattle.ym_explain.specs.declared.verdict.Verdict.{Verdict}
use Rattle.ym_explain.specs.declared.verdict.Ways.TheVariants as ways
use Rattle.ym_told.specs.declared.way.Direction.{Direction}
use Rattle.ym_inspect.specs.CaptureTold.{Explains, Tells, tagged}
use Rattle.ym_inspect.specs.Inspecting.{Parts, nothing_buffered}
use Rattle.ym_inspect.specs.Recorded.{capped}
use Rattle.ym_inspect.specs.FirstBytes.{prefix_of_text}
use Rattle.ym_inspect.specs.RecordRead.{IsFirstLine, TellsRecord}
use Rattle.ym_inspect.specs.declared.fault.InspectFault.{InspectFault}
use Rattle.ym_inspect.specs.declared.fault.InspectFault.TheVariants as fault

-- how far a capture was read: how it is written, its connection, and how many bytes there were
pub record Reached : Type 0 where
  pub form : Form
  pub connection : Connection
  pub position : ℕ

abbrev pub reached : Form → Connection → ℕ → Reached
reached form connection position =
    record { form = form; connection = connection; position = position }

abbrev pub at_first : Form → Bool → Reached
at_first form turned = reached form (none_yet form.link turned) HEAD

-- how many bytes of a packet follow what stands before it
abbrev pub length_in : Form → List ℕ → ℕ
length_in form head = (packet_head form head).length

abbrev pub behind_body : Reached → List ℕ → Connection → Reached
behind_body at body connection =
    reached at.form connection (capped (at.position + (PACKET_HEAD + length body)))

-- the bytes that a packet brings, each with its way
abbrev pub brings : Reached → List ℕ → Connection → List (Direction × ℕ)
brings at body behind = tagged (way_in behind body) (fresh_in at.connection body)

-- These bytes are the front of a capture up to the end of a packet. They bring these, each with its
-- way.
pub data Captured :
    Bool → ByteOrder → Part → List ℕ → Reached → List (Direction × ℕ) → Type 0 where
  begins :
      (turned : Bool) (order : ByteOrder) (part : Part) (head : List ℕ) (form : Form)
      → length head ≡ HEAD → form_of order part head ≡ Ok form
      → Captured turned order part head (at_first form turned) []
  packet :
      (turned : Bool) (order : ByteOrder) (part : Part) (text : List ℕ) (at : Reached)
      (read : List (Direction × ℕ)) (head body : List ℕ) (behind : Connection)
      → Captured turned order part text at read
      → length head ≡ PACKET_HEAD → length body ≡ length_in at.form head
      → behind_packet at.connection body ≡ Ok behind
      → Captured turned order part (text ++ (head ++ body)) (behind_body at body behind)
      (read ++ brings at body behind)

-- What follows is no packet, for this reason: it ends too soon, or the packet is too long or wrong.
pub data IsWrong : Reached → List ℕ → CaptureFault → Type 0 where
  ends_in_head :
      (at : Reached) (rest : List ℕ) → rest ≢ [] → length rest < PACKET_HEAD → IsWrong at rest Cut
  ends_in_body :
      (at : Reached) (head body : List ℕ) → length head ≡ PACKET_HEAD
      → length body < length_in at.form head → IsWrong at (head ++ body) Cut
  too_long :
      (at : Reached) (head more : List ℕ) → length head ≡ PACKET_HEAD
      → MOST_PACKET < length_in at.form head → IsWrong at (head ++ more) Long
  is_wrong :
      (at : Reached) (head body more : List ℕ) (why : CaptureFault)
      → length head ≡ PACKET_HEAD → length body ≡ length_in at.form head
      → behind_packet at.connection body ≡ Err why
      → IsWrong at (head ++ (body ++ more)) why

-- A capture cannot be read on behind so many bytes, for this reason.
pub record StopsAt (turned : Bool) (order : ByteOrder) (part : Part) (text : List ℕ) (position : ℕ)
    (why : CaptureFault) : Type 0 where
  pub prefix : List ℕ
  pub rest : List ℕ
  pub at : Reached
  pub read : List (Direction × ℕ)
  pub split : text ≡ prefix ++ rest
  pub captured : Captured turned order part prefix at read
  pub position_is : position ≡ at.position
  pub wrong : IsWrong at rest why

pub data Stops : Bool → ByteOrder → Part → List ℕ → ℕ → CaptureFault → Type 0 where
  at_head :
      (turned : Bool) (order : ByteOrder) (part : Part) (text : List ℕ)
      → length text < HEAD → Stops turned order part text 0 Cut
  at_link :
      (turned : Bool) (order : ByteOrder) (part : Part) (head rest : List ℕ) (why : CaptureFault)
      → length head ≡ HEAD → form_of order part head ≡ Err why
      → Stops turned order part (head ++ rest) 0 why
  at_packet :
      (turned : Bool) (order : ByteOrder) (part : Part) (text : List ℕ) (position : ℕ)
      (why : CaptureFault) → StopsAt turned order part text position why
      → Stops turned order part text position why

-- A fault of a packet is that of the capture.
abbrev pub SaysPosition : Bool → ByteOrder → Part → InspectFault → List ℕ → Type 0
SaysPosition turned order part (fault.Packet position why) text =
    Stops turned order part text position why
SaysPosition turned order part fault.Pcapng text = Unit {0}
SaysPosition turned order part (fault.Line number why) text = Unit {0}
SaysPosition turned order part (fault.Cut number) text = ⊥
SaysPosition turned order part fault.Memory text = Unit {0}
SaysPosition turned order part fault.Read text = Unit {0}
SaysPosition turned order part fault.Write text = Unit {0}
SaysPosition turned order part fault.Endless text = Unit {0}

-- a capture under way: how far it was read, the bytes of the packet under way, and what is told
pub record Underway : Type 0 where
  pub at : Reached
  pub buffered : List ℕ
  pub parts : Parts

-- of a capture that is written so no packet was read
abbrev pub none_read : Form → Bool → Underway
none_read form turned =
    record { at = at_first form turned; buffered = []; parts = nothing_buffered }

-- what was read of a capture and told of it: all but the packet under way, which is held
pub record PacketsTold (turned : Bool) (order : ByteOrder) (part : Part) (text : List ℕ)
    (before : Option (List ℕ)) (now : Underway) (out : Option (List ℕ)) : Type 0 where
  pub prefix : List ℕ
  pub read : List (Direction × ℕ)
  pub split : text ≡ prefix ++ now.buffered
  pub captured : Captured turned order part prefix now.at read
  pub tells : Tells nothing_buffered before read now.parts out

-- What was read and told so far goes on, with these bytes more.
abbrev pub TellsOn :
    List ℕ → Underway → Option (List ℕ) → Underway → Option (List ℕ) → Type 0
TellsOn more old out new after =
    (turned : Bool) (order : ByteOrder) (part : Part) (text : List ℕ) (before : Option (List ℕ))
    → PacketsTold turned order part text before old out
    → PacketsTold turned order part (text ++ more) before new after

-- Or it does not go on, with these bytes more, for a fault that says where.
abbrev pub StopsWith : List ℕ → Underway → Option (List ℕ) → InspectFault → Type 0
StopsWith more old out fault =
    (turned : Bool) (order : ByteOrder) (part : Part) (text : List ℕ) (before : Option (List ℕ))
    → PacketsTold turned order part text before old out
    → SaysPosition turned order part fault (text ++ more)

-- the packet under way is not whole
abbrev pub IsOpen : Underway → Type 0
IsOpen now =
    (length now.buffered < PACKET_HEAD)
    ⊎ ((PACKET_HEAD ≤ length now.buffered)
    × (length now.buffered < PACKET_HEAD + length_in now.at.form (take PACKET_HEAD now.buffered)))

-- all that a capture brings is told in its order, and nothing else
pub record TellsPcap (turned : Bool) (order : ByteOrder) (part : Part) (text : List ℕ)
    (before : Option (List ℕ)) (verdict : Verdict) (after : Option (List ℕ)) : Type 0 where
  pub at : Reached
  pub read : List (Direction × ℕ)
  pub captured : Captured turned order part text at read
  pub explains : Explains ways.Both read before verdict after

-- Behind so many more bytes, which are the last, all of it is told.
abbrev pub TellsAllOf :
    List ℕ → Underway → Option (List ℕ) → Verdict → Option (List ℕ) → Type 0
TellsAllOf rest old out verdict after =
    (turned : Bool) (order : ByteOrder) (part : Part) (text : List ℕ) (before : Option (List ℕ))
    → PacketsTold turned order part text before old out
    → TellsPcap turned order part (text ++ rest) before verdict after

-- ---- A file of either kind

abbrev pub TellsKind :
    CaptureKind → Bool → List ℕ → Option (List ℕ) → Verdict → Option (List ℕ) → Type 0
TellsKind (kind.Pcap order part) turned text before verdict after =
    TellsPcap turned order part text before verdict after
TellsKind kind.Pcapng turned text before verdict after = ⊥
TellsKind kind.Other turned text before verdict after = TellsRecord text before verdict after

-- The first bytes say whether it is a capture of packets or a record, and all of it is told.
abbrev pub TellsCapture :
    Bool → List ℕ → Option (List ℕ) → Verdict → Option (List ℕ) → Type 0
TellsCapture turned text before verdict after =
    TellsKind (kind_of (prefix_of_text text)) turned text before verdict after

abbrev pub FaultOfKind : CaptureKind → Bool → InspectFault → List ℕ → Type 0
FaultOfKind (kind.Pcap order part) turned fault text = SaysPosition turned order part fault text
FaultOfKind kind.Pcapng turned fault text = Unit {0}
FaultOfKind kind.Other turned fault text = IsFirstLine fault text

-- the place of a capture, or the line of a record, from which it cannot be read on
abbrev pub FaultOfCapture : Bool → InspectFault → List ℕ → Type 0
FaultOfCapture turned fault text =
    FaultOfKind (kind_of (prefix_of_text text)) turned fault text
