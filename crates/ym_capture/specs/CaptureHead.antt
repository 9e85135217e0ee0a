-- How a capture is written, as its first bytes say, and what stands before each packet.
use Rattle.std.specs.Prelude.{ℕ, ◌+◌, ◌-◌, ◌*◌, ◌/◌, ◌%◌, ◌^◌, ◌==◌, min, if◌then◌else◌, List, drop, Option, Some, None, Result, Ok, Err}
use Rattle.ym_capture.specs.CaptureNumbers.{four, four_in}
use Rattle.ym_capture.specs.declared.fault.CaptureFault.{CaptureFault}
use Rattle.ym_capture.specs.declared.fault.CaptureFault.TheVariants as fault
use Rattle.ym_capture.specs.declared.head.Form.{Form}
use Rattle.ym_capture.specs.declared.head.CaptureKind.{CaptureKind}
use Rattle.ym_capture.specs.declared.head.CaptureKind.TheVariants as kind
use Rattle.ym_capture.specs.declared.head.Link.{Link}
use Rattle.ym_capture.specs.declared.head.Link.TheVariants as link
use Rattle.ym_capture.specs.declared.head.ByteOrder.{ByteOrder}
use Rattle.ym_capture.specs.declared.head.ByteOrder.TheVariants.{HighFirst, LowFirst}
use Rattle.ym_capture.specs.declared.head.PacketHead.{PacketHead}
use Rattle.ym_capture.specs.declared.head.Part.{Part}
use Rattle.ym_capture.specs.declared.head.Part.TheVariants.{Micros, Nanos}

-- what a number of the first four bytes says
abbrev pub kind_for : ℕ → CaptureKind
kind_for magic =
    if magic == 0xa1b2c3d4 then kind.Pcap HighFirst Micros else
    if magic == 0xa1b23c4d then kind.Pcap HighFirst Nanos else
    if magic == 0xd4c3b2a1 then kind.Pcap LowFirst Micros else
    if magic == 0x4d3cb2a1 then kind.Pcap LowFirst Nanos else
    if magic == 0x0a0d0d0a then kind.Pcapng else
    kind.Other

abbrev pub kind_of : List ℕ → CaptureKind
kind_of prefix = kind_for (four prefix)

abbrev pub link_of : ℕ → Option Link
link_of number =
    if number == 0 then Some link.Loopback else
    if number == 1 then Some link.Ethernet else
    if number == 101 then Some link.Raw else
    if number == 113 then Some link.Cooked else
    if number == 276 then Some link.CookedAgain else
    None

abbrev pub form_for : ByteOrder → Part → ℕ → Option Link → Result Form CaptureFault
form_for order part number (Some link) = Ok (record { order = order; part = part; link = link })
form_for order part number None = Err (fault.Link number)

-- the number of the link stands behind 20 bytes, and its upper half means something else
abbrev pub form_of : ByteOrder → Part → List ℕ → Result Form CaptureFault
form_of order part head =
    let number = four_in order (drop 20 head) % 65536 in form_for order part number (link_of number)

abbrev pub micros_in : Part → ℕ → ℕ
micros_in Micros count = count
micros_in Nanos count = count / 1000

-- seconds, a part of a second, how many bytes follow, and how many there were on the line
abbrev pub packet_head : Form → List ℕ → PacketHead
packet_head form head = record {
  at = min (four_in form.order head * 1000000
      + micros_in form.part (four_in form.order (drop 4 head))) (2 ^ 64 - 1);
  length = four_in form.order (drop 8 head);
}
