-- The front of a capture, and a segment from port 1 to port 2, computed.
use Rattle.std.specs.Prelude.{◌≡◌, ℕ, List, [], ◌∷◌, Some, refl}
use Rattle.ym_told.specs.declared.way.Direction.TheVariants.{There, Back}
use Rattle.ym_capture.specs.CaptureHead.{kind_of}
use Rattle.ym_capture.specs.CaptureNumbers.{two, four}
use Rattle.ym_capture.specs.Flow.{seen_of}
use Rattle.ym_capture.specs.PacketParts.{number, opens, tcp_header_len, data_of, header_len, tcp_in, total_len}
use Rattle.ym_capture.specs.TwoSides.{first_sides, first_way_of, sides_for, source, target}
use Rattle.ym_capture.specs.declared.head.CaptureKind.TheVariants as kind
use Rattle.ym_capture.specs.declared.head.ByteOrder.TheVariants.{LowFirst}
use Rattle.ym_capture.specs.declared.head.Part.TheVariants.{Micros}
use Rattle.ym_capture.specs.declared.sides.Side.TheVariants.{First, Second}

-- the first bytes of what `tcpdump -w` writes here
low : kind_of (0xd4 ∷ 0xc3 ∷ 0xb2 ∷ 0xa1 ∷ 2 ∷ 0 ∷ 4 ∷ 0 ∷ []) ≡ kind.Pcap LowFirst Micros
unfolding four two
low = refl

record_of_lines : kind_of (0x30 ∷ 0x2e ∷ 0x30 ∷ 0x20 ∷ []) ≡ kind.Other
unfolding four two
record_of_lines = refl

-- number 2^32 - 2, and three bytes behind a header of 20
abbrev segment : List ℕ
segment =
    0 ∷ 1 ∷ 0 ∷ 2 ∷ 0xff ∷ 0xff ∷ 0xff ∷ 0xfe ∷ 0 ∷ 0 ∷ 0 ∷ 0
    ∷ 0x50 ∷ 0x10 ∷ 0xff ∷ 0xff ∷ 0 ∷ 0 ∷ 0 ∷ 0 ∷ 0x43 ∷ 0x06 ∷ 0x15 ∷ []

its_number : number segment ≡ 4294967294
unfolding number four two
its_number = refl

its_data : data_of segment ≡ 0x43 ∷ 0x06 ∷ 0x15 ∷ []
unfolding data_of tcp_header_len
its_data = refl

-- where number 0 comes next, two of its bytes came before: numbers go round
came_before : seen_of (Some 0) segment ≡ 2
unfolding seen_of opens number four two
came_before = refl

-- who begins by C receives, and who begins by a block sends; else the first end does
by_asking : first_way_of First 0x43 ≡ Back
by_asking = refl

by_a_block : first_way_of Second 0x01 ≡ Back
by_a_block = refl

by_text : first_way_of Second 0x6c ≡ There
by_text = refl

-- an opening from this port of 10.0.0.1, to port 9 of 10.0.0.2
abbrev call : ℕ → List ℕ
call port =
    0x45 ∷ 0 ∷ 0 ∷ 40 ∷ 0 ∷ 0 ∷ 0x40 ∷ 0 ∷ 64 ∷ 6 ∷ 0 ∷ 0 ∷ 10 ∷ 0 ∷ 0 ∷ 1 ∷ 10 ∷ 0 ∷ 0 ∷ 2
    ∷ 0 ∷ port ∷ 0 ∷ 9 ∷ 0 ∷ 0 ∷ 0 ∷ 0 ∷ 0 ∷ 0 ∷ 0 ∷ 0 ∷ 0x50 ∷ 2 ∷ 0 ∷ 0 ∷ 0 ∷ 0 ∷ 0 ∷ 0 ∷ []

-- who called from port 7 was refused, and calls from port 8
calls_once_more : (sides_for (first_sides (call 7)) (call 8)).first.port ≡ 8
unfolding source target tcp_in header_len total_len two four
calls_once_more = refl

-- where a byte came from port 7, that connection stays
had_a_byte :
    (sides_for (record (first_sides (call 7)) { first_way = Some There }) (call 8)).first.port ≡ 7
unfolding source target tcp_in header_len total_len two four
had_a_byte = refl
