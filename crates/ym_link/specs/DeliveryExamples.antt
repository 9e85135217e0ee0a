-- Deliveries to a receiver, computed.
use Rattle.std.specs.Prelude.{◌≡◌, List, [], ◌∷◌, Ok, Err, refl}
use Rattle.ym_frame.specs.Frame.{verdict_of}
use Rattle.ym_frame.specs.declared.frame.Item.TheVariants as item
use Rattle.ym_link.specs.Delivery.{Taken, taken, reads_in}
use Rattle.ym_link.specs.ReceiveOver.{has_item, heard_in}
use Rattle.ym_core.specs.declared.delivery.Heard.TheVariants as heard
use Rattle.ym_link.specs.declared.event.Event.{Event}
use Rattle.ym_link.specs.declared.event.Event.TheVariants.{Piece, Quiet}
use Rattle.ym_link.specs.declared.end_fault.EndFault.TheVariants.{Closed}

abbrev delivery : List Event → Taken
delivery events = taken has_item [] events

-- an EOT ends the delivery, and what stands behind it in the same read is dropped
eot_and_more : delivery (Piece (0x04 ∷ 0x06 ∷ []) ∷ Quiet ∷ []) ≡
    record { delivery = Ok (0x04 ∷ 0x06 ∷ []); rest = Quiet ∷ [] }
unfolding taken verdict_of
eot_and_more = refl

eot_is_heard : heard_in (Ok (0x04 ∷ 0x06 ∷ [])) ≡ Ok (heard.Item item.Eot)
unfolding verdict_of
eot_is_heard = refl

-- CAN CAN in two pieces is one delivery
cancel_in_pieces : delivery (Piece (0x18 ∷ []) ∷ Piece (0x18 ∷ []) ∷ []) ≡
    record { delivery = Ok (0x18 ∷ 0x18 ∷ []); rest = [] }
unfolding taken verdict_of
cancel_in_pieces = refl

two_reads : reads_in has_item [] (Piece (0x18 ∷ []) ∷ Piece (0x18 ∷ []) ∷ []) ≡ 2
unfolding reads_in verdict_of
two_reads = refl

-- a quiet line is a delivery of no bytes
quiet : delivery (Quiet ∷ []) ≡ record { delivery = Ok []; rest = [] }
unfolding taken verdict_of
quiet = refl

-- past the last event the port is closed, and what was read is dropped
closed : delivery (Piece (0x18 ∷ []) ∷ []) ≡ record { delivery = Err Closed; rest = [] }
unfolding taken verdict_of
closed = refl
