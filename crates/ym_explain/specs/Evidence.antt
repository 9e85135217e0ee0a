-- What has to be seen of a session for each verdict, and which verdict comes first.
use Rattle.std.specs.Prelude.{Bool, true, false, not, nat_lt, ◌&&◌, ◌||◌, if◌then◌else◌, List, [], ◌∷◌}
use Rattle.ym_explain.specs.Asking.{is_by_g}
use Rattle.ym_explain.specs.Noting.{is_unheard, is_unsent}
use Rattle.ym_explain.specs.declared.verdict.TheConstants.{ORDER, ORDER_THERE, ORDER_BACK}
use Rattle.ym_explain.specs.declared.signs.Signs.{Signs}
use Rattle.ym_explain.specs.declared.verdict.Verdict.{Verdict}
use Rattle.ym_explain.specs.declared.verdict.Verdict.TheVariants.{Whole, Mended, Repeated, Unharmed, SenderDone, Zmodem, Echo, SevenBits, Noise, Xmodem, XmodemReceiver, YmodemGReceiver, NobodyAsked, EotAlone, NobodySent, NobodyAnswered, CancelledUnsent, FlowControl, SubEaten, EatenBytes, NoRoom, CutLength, PastLength, TooManyErrors, Damage, FellSilent, SenderCancelled, ReceiverCancelled, ReplyAhead, Stopped, Unheard}
use Rattle.ym_explain.specs.declared.verdict.Ways.{Ways}
use Rattle.ym_explain.specs.declared.verdict.Ways.TheVariants.{Both, There, Back}

-- the end of the batch was acknowledged, and no file is cut or went on past its length
abbrev pub is_finished : Signs → Bool
is_finished seen =
    seen.finished && not seen.cut_length && not seen.past_length && not seen.no_room

-- EOT came, and nothing of a block
abbrev pub has_eot_alone : Signs → Bool
has_eot_alone seen = seen.eot && not seen.framed && not seen.damaged

-- nothing of a block came, and none was acknowledged
abbrev pub has_sent_none : Signs → Bool
has_sent_none seen = not seen.framed && not seen.damaged && not seen.ahead

-- What was seen bears this verdict out. Who answers a frame is there, and had asked before the
-- record began. A damaged frame is mended by a whole block behind it.
abbrev pub shows : Verdict → Signs → Bool
shows Whole seen = is_finished seen && not seen.damaged && not seen.repeated
shows Mended seen = is_finished seen && seen.mended
shows Repeated seen = is_finished seen && seen.repeated
shows Unharmed seen = is_finished seen && seen.unmended
shows SenderDone seen = seen.over && not seen.unmended
shows Zmodem seen = seen.zmodem
shows Echo seen = seen.echoed
shows SevenBits seen = seen.damaged && not seen.high
shows Noise seen =
    (seen.junk && seen.high || seen.back_high && not seen.asked)
    && not seen.framed && not seen.headed
shows Xmodem seen = seen.unnamed
shows XmodemReceiver seen = seen.nak_first && not seen.asked
shows YmodemGReceiver seen = is_by_g seen.asking
shows NobodyAsked seen = not seen.asked && not seen.heard
shows EotAlone seen = has_eot_alone seen
shows NobodySent seen = not seen.framed && not seen.damaged
shows NobodyAnswered seen = has_sent_none seen && not seen.sender_cancelled
shows CancelledUnsent seen = has_sent_none seen && seen.sender_cancelled
shows FlowControl seen = seen.short && not seen.flow && seen.sub
shows SubEaten seen = seen.short && seen.flow && not seen.sub
shows EatenBytes seen = seen.short && not seen.flow && not seen.sub
shows NoRoom seen = seen.no_room
shows CutLength seen = seen.cut_length
shows PastLength seen = seen.past_length
shows TooManyErrors seen = seen.gave_up
shows Damage seen = seen.unmended
shows FellSilent seen = nat_lt 2 seen.unanswered && not seen.receiver_cancelled
shows SenderCancelled seen = seen.sender_cancelled
shows ReceiverCancelled seen = seen.receiver_cancelled
shows ReplyAhead seen = seen.ahead
shows Stopped seen = true
shows Unheard seen = true

-- the first of them that is shown
abbrev pub first_shown : Signs → List Verdict → Verdict
first_shown seen [] = Stopped
first_shown seen (verdict ∷ more) =
    if shows verdict seen then verdict else first_shown seen more

abbrev pub order_of : Ways → List Verdict
order_of Both = ORDER
order_of There = ORDER_THERE
order_of Back = ORDER_BACK

-- The ways of which something is known. A sender that goes on to the next block has heard an
-- answer, and a receiver that acknowledges has heard a frame: where none of these is there, that
-- way was not recorded.
abbrev pub known_ways : Ways → Signs → Ways
known_ways Both seen =
    if seen.went_on && is_unheard seen then There
    else (if seen.took_unseen && is_unsent seen then Back else Both)
known_ways There seen = There
known_ways Back seen = Back

-- what is told of what was seen, where these ways were recorded
abbrev pub verdict_in : Ways → Signs → Verdict
verdict_in ways seen = first_shown seen (order_of (known_ways ways seen))

-- it says that the session is whole
abbrev pub tells_whole : Verdict → Bool
tells_whole Whole = true
tells_whole Mended = true
tells_whole Repeated = true
tells_whole Unharmed = true
tells_whole verdict = false
