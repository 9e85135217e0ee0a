-- A session of one file with one data block, and some that went wrong, computed.
use Rattle.std.specs.Prelude.{◌≡◌, ℕ, List, [], ◌∷◌, ◌++◌, true, false, refl}
use Rattle.ym_frame.specs.declared.control.Control.TheVariants.{Ack, Nak, Start}
use Rattle.ym_frame.specs.declared.frame.Item.{Item}
use Rattle.ym_frame.specs.declared.frame.Item.TheVariants as item
use Rattle.ym_explain.specs.Answered.{byte_line}
use Rattle.ym_explain.specs.Evidence.{first_shown}
use Rattle.ym_explain.specs.declared.verdict.TheConstants.{ORDER, ORDER_THERE}
use Rattle.ym_explain.specs.Noting.{nothing_seen, seen_of}
use Rattle.ym_explain.specs.Telling.{tells, told_of}
use Rattle.ym_explain.specs.declared.answered.AnswerLine.TheVariants as line
use Rattle.ym_explain.specs.declared.signs.Sign.{Sign}
use Rattle.ym_explain.specs.declared.signs.Sign.TheVariants as sign
use Rattle.ym_explain.specs.declared.told.FrameKind.TheVariants as kind
use Rattle.ym_explain.specs.declared.told.SendPosition.TheVariants as position
use Rattle.ym_explain.specs.declared.verdict.Verdict.{Verdict}
use Rattle.ym_explain.specs.declared.verdict.Verdict.TheVariants as verdict

abbrev block : ℕ → ℕ → Item
block number first = item.Block (record { number = number; body = first ∷ [] })

-- a block 0 with a name begins a file, and without one ends the batch
name : told_of position.Before (block 0 0x61) ≡ tells kind.Name position.Named
name = refl

end : told_of position.Ended (block 0 0) ≡ tells kind.End position.Over
end = refl

-- behind the end it begins another batch with a name, and without one it is the end once more
another : told_of position.Over (block 0 0x61) ≡ tells kind.Name position.Named
another = refl

end_again : told_of position.Over (block 0 0) ≡ tells kind.Copy position.Over
end_again = refl

-- behind block 255 comes block 0, which is no name there
wraps : told_of (position.Data 255) (block 0 0x61) ≡ tells kind.Data (position.Data 0)
wraps = refl

again : told_of (position.Data 7) (block 7 0x61) ≡ tells kind.Copy (position.Data 7)
again = refl

lost : told_of (position.Data 7) (block 9 0x61) ≡ tells kind.OutOfTurn (position.Data 9)
lost = refl

ack : byte_line 0x06 ≡ line.Answer Ack
ack = refl

-- the verdict of what passed
abbrev verdict_on : List Sign → Verdict
verdict_on signs = first_shown (seen_of nothing_seen signs) ORDER

-- a file of one data block, and the block that ends the batch
abbrev batch : List Sign
batch =
    sign.Answer Start ∷ sign.Block position.Before kind.Name ∷ sign.Answer Ack ∷
    sign.Answer Start ∷ sign.Block position.Named kind.Data ∷ sign.Answer Ack ∷
    sign.Eot ∷ sign.Answer Nak ∷ sign.Eot ∷ sign.Answer Ack ∷ sign.Answer Start ∷
    sign.Block position.Ended kind.End ∷ []

whole : verdict_on (batch ++ (sign.Answer Ack ∷ [])) ≡ verdict.Whole
whole = refl

-- a damaged frame behind the end, where no whole block follows, changed nothing
damage_behind :
    verdict_on (batch ++ (sign.Answer Ack ∷ sign.Damage false true ∷ [])) ≡ verdict.Unharmed
damage_behind = refl

-- a damaged copy of the end, and a whole one behind it
end_mended :
    verdict_on (batch ++ (sign.Damage false true ∷ sign.Block position.Over kind.Copy ∷
    sign.Answer Ack ∷ [])) ≡ verdict.Mended
end_mended = refl

-- a block of a file all of whose length had come
past_length :
    verdict_on (sign.PastLength ∷ (batch ++ (sign.Answer Ack ∷ []))) ≡ verdict.PastLength
past_length = refl

-- an ACK behind which its receiver cancels is none
taken_back :
    verdict_on (batch ++ (sign.Answer Ack ∷ sign.ReceiverCancel ∷ [])) ≡ verdict.ReceiverCancelled
taken_back = refl

-- the sender heard no ACK of its end, whether one came before its cancel or behind it
unheard_end :
    verdict_on (batch ++ (sign.Answer Ack ∷ sign.SenderCancel ∷ [])) ≡ verdict.SenderCancelled
unheard_end = refl

late_ack :
    verdict_on (batch ++ (sign.SenderCancel ∷ sign.Answer Ack ∷ [])) ≡ verdict.SenderCancelled
late_ack = refl

-- another batch behind the first, of which no data came, and one that came to its end
abbrev name_behind : List Sign
name_behind =
    sign.Answer Ack ∷ sign.Answer Start ∷ sign.Block position.Over kind.Name ∷ sign.Answer Ack ∷ []

cut_short : verdict_on (batch ++ name_behind) ≡ verdict.Stopped
cut_short = refl

both_whole :
    verdict_on (batch ++ name_behind ++ (sign.Answer Start ∷ sign.Eot ∷ sign.Answer Ack ∷
    sign.Answer Start ∷ sign.Block position.Ended kind.End ∷ sign.Answer Ack ∷ []))
    ≡ verdict.Whole
both_whole = refl

-- a receiver of YMODEM-g, behind text and alone; one that asked by C, and a text with the letter
by_g : verdict_on (sign.AnswerJunk 0x47 ∷ []) ≡ verdict.YmodemGReceiver
by_g = refl

by_g_behind_text :
    verdict_on (sign.AnswerJunk 0x67 ∷ sign.AnswerJunk 0x0a ∷ sign.AnswerJunk 0x47 ∷
    sign.AnswerJunk 0x47 ∷ sign.AnswerJunk 0x24 ∷ []) ≡ verdict.YmodemGReceiver
by_g_behind_text = refl

by_c_and_g :
    verdict_on (sign.AnswerJunk 0x47 ∷ sign.Answer Start ∷ []) ≡ verdict.NobodyAnswered
by_c_and_g = refl

-- several G, and C behind them, which the told lines take for text
by_g_then_c :
    verdict_on (sign.AnswerJunk 0x47 ∷ sign.AnswerJunk 0x47 ∷ sign.AnswerJunk 0x43 ∷ [])
    ≡ verdict.NobodyAsked
by_g_then_c = refl

a_letter :
    verdict_on (sign.AnswerJunk 0x0a ∷ sign.AnswerJunk 0x47 ∷ sign.AnswerJunk 0x6f ∷ [])
    ≡ verdict.NobodyAsked
a_letter = refl

nothing : verdict_on [] ≡ verdict.NobodyAsked
nothing = refl

only_asked : verdict_on (sign.Answer Start ∷ sign.Answer Start ∷ []) ≡ verdict.NobodyAnswered
only_asked = refl

-- the sender cancels in place of a frame; behind a receiver that gave up its cancel tells nothing
cancelled_unsent :
    verdict_on (sign.Answer Start ∷ sign.SenderCancel ∷ []) ≡ verdict.CancelledUnsent
cancelled_unsent = refl

gave_up_first :
    verdict_on (sign.Answer Start ∷ sign.ReceiverCancel ∷ sign.SenderCancel ∷ [])
    ≡ verdict.NobodyAnswered
gave_up_first = refl

-- the sender is at the end of its file, and the receiver begins; with nobody there it has no peer
eot_alone :
    verdict_on (sign.Answer Start ∷ sign.Eot ∷ sign.Answer Start ∷ sign.Eot ∷ []) ≡ verdict.EotAlone
eot_alone = refl

eot_to_nobody : verdict_on (sign.Eot ∷ sign.Eot ∷ []) ≡ verdict.NobodyAsked
eot_to_nobody = refl

-- The record begins at the end of a file, whose receiver takes the second EOT. One of XMODEM
-- refuses before anything came.
eot_answered :
    verdict_on (sign.Eot ∷ sign.Answer Nak ∷ sign.Eot ∷ sign.Answer Ack ∷ []) ≡ verdict.EotAlone
eot_answered = refl

by_nak : verdict_on (sign.Answer Nak ∷ sign.Eot ∷ sign.Answer Nak ∷ []) ≡ verdict.XmodemReceiver
by_nak = refl

eot_alone_there : first_shown (seen_of nothing_seen (sign.Eot ∷ [])) ORDER_THERE ≡ verdict.EotAlone
eot_alone_there = refl

-- 01 00 7F, of which the last has lost its highest bit
seven_bits :
    verdict_on (sign.Answer Start ∷ sign.Byte 0x01 ∷ sign.Byte 0x00 ∷ sign.Byte 0x7f ∷
    sign.Damage false false ∷ []) ≡ verdict.SevenBits
seven_bits = refl

-- the name was acknowledged twice
ahead :
    verdict_on (sign.Answer Start ∷ sign.Block position.Before kind.Name ∷ sign.Answer Ack ∷
    sign.Answer Ack ∷ []) ≡ verdict.ReplyAhead
ahead = refl

-- the block was refused, and came once more
repeated :
    verdict_on (sign.Answer Start ∷ sign.Block position.Before kind.Name ∷ sign.Answer Ack ∷
    sign.Answer Start ∷ sign.Block position.Named kind.Data ∷ sign.Answer Nak ∷
    sign.Block (position.Data 1) kind.Copy ∷ sign.Answer Ack ∷ sign.Eot ∷ sign.Answer Ack ∷
    sign.Answer Start ∷ sign.Block position.Ended kind.End ∷ sign.Answer Ack ∷ [])
    ≡ verdict.Repeated
repeated = refl

-- the name was written three times, and nothing was answered
silent :
    verdict_on (sign.Answer Start ∷ sign.Block position.Before kind.Name ∷
    sign.Block position.Named kind.Copy ∷ sign.Block position.Named kind.Copy ∷
    sign.SenderCancel ∷ []) ≡ verdict.FellSilent
silent = refl
