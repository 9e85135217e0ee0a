-- What a case shows, computed.
use Rattle.std.specs.Prelude.{◌≡◌, true, false, [], ◌∷◌, refl}
use Rattle.ym_frame.specs.declared.control.Reply.TheVariants as reply
use Rattle.ym_core.specs.declared.position.Position.TheVariants as position
use Rattle.ym_judge.specs.AnswerBytes.{answers_in}
use Rattle.ym_judge.specs.Acts.{act_at, answer_in}
use Rattle.ym_judge.specs.Carriage.{carried_as}
use Rattle.ym_judge.specs.Claiming.{claims_behind, no_claims}
use Rattle.ym_judge.specs.Noted.{asks_both, has_taken_back}
use Rattle.ym_judge.specs.declared.act.Act.TheVariants as act
use Rattle.ym_judge.specs.declared.claims.Claims.{Claims}
use Rattle.ym_judge.specs.declared.twist.Twist.TheVariants as twist

-- the 257th data block has number 1 again
block_257 : act_at (position.Block 0 257) ≡ act.Block 1
block_257 = refl

-- a C right behind an ACK is one answer with it, and two ACK are two answers
ack_start : answer_in (0x06 ∷ 0x43 ∷ []) ≡ act.Answer reply.AckStart
ack_start = refl

two_acks : answer_in (0x06 ∷ 0x06 ∷ []) ≡ act.Answers reply.Ack reply.Ack
two_acks = refl

-- one CAN is no answer
one_can : answer_in (0x18 ∷ []) ≡ act.Noise
one_can = refl

-- who gives up may say ACK before, and more CAN and backspaces behind
taken_back : answer_in (answers_in 0 (0x06 ∷ 0x18 ∷ 0x18 ∷ 0x18 ∷ 0x08 ∷ 0x08 ∷ []))
    ≡ act.Answers reply.Ack reply.Cancel
taken_back = refl

is_taken_back : has_taken_back (act.Answers reply.Ack reply.Cancel) ≡ true
is_taken_back = refl

-- "CRC" is a text, and C C C asks once
letters : answers_in 0 (0x20 ∷ 0x43 ∷ 0x52 ∷ 0x43 ∷ []) ≡ []
letters = refl

asks : answers_in 0 (0x43 ∷ 0x43 ∷ 0x43 ∷ []) ≡ 0x43 ∷ []
asks = refl

-- behind two files and the end block both count as done
abbrev first : Claims
first = claims_behind act.Eot (claims_behind (act.Block 1) (claims_behind act.Header no_claims))

two_files : claims_behind act.End (claims_behind act.Eot (claims_behind act.Header first))
    ≡ record { begun = 2; told = 2; ended = true }
two_files = refl

-- a block 0 that comes twice begins one file
once_more : claims_behind act.Header (claims_behind act.Header no_claims)
    ≡ record { begun = 1; told = 0; ended = false }
once_more = refl

-- half of ACK C is ACK
cut : carried_as twist.Cut (0x06 ∷ 0x43 ∷ []) ≡ 0x06 ∷ []
cut = refl

wrong_number : carried_as twist.Misnumbered (0x01 ∷ 0x02 ∷ 0xfd ∷ 0x61 ∷ [])
    ≡ 0x01 ∷ 0x07 ∷ 0xf8 ∷ 0x61 ∷ []
wrong_number = refl

one_answer : asks_both reply.Ack reply.Silence ≡ act.Answer reply.Ack
one_answer = refl
