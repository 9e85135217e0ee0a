-- Why an end heard nothing of use, computed.
use Rattle.std.specs.Prelude.{◌≡◌, None, false, true, refl}
use Rattle.ym_text.specs.declared.came.Came.{Came}
use Rattle.ym_text.specs.declared.came.Came.TheVariants as came
use Rattle.ym_text.specs.declared.came.Sight.TheVariants as seen
use Rattle.ym_text.specs.declared.cause.Cause.{Cause}
use Rattle.ym_text.specs.declared.cause.Cause.TheVariants as cause
use Rattle.ym_text.specs.declared.cause.Peer.TheVariants as peer
use Rattle.ym_text.specs.Came.{and_copy, and_past, and_text}
use Rattle.ym_text.specs.Causes.{cause_for}

-- a receiver heard this of a sender that it had heard before, and in the last seconds too
abbrev lately : Came → Cause
lately what = cause_for peer.Sender seen.Peer 3 what None false

-- the same block again and again
copies : lately (and_copy (and_copy came.Nothing)) ≡ cause.Copies
copies = refl

-- two more blocks than the length of the file says, and the last one again
past : lately (and_copy (and_past (and_past came.Nothing))) ≡ cause.Past
past = refl

-- a copy between damaged blocks, and a prompt behind a copy: something whole came, and no more
mixed : lately (and_copy came.Other) ≡ cause.Damage
mixed = refl

prompt_behind : lately (and_text (and_copy came.Nothing)) ≡ cause.Damage
prompt_behind = refl

-- other bytes to a sender that nobody has asked yet
rubbish : cause_for peer.Receiver seen.Nothing 0 came.Other None false ≡ cause.NoReceiver
rubbish = refl

-- copies, and then nothing any more
ceased :
    cause_for peer.Sender seen.Peer 27 (and_copy came.Nothing) None true ≡
    cause.Ceased peer.Sender 27
ceased = refl
