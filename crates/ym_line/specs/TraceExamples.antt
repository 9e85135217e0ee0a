-- Lines of a trace and rounds that are needed, computed.
use Rattle.std.specs.Prelude.{◌≡◌, ℕ, [], ◌∷◌, codes, None, refl}
use Rattle.std.specs.Fmt.{digits}
use Rattle.ym_frame.specs.declared.control.Reply.TheVariants.{Start, AckStart, Nak, Silence}
use Rattle.ym_header.specs.declared.fault.HeaderFault.TheVariants.{NoLength}
use Rattle.ym_header.specs.declared.stamp.Stamp.TheVariants as stamp
use Rattle.ym_file.specs.declared.plan.Shape.TheVariants.{Mixed, Short}
use Rattle.ym_file.specs.SourceFile.{FileParts}
use Rattle.ym_core.specs.declared.state.RecvState.TheVariants.{BadHeader}
use Rattle.ym_core.specs.declared.state.SendState.TheVariants.{NoReply}
use Rattle.ym_machine.specs.declared.confirm.Confirm.TheVariants.{Twice, Once}
use Rattle.ym_line.specs.declared.trace.How.TheVariants.{Whole, Lost, Damaged}
use Rattle.ym_line.specs.declared.trace.What.TheVariants.{Nothing, Block, Eot, Can}
use Rattle.ym_line.specs.Needed.{rounds_of}
use Rattle.ym_line.specs.TraceText.{round_line, sender_line, receiver_line}

-- ---- Lines

first_round : round_line 1 (record { what = Nothing; there = Whole; reply = Start; back = Whole }) ≡
    codes "1 > - whole < C whole\n"
unfolding digits
first_round = refl

damaged_reply : round_line 2 (record {
  what = Block 0 128;
  there = Whole;
  reply = AckStart;
  back = Damaged;
}) ≡
    codes "2 > block 0 128 whole < ACK C damaged\n"
unfolding digits
damaged_reply = refl

lost_eot : round_line 10 (record { what = Eot; there = Lost; reply = Nak; back = Lost }) ≡
    codes "10 > eot lost < NAK lost\n"
unfolding digits
lost_eot = refl

cancelled : round_line 13 (record { what = Can; there = Whole; reply = Silence; back = Whole }) ≡
    codes "13 > can whole < - whole\n"
unfolding digits
cancelled = refl

no_reply : sender_line 0 NoReply ≡ codes "sender done 0 no-reply\n"
unfolding digits
no_reply = refl

bad_header : receiver_line 3 (BadHeader NoLength) ≡ codes "receiver files 3 bad-header no-length\n"
unfolding digits
bad_header = refl

-- ---- Rounds

abbrev file : ℕ → FileParts
file size = record {
  header = record { name = codes "a"; length = size; stamp = stamp.Nothing };
  bytes = None;
  failures = 0;
  fills = 0;
}

one_block : rounds_of Mixed Twice (file 128 ∷ []) ≡ 6
one_block = refl

one_block_once : rounds_of Mixed Once (file 128 ∷ []) ≡ 5
one_block_once = refl

no_file : rounds_of Mixed Twice [] ≡ 2
no_file = refl

two_files : rounds_of Short Twice (file 32896 ∷ file 0 ∷ []) ≡ 265
two_files = refl
