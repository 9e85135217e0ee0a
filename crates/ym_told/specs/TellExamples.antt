-- What came last of a run, what a C behind it is, and what is left of a file, computed.
use Rattle.std.specs.Prelude.{◌≡◌, [], ◌∷◌, ◌++◌, true, false, Some, None, codes, refl}
use Rattle.ym_told.specs.BothStand.{at_start, with_bytes_of, with_end}
use Rattle.ym_told.specs.RunText.{tails}
use Rattle.ym_told.specs.TellPrefix.{answer_run_behind, may_ask}
use Rattle.ym_told.specs.declared.prefix.Settle.TheVariants as settle
use Rattle.ym_told.specs.declared.run.Tail.TheVariants.{Text, Gs, Nothing}

-- a letter of a text, the beginning of one, and what may ask
letter : tails Nothing (codes "LOG") ≡ Text
letter = refl

beginning : tails Nothing (codes "Good") ≡ Text
beginning = refl

several : tails Nothing (codes "GGG") ≡ Gs
several = refl

behind_a_line : tails Nothing (codes "go" ++ 10 ∷ 0x47 ∷ []) ≡ Gs
behind_a_line = refl

-- Behind G a C waits for what comes next, and is no letter where an answer does.
waits_for_more : may_ask Gs (codes "C") settle.Nothing ≡ true
waits_for_more = refl

is_over : may_ask Gs (codes "C") settle.All ≡ false
is_over = refl

asks : answer_run_behind Gs (codes "C") ≡ 0
asks = refl

asks_before_an_ack : answer_run_behind Gs (0x43 ∷ 0x06 ∷ []) ≡ 0
asks_before_an_ack = refl

-- `GCC 12`
text_goes_on : answer_run_behind Gs (codes "CC 12") ≡ 5
text_goes_on = refl

-- a block of a file of 200 bytes, the last one, and one past its length
first_block : (with_bytes_of at_start (Some 200) 128).left ≡ Some 72
first_block = refl

last_block : (with_bytes_of at_start (Some 72) 128).signs.past_length ≡ false
last_block = refl

past_it : (with_bytes_of at_start (Some 0) 128).signs.past_length ≡ true
past_it = refl

no_length : with_bytes_of at_start None 128 ≡ at_start
no_length = refl

cut : (with_end at_start (Some 72)).signs.cut_length ≡ true
cut = refl
