-- Lines of the receiver's table, computed.
use Rattle.std.specs.Prelude.{◌≡◌, ℕ, List, [], ◌∷◌, Bool, true, false, Result, Ok, Err, refl}
use Rattle.ym_frame.specs.declared.control.Reply.TheVariants.{Silence, Start, Ack, AckStart, Nak, Cancel}
use Rattle.ym_frame.specs.declared.frame.Item.TheVariants as item
use Rattle.ym_header.specs.Header.{HeaderParts}
use Rattle.ym_header.specs.declared.fault.HeaderFault.{HeaderFault}
use Rattle.ym_header.specs.declared.fault.HeaderFault.TheVariants.{NoLength}
use Rattle.ym_header.specs.declared.reading.Zero.{Zero}
use Rattle.ym_header.specs.declared.reading.Zero.TheVariants.{File, End}
use Rattle.ym_header.specs.declared.stamp.Stamp.TheVariants.{Nothing}
use Rattle.ym_machine.specs.declared.confirm.Confirm.{Confirm}
use Rattle.ym_machine.specs.declared.confirm.Confirm.TheVariants.{Twice, Once}
use Rattle.ym_core.specs.declared.delivery.Heard.{Heard}
use Rattle.ym_core.specs.declared.delivery.Heard.TheVariants as heard
use Rattle.ym_core.specs.declared.stage.Stage.TheVariants.{InFile}
use Rattle.ym_core.specs.declared.state.RecvState.TheVariants as state
use Rattle.ym_core.specs.Receiver.{Receiver, No_call, Begins, Adds, Commits, hears, new_receiver}

abbrev a_header : HeaderParts
a_header = record { name = 0x61 ∷ []; length = 3; stamp = Nothing }

abbrev no_meaning : Result Zero HeaderFault
no_meaning = Ok End

abbrev block : ℕ → List ℕ → Heard
block number body = heard.Item (item.Block (record { number = number; body = body }))

-- a receiver of a file of 3 bytes, of which so many have come in so many blocks, after so many
-- deliveries without progress
abbrev taking : Confirm → ℕ → ℕ → Bool → ℕ → Receiver
taking confirm taken blocks first_eot retries = record {
  confirm = confirm;
  stage = InFile (record { length = 3; taken = taken; blocks = blocks; first_eot = first_eot });
  files = 0;
  retries = retries;
  state = state.Running;
}

-- an EOT before the first file asks for a block 0
first_eot :
    hears (new_receiver Twice) no_meaning (heard.Item item.Eot) ≡
    record { receiver = record (new_receiver Twice) { retries = 1 }; reply = Start; call = No_call }
first_eot = refl

header :
    hears (new_receiver Twice) (Ok (File a_header)) (block 0 []) ≡
    record { receiver = taking Twice 0 0 false 0; reply = AckStart; call = Begins a_header }
header = refl

header_again :
    hears (taking Twice 0 0 false 0) no_meaning (block 0 []) ≡
    record { receiver = taking Twice 0 0 false 1; reply = AckStart; call = No_call }
header_again = refl

refused_header :
    hears (new_receiver Twice) (Err NoLength) (block 0 []) ≡
    record {
      receiver = record (new_receiver Twice) { state = state.BadHeader NoLength };
      reply = Cancel;
      call = No_call;
    }
refused_header = refl

-- as many bytes as are missing are added
last_block :
    hears (taking Twice 2 1 false 4) no_meaning (block 2 (1 ∷ 2 ∷ 3 ∷ [])) ≡
    record { receiver = taking Twice 3 2 false 0; reply = Ack; call = Adds (1 ∷ []) }
last_block = refl

block_past_the_length :
    hears (taking Twice 3 2 false 0) no_meaning (block 3 (1 ∷ [])) ≡
    record { receiver = taking Twice 3 3 false 1; reply = Ack; call = No_call }
block_past_the_length = refl

-- block 256 has number 00, and is no header
numbers_wrap :
    hears (taking Twice 2 255 false 0) no_meaning (block 0 (9 ∷ [])) ≡
    record { receiver = taking Twice 3 256 false 0; reply = Ack; call = Adds (9 ∷ []) }
numbers_wrap = refl

wrapped_block_again :
    hears (taking Twice 2 256 false 0) no_meaning (block 0 (9 ∷ [])) ≡
    record { receiver = taking Twice 2 256 false 1; reply = Ack; call = No_call }
wrapped_block_again = refl

out_of_step :
    hears (taking Twice 2 1 false 0) no_meaning (block 5 (9 ∷ [])) ≡
    record {
      receiver = record (taking Twice 2 1 false 0) { state = state.OutOfStep };
      reply = Cancel;
      call = No_call;
    }
out_of_step = refl

early_eot :
    hears (taking Once 2 1 false 0) no_meaning (heard.Item item.Eot) ≡
    record { receiver = taking Once 2 1 false 1; reply = Nak; call = No_call }
early_eot = refl

accepted_eot :
    hears (taking Twice 3 1 false 5) no_meaning (heard.Item item.Eot) ≡
    record { receiver = taking Twice 3 1 true 0; reply = Nak; call = No_call }
accepted_eot = refl

-- damage does not take the first EOT back
damage_behind_it :
    hears (taking Twice 3 1 true 0) no_meaning heard.Bad ≡
    record { receiver = taking Twice 3 1 true 1; reply = Nak; call = No_call }
damage_behind_it = refl

confirmed_eot :
    hears (taking Twice 3 1 true 5) no_meaning (heard.Item item.Eot) ≡
    record {
      receiver = record (new_receiver Twice) { files = 1 };
      reply = AckStart;
      call = Commits;
    }
confirmed_eot = refl

single_eot :
    hears (taking Once 3 1 false 0) no_meaning (heard.Item item.Eot) ≡
    record { receiver = record (new_receiver Once) { files = 1 }; reply = AckStart; call = Commits }
single_eot = refl

tenth_without_progress :
    hears (record (new_receiver Twice) { retries = 9 }) no_meaning heard.Bad ≡
    record {
      receiver = record (new_receiver Twice) { retries = 10; state = state.TooManyErrors };
      reply = Cancel;
      call = No_call;
    }
tenth_without_progress = refl

end_again :
    hears (record (new_receiver Twice) { state = state.Finished }) no_meaning (block 0 (0 ∷ [])) ≡
    record {
      receiver = record (new_receiver Twice) { state = state.Finished };
      reply = Ack;
      call = No_call;
    }
end_again = refl

ended :
    hears (record (new_receiver Twice) { state = state.OutOfStep }) no_meaning (block 0 (0 ∷ [])) ≡
    record {
      receiver = record (new_receiver Twice) { state = state.OutOfStep };
      reply = Silence;
      call = No_call;
    }
ended = refl
