-- A receiver's engine says ACK to a frame alone, and the same where that frame comes again.
use Rattle.std.proofs.Common.{◌≡◌, ◌≢◌, ◌⊎◌, ◌+◌, ◌%◌, ◌<◌, ◌==◌, ◌∙◌, inl, inr, ℕ, nat_lt, Bool, true, false, if◌then◌else◌, List, [], ◌∷◌, ◌++◌, Result, Ok, Err, refl, sym, ap, subst, arith}
use Rattle.ym_frame.specs.Block.{BlockParts}
use Rattle.ym_frame.specs.declared.control.Reply.{Reply}
use Rattle.ym_frame.specs.declared.control.Reply.TheVariants.{Start, Ack, AckStart, Nak, Cancel}
use Rattle.ym_frame.specs.declared.frame.Item.TheVariants as item
use Rattle.ym_header.specs.declared.fault.HeaderFault.{HeaderFault}
use Rattle.ym_header.specs.declared.reading.Zero.{Zero}
use Rattle.ym_header.specs.declared.reading.Zero.TheVariants.{File, End}
use Rattle.ym_machine.specs.declared.confirm.Confirm.{Confirm}
use Rattle.ym_machine.specs.declared.confirm.Confirm.TheVariants.{Twice, Once}
use Rattle.ym_machine.specs.declared.limits.TheConstants.{GIVE_UP, MOST_FILES}
use Rattle.ym_core.specs.Receiver.{Receiver, Step, No_call, block_heard, covered_eot, hears, hears_at, opened, running_hears, stays, zero_heard}
use Rattle.ym_core.specs.declared.delivery.Heard.{Heard}
use Rattle.ym_core.specs.declared.delivery.Heard.TheVariants as heard
use Rattle.ym_core.specs.declared.stage.OpenFile.{OpenFile}
use Rattle.ym_core.specs.declared.stage.Stage.{Stage}
use Rattle.ym_core.specs.declared.stage.Stage.TheVariants.{AwaitHeader, InFile}
use Rattle.ym_core.specs.declared.state.RecvState.TheVariants as state
use Rattle.ym_link.specs.History.{ReceiverHears, receiver_none, receiver_more}
use Rattle.ym_link.specs.ReceiverInto.{HearsGives, ReceiverParts, Takes}
use Rattle.ym_pair.specs.Logs.{Answered, answered_along}
use Rattle.ym_delay.specs.Cleared.{AcksAgain, AnswersAlike, IsAck}
use Rattle.ym_delay.proofs.Quiet.{either}

equal : (a b : ℕ) → (a == b) ≡ true → a ≡ b
equal a b is = grind (arith, is)

-- ---- What a receiver says to a frame that comes again

abbrev pub repeat_of : OpenFile → Reply
repeat_of file = if file.blocks == 0 then AckStart else Ack

-- it would say this to it
abbrev pub Ready : Heard → Reply → Receiver → Type 0
Ready (heard.Item (item.Block block)) says r = (file : OpenFile) × (r.stage ≡ InFile file) × (block.number ≡ file.blocks % 256) × (says ≡ repeat_of file)
Ready (heard.Item item.Eot) says r = (r.stage ≡ AwaitHeader) × (0 < r.files) × (says ≡ AckStart)
Ready (heard.Item item.Cancel) says r = ⊥
Ready heard.Bad says r = ⊥

-- ---- A step that says ACK

abbrev pub AckReady : Heard → Step → Type 0
AckReady h s = IsAck s.reply → s.receiver.state ≡ state.Running → Ready h s.reply s.receiver

stays-ready : (h : Heard) (r : Receiver) (says : Reply) → ((n : ℕ) → IsAck says → Ready h says (record r { retries = n })) → AckReady h (stays r says)
stays-ready h r says ready = either (AckReady h) (nat_lt (r.retries + 1) GIVE_UP) _ _ (λ _. λ ack run. ready (r.retries + 1) ack) (λ _. λ ack run. absurd ack)

suc-some : (n : ℕ) → ((n + 1) == 0) ≡ false
suc-some n = grind arith

-- block 0 opens a file
zero-ready : (r : Receiver) (zero : Result Zero HeaderFault) (block : BlockParts) → block.number ≡ 0 → AckReady (heard.Item (item.Block block)) (zero_heard r zero)
zero-ready r (Ok (File header)) block first =
    either (AckReady (heard.Item (item.Block block))) (nat_lt r.files MOST_FILES) _ _ (λ _. λ ack run. (opened header, refl, first, refl)) (λ _. λ ack run. absurd ack)
zero-ready r (Ok End) block first = λ ack run. absurd (cc)
zero-ready r (Err fault) block first = λ ack run. absurd ack

-- a block of an open file
block-ready : (r : Receiver) (file : OpenFile) (block : BlockParts) → r.stage ≡ InFile file → AckReady (heard.Item (item.Block block)) (block_heard r file block.number block.body)
block-ready r file block at =
    either (AckReady (heard.Item (item.Block block))) (block.number == (file.blocks + 1) % 256) _ _
    (λ next. either (AckReady (heard.Item (item.Block block))) (nat_lt file.taken file.length) _ _ (λ _. λ ack run. (_, refl, equal _ _ next, rw (suc-some file.blocks) refl))
    (λ _. stays-ready (heard.Item (item.Block block)) _ Ack (λ n ack. (_, refl, equal _ _ next, rw (suc-some file.blocks) refl))))
    (λ _. either (AckReady (heard.Item (item.Block block))) (block.number == file.blocks % 256) _ _
    (λ again. either (AckReady (heard.Item (item.Block block))) (file.blocks == 0) _ _ (λ first. stays-ready (heard.Item (item.Block block)) r AckStart (λ n ack. (file, at, equal _ _ again, rw first refl)))
    (λ later. stays-ready (heard.Item (item.Block block)) r Ack (λ n ack. (file, at, equal _ _ again, rw later refl))))
    (λ _. λ ack run. absurd ack))

covered-ready : (r : Receiver) (confirm : Confirm) (file : OpenFile) (first : Bool) → AckReady (heard.Item item.Eot) (covered_eot r confirm file first)
covered-ready r Twice file false = λ ack run. absurd ack
covered-ready r Twice file true = λ ack run. (refl, omega arith, refl)
covered-ready r Once file first = λ ack run. (refl, omega arith, refl)

pub ack-ready : (r : Receiver) (stage : Stage) (zero : Result Zero HeaderFault) (h : Heard) → r.stage ≡ stage → AckReady h (running_hears r stage zero h)
ack-ready r AwaitHeader zero (heard.Item (item.Block block)) at =
    either (AckReady (heard.Item (item.Block block))) (block.number == 0) _ _ (λ first. zero-ready r zero block (equal block.number 0 first)) (λ _. λ ack run. absurd ack)
ack-ready r AwaitHeader zero (heard.Item item.Eot) at =
    either (AckReady (heard.Item item.Eot)) (nat_lt 0 r.files) _ _
    (λ some. stays-ready (heard.Item item.Eot) r AckStart (λ n ack. (at, grind (arith, some), refl)))
    (λ _. stays-ready (heard.Item item.Eot) r Start (λ n ack. absurd ack))
ack-ready r AwaitHeader zero (heard.Item item.Cancel) at = λ ack run. absurd ack
ack-ready r AwaitHeader zero heard.Bad at = stays-ready heard.Bad r Start (λ n ack. absurd ack)
ack-ready r (InFile file) zero (heard.Item (item.Block block)) at = block-ready r file block at
ack-ready r (InFile file) zero (heard.Item item.Eot) at =
    either (AckReady (heard.Item item.Eot)) (nat_lt file.taken file.length) _ _ (λ _. stays-ready (heard.Item item.Eot) r Nak (λ n ack. absurd ack)) (λ _. covered-ready r r.confirm file file.first_eot)
ack-ready r (InFile file) zero (heard.Item item.Cancel) at = λ ack run. absurd ack
ack-ready r (InFile file) zero heard.Bad at =
    either (AckReady heard.Bad) (file.blocks == 0) _ _ (λ _. stays-ready heard.Bad r Start (λ n ack. absurd ack)) (λ _. stays-ready heard.Bad r Nak (λ n ack. absurd ack))

-- ---- A step that says CAN CAN

-- it ends the receiver
abbrev pub CancelEnds : Step → Type 0
CancelEnds s = s.reply ≡ Cancel → s.receiver.state ≡ state.Running → ⊥

stays-goes : (r : Receiver) (says : Reply) → says ≢ Cancel → CancelEnds (stays r says)
stays-goes r says none = either CancelEnds (nat_lt (r.retries + 1) GIVE_UP) _ _ (λ _. λ off run. none off) (λ _. λ off run. cc)

zero-goes : (r : Receiver) (zero : Result Zero HeaderFault) → CancelEnds (zero_heard r zero)
zero-goes r (Ok (File header)) = either CancelEnds (nat_lt r.files MOST_FILES) _ _ (λ _. λ off run. cc) (λ _. λ off run. cc)
zero-goes r (Ok End) = λ off run. cc
zero-goes r (Err fault) = λ off run. cc

block-goes : (r : Receiver) (file : OpenFile) (block : BlockParts) → CancelEnds (block_heard r file block.number block.body)
block-goes r file block =
    either CancelEnds (block.number == (file.blocks + 1) % 256) _ _ (λ _. either CancelEnds (nat_lt file.taken file.length) _ _ (λ _. λ off run. cc) (λ _. stays-goes _ Ack (λ off. cc)))
    (λ _. either CancelEnds (block.number == file.blocks % 256) _ _ (λ _. either CancelEnds (file.blocks == 0) _ _ (λ _. stays-goes r AckStart (λ off. cc)) (λ _. stays-goes r Ack (λ off. cc))) (λ _. λ off run. cc))

covered-goes : (r : Receiver) (confirm : Confirm) (file : OpenFile) (first : Bool) → CancelEnds (covered_eot r confirm file first)
covered-goes r Twice file false = λ off run. cc
covered-goes r Twice file true = λ off run. cc
covered-goes r Once file first = λ off run. cc

cancel-ends : (r : Receiver) (stage : Stage) (zero : Result Zero HeaderFault) (h : Heard) → CancelEnds (running_hears r stage zero h)
cancel-ends r AwaitHeader zero (heard.Item (item.Block block)) = either CancelEnds (block.number == 0) _ _ (λ _. zero-goes r zero) (λ _. λ off run. cc)
cancel-ends r AwaitHeader zero (heard.Item item.Eot) = either CancelEnds (nat_lt 0 r.files) _ _ (λ _. stays-goes r AckStart (λ off. cc)) (λ _. stays-goes r Start (λ off. cc))
cancel-ends r AwaitHeader zero (heard.Item item.Cancel) = λ off run. cc
cancel-ends r AwaitHeader zero heard.Bad = stays-goes r Start (λ off. cc)
cancel-ends r (InFile file) zero (heard.Item (item.Block block)) = block-goes r file block
cancel-ends r (InFile file) zero (heard.Item item.Eot) = either CancelEnds (nat_lt file.taken file.length) _ _ (λ _. stays-goes r Nak (λ off. cc)) (λ _. covered-goes r r.confirm file file.first_eot)
cancel-ends r (InFile file) zero (heard.Item item.Cancel) = λ off run. cc
cancel-ends r (InFile file) zero heard.Bad = either CancelEnds (file.blocks == 0) _ _ (λ _. stays-goes r Start (λ off. cc)) (λ _. stays-goes r Nak (λ off. cc))

taken-goes : (old : ReceiverParts) (s : Step) (failed : Bool) (reply : Reply) (new : ReceiverParts) → Takes old s failed reply new → CancelEnds s → reply ≡ Cancel → new.receiver.state ≡ state.Running → ⊥
taken-goes old s false reply new takes ends off run = ends (sym takes.reply_is ∙ off) (sym (ap (λ (x : Receiver). x.state) takes.receiver_is) ∙ run)
taken-goes old s true reply new takes ends off run = let failed = sym (ap (λ (x : Receiver). x.state) takes.receiver_is) ∙ run in cc

-- ---- A step without progress

-- it gave up, or said this; and its place is the same
pub record StaysAs (r : Receiver) (says : Reply) (s : Step) : Type 0 where
  pub reply : (s.receiver.state ≡ state.TooManyErrors) ⊎ (s.reply ≡ says)
  pub stage : s.receiver.stage ≡ r.stage
  pub files : s.receiver.files ≡ r.files
  pub call : s.call ≡ No_call

stays-as : (r : Receiver) (says : Reply) → StaysAs r says (stays r says)
stays-as r says =
    either (StaysAs r says) (nat_lt (r.retries + 1) GIVE_UP) _ _ (λ _. record { reply = inr refl; stage = refl; files = refl; call = refl }) (λ _. record { reply = inl refl; stage = refl; files = refl; call = refl })

-- where it hears nothing
abbrev pub StaysSome : Receiver → Step → Type 0
StaysSome r s = (says : Reply) × StaysAs r says s

bad-stays : (r : Receiver) (stage : Stage) (zero : Result Zero HeaderFault) → StaysSome r (running_hears r stage zero heard.Bad)
bad-stays r AwaitHeader zero = (Start, stays-as r Start)
bad-stays r (InFile file) zero = either (StaysSome r) (file.blocks == 0) _ _ (λ _. (Start, stays-as r Start)) (λ _. (Nak, stays-as r Nak))

-- then it says no ACK
stays-quiet : (r : Receiver) (says : Reply) → (IsAck says → ⊥) → IsAck (stays r says).reply → ⊥
stays-quiet r says none = either (λ (s : Step). IsAck s.reply → ⊥) (nat_lt (r.retries + 1) GIVE_UP) _ _ (λ _. none) (λ _. λ ack. absurd ack)

quiet : (r : Receiver) (stage : Stage) (zero : Result Zero HeaderFault) → IsAck (running_hears r stage zero heard.Bad).reply → ⊥
quiet r AwaitHeader zero = stays-quiet r Start (λ ack. absurd ack)
quiet r (InFile file) zero = either (λ (s : Step). IsAck s.reply → ⊥) (file.blocks == 0) _ _ (λ _. stays-quiet r Start (λ ack. absurd ack)) (λ _. stays-quiet r Nak (λ ack. absurd ack))

-- and where the frame comes again
differ : (n : ℕ) → n % 256 ≡ (n + 1) % 256 → ⊥
differ n same = omega (arith, same)

not-equal : (a b : ℕ) → a ≡ b → (a == b) ≡ false → ⊥
not-equal a b same is = grind (arith, same, is)

not-some : (n : ℕ) → 0 < n → nat_lt 0 n ≡ false → ⊥
not-some n some is = grind (arith, some, is)

again-stays : (h : Heard) (says : Reply) (r : Receiver) (zero : Result Zero HeaderFault) → Ready h says r → StaysAs r says (running_hears r r.stage zero h)
again-stays (heard.Item (item.Block block)) says r zero ready =
    let file = ready.0 in let number = ready.2 in
    subst (λ x. StaysAs r says (running_hears r x zero (heard.Item (item.Block block)))) (sym ready.1)
    (either (StaysAs r says) (block.number == (file.blocks + 1) % 256) _ _ (λ next. absurd (differ file.blocks (sym number ∙ equal _ _ next)))
    (λ _. either (StaysAs r says) (block.number == file.blocks % 256) _ _
    (λ _. either (StaysAs r says) (file.blocks == 0) _ _ (λ first. subst (λ x. StaysAs r x (stays r AckStart)) (sym (ready.3 ∙ rw first refl)) (stays-as r AckStart))
    (λ later. subst (λ x. StaysAs r x (stays r Ack)) (sym (ready.3 ∙ rw later refl)) (stays-as r Ack)))
    (λ other. absurd (not-equal _ _ number other))))
again-stays (heard.Item item.Eot) says r zero ready =
    subst (λ x. StaysAs r says (running_hears r x zero (heard.Item item.Eot))) (sym ready.0)
    (either (StaysAs r says) (nat_lt 0 r.files) _ _ (λ _. subst (λ x. StaysAs r x (stays r AckStart)) (sym ready.2) (stays-as r AckStart)) (λ none. absurd (not-some r.files ready.1 none)))
again-stays (heard.Item item.Cancel) says r zero ready = absurd ready
again-stays heard.Bad says r zero ready = absurd ready

ready-still : (h : Heard) (says : Reply) (r new : Receiver) → Ready h says r → new.stage ≡ r.stage → new.files ≡ r.files → Ready h says new
ready-still (heard.Item (item.Block block)) says r new ready stage files = (ready.0, stage ∙ ready.1, ready.2, ready.3)
ready-still (heard.Item item.Eot) says r new ready stage files = (stage ∙ ready.0, subst (λ n. 0 < n) (sym files) ready.1, ready.2)
ready-still (heard.Item item.Cancel) says r new ready stage files = absurd ready
ready-still heard.Bad says r new ready stage files = absurd ready

-- ---- What an engine's receiver does

taken-stays : (old : ReceiverParts) (s : Step) (failed : Bool) (reply says : Reply) (new : ReceiverParts) → Takes old s failed reply new → StaysAs old.receiver says s →
    ((new.receiver.state ≡ state.TooManyErrors) ⊎ (reply ≡ says)) × (new.receiver.stage ≡ old.receiver.stage) × (new.receiver.files ≡ old.receiver.files)
taken-stays old s false reply says new takes stays = (
  elim stays.reply [ inl over ↦ inl (ap (λ (x : Receiver). x.state) takes.receiver_is ∙ over) | inr is ↦ inr (takes.reply_is ∙ is) ],
  ap (λ (x : Receiver). x.stage) takes.receiver_is ∙ stays.stage,
  ap (λ (x : Receiver). x.files) takes.receiver_is ∙ stays.files,
)
taken-stays old s true reply says new takes stays = let none = takes.no_call stays.call in absurd (cc)

taken-ack : (old : ReceiverParts) (h : Heard) (s : Step) (failed : Bool) (reply : Reply) (new : ReceiverParts) → Takes old s failed reply new → AckReady h s → IsAck reply → new.receiver.state ≡ state.Running → Ready h reply new.receiver
taken-ack old h s true reply new takes ready ack run = absurd (subst IsAck takes.reply_is ack)
taken-ack old h s false reply new takes ready ack run =
    subst (λ x. Ready h x new.receiver) (sym takes.reply_is)
    (subst (Ready h s.reply) (sym takes.receiver_is) (ready (subst IsAck takes.reply_is ack) (sym (ap (λ (x : Receiver). x.state) takes.receiver_is) ∙ run)))

-- a running one goes by its table
running : (old : ReceiverParts) (h : Heard) (reply : Reply) (new : ReceiverParts) → old.receiver.state ≡ state.Running → HearsGives old h (Ok reply) new →
    (zero : Result Zero HeaderFault) × (failed : Bool) × Takes old (running_hears old.receiver old.receiver.stage zero h) failed reply new
running old h reply new run gives =
    (gives.0, gives.2.0, subst (λ s. Takes old s gives.2.0 reply new) (ap (λ x. hears_at x old.receiver gives.0 h) run) gives.2.1)

-- ---- Along a history

-- since then it has heard nothing else
abbrev pub Alive : Answered → List Answered → Type 0
Alive a [] = Unit {0}
Alive a (b ∷ answered) = ((b.heard ≡ heard.Bad) ⊎ (b.heard ≡ a.heard)) × Alive a answered

abbrev pub StillReady : List Answered → Receiver → Type 0
StillReady [] r = Unit {0}
StillReady (a ∷ answered) r = (IsAck a.wrote → Alive a answered → r.state ≡ state.Running → Ready a.heard a.wrote r) × StillReady answered r

-- this one says to it what was said before
abbrev pub Fits : List Answered → Answered → Type 0
Fits [] b = Unit {0}
Fits (a ∷ answered) b = (IsAck a.wrote → Alive a answered → b.heard ≡ a.heard → b.wrote ≡ a.wrote) × Fits answered b

acks-more : (a : Answered) (answered : List Answered) (b : Answered) → AcksAgain a answered → (Alive a answered → b.heard ≡ a.heard → b.wrote ≡ a.wrote) → AcksAgain a (answered ++ b ∷ [])
acks-more a [] b acks fits = (λ bad. tt, λ same. (fits tt same, tt))
acks-more a (x ∷ answered) b acks fits =
    (λ bad. acks-more a answered b (acks.0 bad) (λ alive. fits (inl bad, alive)), λ same. let says = acks.1 same in (says.0, acks-more a answered b says.1 (λ alive. fits (inr same, alive))))

-- none of them called off
abbrev pub NoneCancels : List Answered → Type 0
NoneCancels [] = Unit {0}
NoneCancels (a ∷ answered) = (a.wrote ≢ Cancel) × NoneCancels answered

none-more : (answered : List Answered) (b : Answered) → NoneCancels answered → b.wrote ≢ Cancel → NoneCancels (answered ++ b ∷ [])
none-more [] b none one = (one, tt)
none-more (a ∷ answered) b none one = (none.0, none-more answered b none.1 one)

alike-more : (answered : List Answered) (b : Answered) → NoneCancels answered → AnswersAlike answered → Fits answered b → (IsAck b.wrote → b.heard ≡ heard.Bad → ⊥) → AnswersAlike (answered ++ b ∷ [])
alike-more [] b none alike fits some = (λ ack. (some ack, tt), λ off. refl, tt)
alike-more (a ∷ answered) b none alike fits some = (
  λ ack. let said = alike.0 ack in (said.0, acks-more a answered b said.1 (λ alive. fits.0 ack alive)),
  λ off. absurd (none.0 off),
  alike-more answered b none.1 alike.2 fits.1 some,
)

alive-before : (a : Answered) (answered : List Answered) (b : Answered) → Alive a (answered ++ b ∷ []) → Alive a answered × ((b.heard ≡ heard.Bad) ⊎ (b.heard ≡ a.heard))
alive-before a [] b alive = (tt, alive.0)
alive-before a (x ∷ answered) b alive = let rest = alive-before a answered b alive.1 in ((alive.0, rest.0), rest.1)

-- one more delivery
module _ (old : ReceiverParts) (h : Heard) (reply : Reply) (new : ReceiverParts) (run : old.receiver.state ≡ state.Running) (gives : HearsGives old h (Ok reply) new) where
  abbrev now : Answered
  now = record { heard = h; wrote = reply }

  -- where it hears nothing, or the frame again
  bad-still : (frame : Heard) (says : Reply) → h ≡ heard.Bad → Ready frame says old.receiver → Ready frame says new.receiver
  bad-still frame says bad ready =
      let takes = running old heard.Bad reply new run (subst (λ x. HearsGives old x (Ok reply) new) bad gives) in
      let stays = bad-stays old.receiver old.receiver.stage takes.0 in
      let same = taken-stays old _ takes.1 reply stays.0 new takes.2 stays.1 in
      ready-still frame says old.receiver new.receiver ready same.1 same.2

  again-still : (says : Reply) → Ready h says old.receiver → ((new.receiver.state ≡ state.TooManyErrors) ⊎ (reply ≡ says)) × Ready h says new.receiver
  again-still says ready =
      let takes = running old h reply new run gives in
      let same = taken-stays old _ takes.1 reply says new takes.2 (again-stays h says old.receiver takes.0 ready) in
      (same.0, ready-still h says old.receiver new.receiver ready same.1 same.2)

  now-ready : IsAck reply → new.receiver.state ≡ state.Running → Ready h reply new.receiver
  now-ready ack goes =
      let takes = running old h reply new run gives in
      taken-ack old h _ takes.1 reply new takes.2 (ack-ready old.receiver old.receiver.stage takes.0 h refl) ack goes

  -- an ACK is of a frame
  bad-says : IsAck reply → h ≡ heard.Bad → ⊥
  bad-says ack bad =
      let takes = running old heard.Bad reply new run (subst (λ x. HearsGives old x (Ok reply) new) bad gives) in bad-no-ack old.receiver old.receiver.stage takes.0 takes.1 takes.2 ack
    where
      bad-no-ack : (r : Receiver) (stage : Stage) (zero : Result Zero HeaderFault) (failed : Bool) → Takes old (running_hears r stage zero heard.Bad) failed reply new → IsAck reply → ⊥
      bad-no-ack r stage zero false takes ack = quiet r stage zero (subst IsAck takes.reply_is ack)
      bad-no-ack r stage zero true takes ack = absurd (subst IsAck takes.reply_is ack)

  fits-now : (answered : List Answered) → StillReady answered old.receiver → new.receiver.state ≢ state.TooManyErrors → Fits answered now
  fits-now [] still some = tt
  fits-now (a ∷ answered) still some = (
    λ ack alive same. let ready = subst (λ x. Ready x a.wrote old.receiver) (sym same) (still.0 ack alive run) in
        elim (again-still a.wrote ready).0 [ inl over ↦ absurd (some over) | inr says ↦ says ],
    fits-now answered still.1 some,
  )

  still-now : (answered : List Answered) → StillReady answered old.receiver → StillReady (answered ++ now ∷ []) new.receiver
  still-now [] still = (λ ack alive goes. now-ready ack goes, tt)
  still-now (a ∷ answered) still = (
    λ ack alive goes. let before = alive-before a answered now alive in
        let ready = still.0 ack before.0 run in
        elim before.1 [
          | inl bad ↦ bad-still a.heard a.wrote bad ready
          | inr same ↦ subst (λ x. Ready x a.wrote new.receiver) same (again-still a.wrote (subst (λ x. Ready x a.wrote old.receiver) (sym same) ready)).1
        ],
    still-now answered still.1,
  )

-- as long as it runs
none-cancels : (r : ReceiverParts) (deliveries : List Heard) (progress : ℕ) (new : ReceiverParts) (hears : ReceiverHears r deliveries progress new) → new.receiver.state ≡ state.Running →
    NoneCancels (answered_along r deliveries progress new hears)
none-cancels r deliveries progress new (receiver_none _) run = tt
none-cancels r deliveries progress new (receiver_more _ before steps between h reply _ hears is on large gives) run =
    none-more (answered_along r before steps between hears) (record { heard = h; wrote = reply }) (none-cancels r before steps between hears on) (
    λ off. let takes = running between h reply new on gives in
    taken-goes between _ takes.1 reply new takes.2 (cancel-ends between.receiver between.receiver.stage takes.0 h) off run
    )

goes-on : (r : Receiver) → r.state ≡ state.Running → r.state ≢ state.TooManyErrors
goes-on r run over = let both : state.Running ≡ state.TooManyErrors = sym run ∙ over in cc

pub alike : (r : ReceiverParts) (deliveries : List Heard) (progress : ℕ) (new : ReceiverParts) (hears : ReceiverHears r deliveries progress new) → new.receiver.state ≢ state.TooManyErrors →
    AnswersAlike (answered_along r deliveries progress new hears) × StillReady (answered_along r deliveries progress new hears) new.receiver
alike r deliveries progress new (receiver_none _) some = (tt, tt)
alike r deliveries progress new (receiver_more _ before steps between h reply _ hears is on large gives) some =
    let prefix = answered_along r before steps between hears in
    let all = alike r before steps between hears (goes-on between.receiver on) in (
      alike-more prefix (record { heard = h; wrote = reply }) (none-cancels r before steps between hears on) all.0 (fits-now between h reply new on gives prefix all.1 some) (bad-says between h reply new on gives),
      still-now between h reply new on gives prefix all.1,
    )
