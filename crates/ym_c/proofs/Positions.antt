-- Where a call's name or bytes stand in the delivery that was heard.
use Rattle.std.specs.Prelude.{◌≡◌, ℕ, ◌+◌, ◌-◌, ◌%◌, ◌==◌, nat_lt, Bool, true, false, cond, List, ◌++◌, length, take, drop, Result, Ok, Err, refl}
use Rattle.std.proofs.Common.{sym, ◌∙◌, ap, ap₂}
use Rattle.std.proofs.lemmas.Bool.{eqb-true}
use Rattle.std.proofs.lemmas.List.{take-append-drop, append_assoc, take_at}
use Rattle.std.specs.List.{position_or_len}
use Rattle.ym_frame.specs.Block.{BlockParts}
use Rattle.ym_frame.specs.Frame.{verdict_of}
use Rattle.ym_frame.specs.declared.frame.Item.{Item}
use Rattle.ym_frame.specs.declared.frame.Item.TheVariants as item
use Rattle.ym_frame.specs.declared.frame.Broken.{Broken}
use Rattle.ym_frame.specs.declared.control.Reply.{Reply}
use Rattle.ym_header.specs.Split.{is_zero}
use Rattle.ym_header.specs.declared.fault.HeaderFault.{HeaderFault}
use Rattle.ym_header.specs.declared.reading.Zero.{Zero}
use Rattle.ym_header.specs.declared.reading.Zero.TheVariants.{File}
use Rattle.ym_machine.specs.declared.confirm.Confirm.{Confirm}
use Rattle.ym_machine.specs.declared.confirm.Confirm.TheVariants.{Twice}
use Rattle.ym_machine.specs.declared.limits.TheConstants.{GIVE_UP, MOST_FILES}
use Rattle.ym_core.specs.Receiver.{Receiver, Call, No_call, Begins, Adds, Commits, Step, stays, hears, hears_at, running_hears, zero_heard, next_block, covered_eot}
use Rattle.ym_core.specs.Hearing.{heard_at, heard_of}
use Rattle.ym_core.specs.Step.{Means, ReadsAs}
use Rattle.ym_core.specs.declared.delivery.Heard.TheVariants as heard
use Rattle.ym_core.specs.declared.stage.OpenFile.{OpenFile}
use Rattle.ym_core.specs.declared.stage.Stage.{Stage}
use Rattle.ym_core.specs.declared.stage.Stage.TheVariants.{AwaitHeader, InFile}
use Rattle.ym_core.specs.declared.state.RecvState.{RecvState}
use Rattle.ym_core.specs.declared.state.RecvState.TheVariants as state
use Rattle.ym_c.specs.ReceiverInC.{IsAsk, IsPlaced}
use Rattle.ym_c.specs.declared.receiver.YmAsk.{YmAsk}
use Rattle.ym_c.proofs.Fronts.{BodyStands, body_at_front}

-- a front of a front is a front
front : (n m : ℕ) (x : List ℕ) → take (length (take n (take m x))) x ≡ take n (take m x)
front n m x =
    let p = take n (take m x) in
    let q = drop n (take m x) ++ drop m x in
    let whole : p ++ q ≡ x = rw (← append_assoc p (drop n (take m x)) (drop m x), take-append-drop n (take m x)) (take-append-drop m x) in
    rw whole at (take_at {A = ℕ} p q (length p) refl)

-- a call's name or bytes stand behind the first three bytes
abbrev Behind : Call → List ℕ → Type 0
Behind No_call held = Unit {0}
Behind (Begins header) held = take (length header.name) (drop 3 held) ≡ header.name
Behind (Adds bytes) held = take (length bytes) (drop 3 held) ≡ bytes
Behind Commits held = Unit {0}

-- so do the first bytes of a block's body
front_of : (held : List ℕ) (b : BlockParts) (n : ℕ) (some : List ℕ) → take (length b.body) (drop 3 held) ≡ b.body → some ≡ take n b.body → take (length some) (drop 3 held) ≡ some
front_of held b n some there e =
    let is : some ≡ take n (take (length b.body) (drop 3 held)) = e ∙ ap (take n) (sym there) in
    ap (λ s. take (length s) (drop 3 held)) is ∙ front n (length b.body) (drop 3 held) ∙ sym is

either : (t : Bool) (a b : Step) (held : List ℕ) → (t ≡ true → Behind a.call held) → Behind b.call held → Behind (cond t a b).call held
either true a b held p q = p refl
either false a b held p q = q

stays_no : (r : Receiver) (reply : Reply) (held : List ℕ) → Behind (stays r reply).call held
stays_no r reply held = either (nat_lt (r.retries + 1) GIVE_UP) _ _ held (λ e. tt) tt

-- ---- A block

zero_behind : (r : Receiver) (zero : Result Zero HeaderFault) (held : List ℕ) (b : BlockParts) → take (length b.body) (drop 3 held) ≡ b.body → ReadsAs b.body zero → Behind (zero_heard r zero).call held
zero_behind r (Ok (File header)) held b f reads =
    either (nat_lt r.files MOST_FILES) _ _ held (λ e. front_of held b (position_or_len is_zero b.body) header.name f reads.name) tt
zero_behind r zero held b f reads = tt

next_behind : (r : Receiver) (file : OpenFile) (held : List ℕ) (b : BlockParts) → take (length b.body) (drop 3 held) ≡ b.body → Behind (next_block r file b.body).call held
next_behind r file held b f =
    either (nat_lt file.taken file.length) _ _ held (λ e. front_of held b (file.length - file.taken) (take (file.length - file.taken) b.body) f refl) (stays_no _ _ held)

-- ---- Anything else asks for no bytes

covered_no : (confirm : Confirm) (first : Bool) (r : Receiver) (file : OpenFile) (held : List ℕ) → Behind (covered_eot r confirm file first).call held
covered_no Twice false r file held = tt
covered_no confirm first r file held = tt

twice_no : (t : Bool) (r : Receiver) (one other : Reply) (held : List ℕ) → Behind (cond t (stays r one) (stays r other)).call held
twice_no t r one other held = either t _ _ held (λ e. stays_no r one held) (stays_no r other held)

-- ---- All of it

running : BodyStands → (stage : Stage) (r : Receiver) (zero : Result Zero HeaderFault) (held : List ℕ) (v : Result (Item × ℕ) Broken) → verdict_of held ≡ v
    → ((b : BlockParts) → stage ≡ AwaitHeader → heard_at v ≡ heard.Item (item.Block b) → b.number ≡ 0 → ReadsAs b.body zero) → Behind (running_hears r stage zero (heard_at v)).call held
running stands AwaitHeader r zero held (Ok (item.Block b, len)) e means =
    either (b.number == 0) _ _ held (λ w. zero_behind r zero held b (body_at_front stands held b len e) (means b refl refl (eqb-true b.number 0 w))) tt
running stands (InFile file) r zero held (Ok (item.Block b, len)) e means =
    either (b.number == (file.blocks + 1) % 256) _ _ held (λ w. next_behind r file held b (body_at_front stands held b len e))
    (either (b.number == file.blocks % 256) _ _ held (λ w. twice_no (file.blocks == 0) r _ _ held) tt)
running stands AwaitHeader r zero held (Ok (item.Eot, len)) e means = twice_no (nat_lt 0 r.files) r _ _ held
running stands (InFile file) r zero held (Ok (item.Eot, len)) e means =
    either (nat_lt file.taken file.length) _ _ held (λ w. stays_no r _ held) (covered_no r.confirm file.first_eot r file held)
running stands AwaitHeader r zero held (Err broken) e means = stays_no r _ held
running stands (InFile file) r zero held (Err broken) e means = twice_no (file.blocks == 0) r _ _ held
running stands stage r zero held v e means = tt

by_state : BodyStands → (s : RecvState) (r : Receiver) (zero : Result Zero HeaderFault) (held : List ℕ)
    → ((b : BlockParts) → s ≡ state.Running → r.stage ≡ AwaitHeader → heard_of held ≡ heard.Item (item.Block b) → b.number ≡ 0 → ReadsAs b.body zero)
    → Behind (hears_at s r zero (heard_of held)).call held
by_state stands state.Running r zero held means = running stands r.stage r zero held (verdict_of held) refl (λ b. means b refl)
by_state stands s r zero held means = tt

told_at : (call : Call) (ask : YmAsk) (held : List ℕ) → ask.at ≡ 3 → IsAsk call ask → Behind call held → IsPlaced call ask held
told_at (Begins header) ask held at is there = ap₂ (λ n a. take n (drop a held)) is.2 at ∙ there
told_at (Adds bytes) ask held at is there = ap₂ (λ n a. take n (drop a held)) is.1 at ∙ there
told_at call ask held at is there = tt

pub placed : BodyStands → (r : Receiver) (zero : Result Zero HeaderFault) (held : List ℕ) (ask : YmAsk) → Means r (heard_of held) zero → ask.at ≡ 3 → IsAsk (hears r zero (heard_of held)).call ask → IsPlaced (hears r zero (heard_of held)).call ask held
placed stands r zero held ask means at is = told_at (hears r zero (heard_of held)).call ask held at is (by_state stands r.state r zero held means)
