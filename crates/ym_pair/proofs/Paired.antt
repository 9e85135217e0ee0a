-- The runs of two engines, step by step: a round in which their deliveries pair up is a round of the pair.
use Rattle.std.proofs.Common.{◌≡◌, ◌≢◌, ◌∙◌, ◌⊎◌, ◌+◌, inl, inr, nat_lt, ℕ, Bool, true, false, List, [], ◌∷◌, ◌++◌, length, Option, None, Some, Result, Ok, Err, unwrap_or, refl, sym, ap, subst, arith}
use Rattle.std.proofs.lemmas.Bool.{cond_both, ltb-true}
use Rattle.ym_pair.proofs.Names.{Confirm, Batch, State, Receiver, verdict_of, Control, Ack, Can, Reply, Silence, Item, IsPosition, count_at, next_of, controls_in, reads, after_scan, hears, hears_in, Heard, Bad, Mode, Waiting, Sent, Position, Header, Block, Eot, End, Scan, Standing, SendState, SenderHears, sender_none, sender_more, ReceiverHears, receiver_none, receiver_more, Tape, ReceiverParts, HearsGives, SenderParts, IsSender, IsStep, counts, spoken, written_for, Goes, sent_by, seen_of, Delivery, Lost, Spoke, Answered, spoke_in, spoke_along, last_words, answered_in, ArrivesThere, ArrivesBack, ends, up_to_start}
use Rattle.ym_frame.specs.Control.{reply_bytes}
use Rattle.ym_frame.specs.Frame.{IsBytes, IsVerdict, HasFrame}
use Rattle.ym_frame.specs.declared.control.Control.TheVariants.{Nak}
use Rattle.ym_frame.specs.declared.frame.Broken.{Broken}
use Rattle.ym_core.specs.Hearing.{heard_at}
use Rattle.ym_core.specs.declared.state.SendState.TheVariants as send_state
use Rattle.ym_core.specs.declared.state.RecvState.TheVariants as recv_state
use Rattle.ym_link.specs.ReceiveOver as receiving
use Rattle.ym_link.specs.SendOver as sending
use Rattle.ym_file.specs.Kept.{Kept}
use Rattle.ym_machine.specs.Machine.{KeepsReceiver}
use Rattle.ym_link.specs.Moves.{Moves}
use Rattle.ym_link.specs.ReceiverRefines.{ReceiverRefines}
use Rattle.ym_line.specs.Damage.{arrives, IsHeardBad, ShowsBack, ShowsThere}
use Rattle.ym_line.specs.Rounds.{GoesThere}
use Rattle.ym_line.specs.declared.delivery.Delivery.TheVariants.{Damaged}
use Rattle.ym_pair.specs.Logs.{answered_along}
use Rattle.ym_pair.specs.Pairing.{AreBytes}
use Rattle.ym_pair.proofs.SenderLaws.{SenderLaws}

-- ---- Nothing is read behind the first C

reads-up : (counts : List ℕ) (position : Position) (mode : Mode) (cs : List Control) → reads counts position mode cs ≡ reads counts position mode (up_to_start cs)
reads-up counts position Waiting (Nak ∷ cs) = reads-up counts position Waiting cs
reads-up counts (Header file) Sent (Ack ∷ cs) = reads-up counts (next_of counts (Header file)) Waiting cs
reads-up counts (Eot file) Sent (Ack ∷ cs) = reads-up counts (next_of counts (Eot file)) Waiting cs
reads-up counts position Waiting (Ack ∷ cs) = reads-up counts position Waiting cs
reads-up counts position mode (Can ∷ Ack ∷ cs) = reads-up counts position mode (Ack ∷ cs)
reads-up counts position Waiting (Can ∷ Nak ∷ cs) = reads-up counts position Waiting (Nak ∷ cs)
reads-up counts position mode _ = refl

hears-up : (counts : List ℕ) (s : Standing) (cs : List Control) → hears counts s cs ≡ hears counts s (up_to_start cs)
hears-up counts s cs = by s.state
  where
    by : (now : SendState) → hears_in now counts s cs ≡ hears_in now counts s (up_to_start cs)
    by send_state.Running = ap (λ (r : Scan). after_scan s r.position r.mode r.stop) (reads-up counts s.position s.mode cs)
    by _ = refl

-- ---- The runs as steps

-- a sender hears these controls
abbrev pub HearsControls : SenderParts → List Control → SenderParts → Type 0
HearsControls old controls new = (failed : Bool) × IsStep old (hears (counts old) old.standing controls) failed new

-- what a sender that runs said and heard leads from the first to the second
abbrev pub SpeaksTo : SenderParts → List Spoke → SenderParts → Type 0
SpeaksTo s [] new = new ≡ s
SpeaksTo s (one ∷ spoke) new =
    (next : SenderParts) × IsSender s × (s.standing.state ≡ send_state.Running) × (one.wrote ≡ sent_by s) × HearsControls s (up_to_start (controls_in one.came)) next × SpeaksTo next spoke new

-- the reply was written, or else nothing was
abbrev pub IsWritten : Bool → Reply → Reply → Type 0
IsWritten true reply wrote = wrote ≡ reply
IsWritten false reply wrote = (wrote ≡ reply) ⊎ (wrote ≡ Silence)

-- what a receiver that runs heard leads from the first to the second, where all replies were written or not
abbrev pub AnswersTo : Bool → ReceiverParts → List Answered → ReceiverParts → Type 0
AnswersTo all r [] new = new ≡ r
AnswersTo all r (one ∷ answered) new =
    (next : ReceiverParts) × (reply : Reply) × (r.receiver.state ≡ recv_state.Running) × HearsGives r one.heard (Ok reply) next × IsWritten all reply one.wrote × AnswersTo all next answered new

-- what is to be sent, as both definitions have it
pub written-sent : (said : Option (List ℕ)) → written_for said ≡ unwrap_or said []
written-sent None = refl
written-sent (Some bytes) = refl

hears-step : (s new : SenderParts) (came : List ℕ) → HearsControls s (controls_in came) new → HearsControls s (up_to_start (controls_in came)) new
hears-step s new came heard = (heard.0, subst (λ step. IsStep s step heard.0 new) (hears-up (counts s) s.standing (controls_in came)) heard.1)

pub speaks : (s : SenderParts) (t : Tape) (out : sending.Outcome) (run : sending.Sends s t out) → SpeaksTo s (spoke_in s t out run) out.sender
speaks s t out (sending.heard _ _ bytes new _ is on some gives later) = (new, is, on, written-sent (spoken s), hears-step s new bytes gives, speaks new _ out later)
speaks s t out _ = refl

pub answers : (r : ReceiverParts) (t : Tape) (out : receiving.Outcome) (run : receiving.Receives r t out) → AnswersTo false r (answered_in r t out run) out.receiver
answers r t out (receiving.unwritten _ _ h reply new is on some gives spoken) = (new, reply, on, gives, inr refl, refl)
answers r t out (receiving.heard _ _ h reply new _ is on some gives later) = (new, reply, on, gives, inl refl, answers new _ out later)
answers r t out _ = refl

-- along a history
speaks-more : (s between new : SenderParts) (spoke : List Spoke) (one : Spoke) → SpeaksTo s spoke between → IsSender between → between.standing.state ≡ send_state.Running → one.wrote ≡ sent_by between →
    HearsControls between (up_to_start (controls_in one.came)) new → SpeaksTo s (spoke ++ one ∷ []) new
speaks-more s between new [] one speaks is on wrote heard =
    subst (λ x. SpeaksTo x (one ∷ []) new) speaks (new, is, on, wrote, heard, refl)
speaks-more s between new (first ∷ spoke) one speaks is on wrote heard =
    (speaks.0, speaks.1, speaks.2, speaks.3, speaks.4, speaks-more speaks.0 between new spoke one speaks.5 is on wrote heard)

pub speaks-along : (s : SenderParts) (deliveries : List (List ℕ)) (progress : ℕ) (new : SenderParts) (hears : SenderHears s deliveries progress new) → SpeaksTo s (spoke_along s deliveries progress new hears) new
speaks-along s deliveries progress new (sender_none _) = refl
speaks-along s deliveries progress new (sender_more _ before steps between bytes _ hears is on short gives) =
    speaks-more s between new (spoke_along s before steps between hears) _ (speaks-along s before steps between hears) is on (written-sent (spoken between)) (hears-step between new bytes gives)

answers-more : (all : Bool) (r between new : ReceiverParts) (answered : List Answered) (one : Answered) (reply : Reply) → AnswersTo all r answered between → between.receiver.state ≡ recv_state.Running →
    HearsGives between one.heard (Ok reply) new → IsWritten all reply one.wrote → AnswersTo all r (answered ++ one ∷ []) new
answers-more all r between new [] one reply answers on gives wrote = subst (λ x. AnswersTo all x (one ∷ []) new) answers (new, reply, on, gives, wrote, refl)
answers-more all r between new (first ∷ answered) one reply answers on gives wrote =
    (answers.0, answers.1, answers.2, answers.3, answers.4, answers-more all answers.0 between new answered one reply answers.5 on gives wrote)

same-written : (all : Bool) (reply : Reply) → IsWritten all reply reply
same-written true reply = refl
same-written false reply = inl refl

pub answers-along : (all : Bool) (r : ReceiverParts) (deliveries : List Heard) (progress : ℕ) (new : ReceiverParts) (hears : ReceiverHears r deliveries progress new) →
    AnswersTo all r (answered_along r deliveries progress new hears) new
answers-along all r deliveries progress new (receiver_none _) = refl
answers-along all r deliveries progress new (receiver_more _ before steps between h reply _ hears is on large gives) =
    answers-more all r between new (answered_along r before steps between hears) _ reply (answers-along all r before steps between hears) on gives (same-written all reply)

-- Where a call answers Ok, its end has ended; and of a receiver's each reply was written.
pub sent-over : (s : SenderParts) (t : Tape) (out : sending.Outcome) (run : sending.Sends s t out) → out.answer ≡ Ok tt → out.sender.standing.state ≢ send_state.Running
sent-over s t out (sending.ended _ _ over) ok = over
sent-over s t out (sending.heard _ _ bytes new _ is on some gives later) ok = sent-over new _ out later ok
sent-over s t out _ ok = absurd (cc)

pub answers-all : (r : ReceiverParts) (t : Tape) (out : receiving.Outcome) (run : receiving.Receives r t out) → out.answer ≡ Ok tt →
    AnswersTo true r (answered_in r t out run) out.receiver × (out.receiver.receiver.state ≢ recv_state.Running)
answers-all r t out (receiving.ended _ _ over) ok = (refl, over)
answers-all r t out (receiving.heard _ _ h reply new _ is on some gives later) ok =
    let rest = answers-all new _ out later ok in
    ((new, reply, on, gives, refl, rest.0), rest.1)
answers-all r t out _ ok = absurd (cc)

-- ---- A sender that has ended

next-position : (counts : List ℕ) (position : Position) → IsPosition counts position → IsPosition counts (next_of counts position)
next-position counts (Header file) within =
    cond_both (nat_lt 0 (count_at counts file)) (Block file 1) (Eot file) (IsPosition counts) (λ e. let some = ltb-true 0 (count_at counts file) e in (within, omega arith, omega (arith, some))) (λ e. within)
next-position counts (Block file k) within =
    cond_both (nat_lt k (count_at counts file)) (Block file (k + 1)) (Eot file) (IsPosition counts) (λ e. let some = ltb-true k (count_at counts file) e in (within.0, omega arith, omega (arith, some))) (λ e. within.0)
next-position counts (Eot file) within = cond_both (nat_lt (file + 1) (length counts)) (Header (file + 1)) End (IsPosition counts) (λ e. ltb-true (file + 1) (length counts) e) (λ e. tt)
next-position counts End within = tt

moved-position : (counts : List ℕ) (position new : Position) (mode : Mode) (cs : List Control) → IsPosition counts position → Moves counts position mode cs new → IsPosition counts new
moved-position counts position new mode cs within (inl same) = rw same within
moved-position counts position new mode cs within (inr moved) = rw moved.3 (next-position counts position within)

-- it keeps to what each sender keeps to
ended-is : SenderLaws → (s new : SenderParts) (cs : List Control) → IsSender s → s.standing.state ≡ send_state.Running → HearsControls s cs new → new.standing.state ≢ send_state.Running → IsSender new
ended-is laws s new cs is on heard over =
    let counted : counts new ≡ counts s = laws.counts s _ heard.0 new heard.1 in
    record {
      files = laws.files s _ heard.0 new heard.1 is.files;
      position = subst (λ c. IsPosition c new.standing.position) (sym counted) (moved-position (counts s) s.standing.position new.standing.position s.standing.mode cs is.position (laws.goes s cs heard.0 new on heard.1));
      retries = λ runs. absurd (over runs);
      frame = λ runs. absurd (over runs);
    }

-- the last words are those of the sender that is left, or none
pub record Leaves (s : SenderParts) (last : List ℕ) : Type 0 where
  pub is : IsSender s
  pub words : (last ≡ sent_by s) ⊎ (last ≡ [])

pub leaves : SenderLaws → (s : SenderParts) (t : Tape) (out : sending.Outcome) (run : sending.Sends s t out) → (s.standing.state ≢ send_state.Running → IsSender s) → Leaves out.sender (last_words s t out run)
leaves laws s t out (sending.ended _ _ over) known = record { is = known over; words = inl (written-sent (spoken s)) }
leaves laws s t out (sending.unwritten _ _ is some) known = record { is = is; words = inr refl }
leaves laws s t out (sending.unread _ _ f is on none) known = record { is = is; words = inl (written-sent (spoken s)) }
leaves laws s t out (sending.heard _ _ bytes new _ is on some gives later) known = leaves laws new _ out later (ended-is laws s new (controls_in bytes) is on gives)

-- ---- What arrives

abbrev pub Computed : Type 0
Computed = (bytes : List ℕ) → IsBytes bytes → IsVerdict bytes (verdict_of bytes)

verdict-bad : (bytes : List ℕ) (v : Result (Item × ℕ) Broken) → IsVerdict bytes v → (HasFrame bytes → ⊥) → heard_at v ≡ Bad
verdict-bad bytes (Ok found) is shows = absurd (shows (found.0, found.1, is))
verdict-bad bytes (Err broken) is shows = refl

-- damage that shows is heard as bad
pub heard-bad : Computed → (delivery : Delivery) → AreBytes delivery → ShowsThere delivery → IsHeardBad delivery
heard-bad computed (Damaged bytes) are shows = verdict-bad bytes (verdict_of bytes) (computed bytes are) shows
heard-bad computed _ are shows = tt

-- of nothing the receiver hears nothing
nothing-there : Computed → (delivery : Delivery) (h : Heard) → ArrivesThere delivery [] h → h ≡ Bad
unfolding verdict_of
nothing-there computed (Damaged bytes) h there = there.heard_is ∙ heard-bad computed (Damaged bytes) there.bytes there.shows
nothing-there computed _ h there = there.heard_is

pub bad-lost : (wrote : List ℕ) (h : Heard) → h ≡ Bad → ArrivesThere Lost wrote h
unfolding verdict_of
bad-lost wrote h bad = record { bytes = tt; shows = tt; short = tt; heard_is = bad }

-- the delivery there, of what there was to send: where it was not written, it is lost
pub there-of : Computed → (s : SenderParts) (wrote : List ℕ) (delivery : Delivery) (h : Heard) → (wrote ≡ sent_by s) ⊎ (wrote ≡ []) → ArrivesThere delivery wrote h →
    (there : Delivery) × ArrivesThere there (sent_by s) h
there-of computed s wrote delivery h (inl same) arrives = (delivery, rw same at arrives)
there-of computed s wrote delivery h (inr none) arrives = (Lost, bad-lost (sent_by s) h (nothing-there computed delivery h (rw none at arrives)))

abbrev pub SilenceBack : Type 0
SilenceBack = (delivery : Delivery) → ShowsBack Silence delivery → controls_in (arrives delivery (reply_bytes Silence)) ≡ []

-- of silence the sender reads no control
pub nothing-back : SilenceBack → (delivery : Delivery) (came : List ℕ) → ArrivesBack delivery Silence came → up_to_start (controls_in came) ≡ []
nothing-back silence delivery came back = back.heard_is ∙ silence delivery back.shows

-- ---- A round

-- the receiver's half of a round: what there was to send arrives
pub paired-half : Computed → (s : SenderParts) (r after : ReceiverParts) (heard : Heard) (reply : Reply) (there : Delivery) → IsSender s → ArrivesThere there (sent_by s) heard →
    HearsGives r heard (Ok reply) after → GoesThere there (ends s r) reply (ends s after)
paired-half computed s r after heard reply there is arrives_there gives = record {
  shows = arrives_there.shows;
  short = arrives_there.short;
  bad = heard-bad computed there arrives_there.bytes arrives_there.shows;
  keeps = is;
  hears = subst (λ h. HearsGives r h (Ok reply) after) arrives_there.heard_is gives;
  others = refl;
}

-- two deliveries that pair up are a round of the pair
pub paired-round : Computed → (s next : SenderParts) (r after : ReceiverParts) (came : List ℕ) (h : Heard) (reply : Reply) (there back : Delivery) →
    IsSender s → HearsControls s (up_to_start (controls_in came)) next → HearsGives r h (Ok reply) after →
    ArrivesThere there (sent_by s) h → ArrivesBack back reply came →
    Goes (record { there = there; back = back }) (ends s r) (seen_of (record { there = there; back = back }) s reply) (ends next after)
paired-round computed s next r after came h reply there back is heard gives arrives_there arrives_back = record {
  between = ends s after;
  there = paired-half computed s r after h reply there is arrives_there gives;
  back = record {
    shows = arrives_back.shows;
    short = arrives_back.short;
    hears = subst (λ controls. HearsControls s controls next) arrives_back.heard_is heard;
    others = refl;
  };
  seen_is = refl;
}

-- ---- A wait in vain

-- a receiver refines each state in which what is the receiver's stays
pub receiver-stays : (confirm : Confirm) (files : Batch) (old new : State) (r : Receiver) (kept : Kept) → KeepsReceiver old new → ReceiverRefines confirm files old r kept → ReceiverRefines confirm files new r kept
receiver-stays confirm files old new r kept same refines = grind (arith, same, refines)
