-- Whatever comes, what a receiver has committed was spelled by what it heard in the call.
use Rattle.std.proofs.Common.{◌≡◌, inl, inr, ℕ, List, [], ◌∷◌, ◌++◌, refl, ap, subst, arith, append_assoc, append-nil}
use Rattle.ym_pair.proofs.Names.{Item, Kept, Confirm, AreAmong, spelling, heard_in, Heard, Stage, AwaitHeader, InFile, Receiver, ReceiverParts, Tape, ReceiverHears, receiver_none, receiver_more}
use Rattle.ym_file.specs.Kept.{IsNew, TellsNone}
use Rattle.ym_pair.specs.AnyPeer.{CommitsTheHeard}
use Rattle.ym_core.specs.declared.delivery.Heard.TheVariants as heard
use Rattle.ym_core.specs.Receiver.{new_receiver}
use Rattle.ym_link.specs.ReceiveOver.{Outcome, Receives, unwritten}
use Rattle.ym_link.specs.ReceiveOver as receiving
use Rattle.ym_pair.proofs.Spelling.{Holds, OpenHolds, IsHeardAs, nothing}
use Rattle.ym_pair.proofs.SpellingTable.{Behind, hears-holds}

-- ---- A run

among-skip : (h : Heard) (items : List Item) (all : List Heard) → AreAmong items all → AreAmong items (h ∷ all)
among-skip h [] all among = tt
among-skip h (i ∷ items) all among = inr among

among-more : (h : Heard) (first items : List Item) (all : List Heard) → IsHeardAs h first → AreAmong items all → AreAmong (first ++ items) (h ∷ all)
among-more h [] items all heard_as among = among-skip h items all among
among-more h (i ∷ []) items all heard_as among = inl (heard_as, among)
among-more h (i ∷ j ∷ first) items all heard_as among = absurd heard_as

among-prefix : (prefix more : List Item) (all : List Heard) → AreAmong (prefix ++ more) all → AreAmong prefix all
among-prefix [] more all among = tt
among-prefix (i ∷ prefix) more [] among = absurd among
among-prefix (i ∷ prefix) more (h ∷ all) (inl here) = inl (here.0, among-prefix prefix more all here.1)
among-prefix (i ∷ prefix) more (h ∷ all) (inr later) = inr (among-prefix (i ∷ prefix) more all later)

record Spelt (confirm : Confirm) (items : List Item) (all : List Heard) (new : ReceiverParts) : Type 0 where
  more : List Item
  among : AreAmong more all
  holds : Holds confirm (items ++ more) new.receiver.stage new.kept

run-spelt : (r : ReceiverParts) (t : Tape) (out : Outcome) (run : Receives r t out) (confirm : Confirm) (items : List Item) → r.receiver.confirm ≡ confirm → Holds confirm items r.receiver.stage r.kept →
    Spelt confirm items (heard_in r t out run) out.receiver
run-spelt r t out (unwritten _ _ h reply new is on some gives spoken) confirm items same holds =
    let behind : Behind confirm items h new = hears-holds confirm items r h reply new is on same holds gives in
    record {
      more = behind.more;
      among = subst (λ x. AreAmong x (h ∷ [])) (append-nil behind.more) (among-more h behind.more [] [] behind.heard_as tt);
      holds = behind.holds;
    }
run-spelt r t out (receiving.heard _ _ h reply new _ is on some gives later) confirm items same holds =
    let behind : Behind confirm items h new = hears-holds confirm items r h reply new is on same holds gives in
    let rest : Spelt confirm (items ++ behind.more) (heard_in new _ out later) out.receiver = run-spelt new _ out later confirm (items ++ behind.more) behind.confirm_is behind.holds in
    record {
      more = behind.more ++ rest.more;
      among = among-more h behind.more rest.more (heard_in new _ out later) behind.heard_as rest.among;
      holds = subst (λ x. Holds confirm x out.receiver.receiver.stage out.receiver.kept) (append_assoc items behind.more rest.more) rest.holds;
    }
run-spelt r t out _ confirm items same holds = record { more = []; among = tt; holds = nothing confirm items heard.Bad r.kept r.receiver.stage holds }

-- the same along a history, whose last delivery stands last
among-snoc : (h : Heard) (items more : List Item) (all : List Heard) → AreAmong items all → IsHeardAs h more → AreAmong (items ++ more) (all ++ h ∷ [])
among-snoc h [] [] all among heard_as = tt
among-snoc h [] (i ∷ []) [] among heard_as = inl (heard_as, tt)
among-snoc h [] (i ∷ []) (x ∷ all) among heard_as = inr (among-snoc h [] (i ∷ []) all tt heard_as)
among-snoc h [] (i ∷ j ∷ more) all among heard_as = absurd heard_as
among-snoc h (i ∷ items) more [] among heard_as = absurd among
among-snoc h (i ∷ items) more (x ∷ all) (inl here) heard_as = inl (here.0, among-snoc h items more all here.1 heard_as)
among-snoc h (i ∷ items) more (x ∷ all) (inr later) heard_as = inr (among-snoc h (i ∷ items) more all later heard_as)

record SpeltAlong (confirm : Confirm) (all : List Heard) (new : ReceiverParts) : Type 0 where
  confirm_is : new.receiver.confirm ≡ confirm
  items : List Item
  among : AreAmong items all
  holds : Holds confirm items new.receiver.stage new.kept

history-spelt : (r : ReceiverParts) (all : List Heard) (progress : ℕ) (new : ReceiverParts) (hears : ReceiverHears r all progress new) (confirm : Confirm) → r.receiver.confirm ≡ confirm →
    Holds confirm [] r.receiver.stage r.kept → SpeltAlong confirm all new
history-spelt r all progress new (receiver_none _) confirm same holds = record { confirm_is = same; items = []; among = tt; holds = holds }
history-spelt r all progress new (receiver_more _ before steps between h reply _ hears is on large gives) confirm same holds =
    let so_far : SpeltAlong confirm before between = history-spelt r before steps between hears confirm same holds in
    let behind : Behind confirm so_far.items h new = hears-holds confirm so_far.items between h reply new is on so_far.confirm_is so_far.holds gives in
    record {
      confirm_is = behind.confirm_is;
      items = so_far.items ++ behind.more;
      among = among-snoc h so_far.items behind.more before so_far.among behind.heard_as;
      holds = behind.holds;
    }

-- the items of the committed files are in front
prefix-among : (confirm : Confirm) (items prefix : List Item) (stage : Stage) (kept : Kept) (all : List Heard) → OpenHolds confirm items prefix stage kept → AreAmong items all → AreAmong prefix all
prefix-among confirm items prefix AwaitHeader kept all in_hand among = subst (λ x. AreAmong x all) in_hand among
prefix-among confirm items prefix (InFile file) kept all in_hand among = among-prefix prefix _ all (subst (λ x. AreAmong x all) in_hand.1.items_are among)

-- a new receiver has nothing yet
starts : (r : ReceiverParts) → r.receiver ≡ new_receiver r.receiver.confirm → IsNew r.kept → Holds r.receiver.confirm [] r.receiver.stage r.kept
starts r fresh new =
    let awaits : r.receiver.stage ≡ AwaitHeader = ap (λ (x : Receiver). x.stage) fresh in
    rw awaits (record {
      files = [];
      spelled = λ k d less. absurd (omega (arith, less));
      headers = new.headers;
      bytes = λ told is. (subst TellsNone is new.told).1;
      in_hand = refl;
    })

held-commits : (confirm : Confirm) (items : List Item) (all : List Heard) (stage : Stage) (kept : Kept) → AreAmong items all → Holds confirm items stage kept → CommitsTheHeard confirm all kept
held-commits confirm items all stage kept among holds = record {
  files = holds.files;
  spelled = holds.spelled;
  among = prefix-among confirm items (spelling confirm holds.files) stage kept all holds.in_hand among;
  headers = holds.headers;
  bytes = holds.bytes;
}

pub commits-heard : (r : ReceiverParts) (t : Tape) (out : Outcome) (run : Receives r t out) → r.receiver ≡ new_receiver r.receiver.confirm → IsNew r.kept →
    CommitsTheHeard r.receiver.confirm (heard_in r t out run) out.receiver.kept
commits-heard r t out run fresh new =
    let confirm : Confirm = r.receiver.confirm in
    let spelt : Spelt confirm [] (heard_in r t out run) out.receiver = run-spelt r t out run confirm [] refl (starts r fresh new) in
    held-commits confirm spelt.more (heard_in r t out run) out.receiver.receiver.stage out.receiver.kept spelt.among spelt.holds

pub history-commits : (r new : ReceiverParts) (all : List Heard) (progress : ℕ) (hears : ReceiverHears r all progress new) → r.receiver ≡ new_receiver r.receiver.confirm → IsNew r.kept →
    CommitsTheHeard r.receiver.confirm all new.kept
history-commits r new all progress hears fresh kept =
    let spelt = history-spelt r all progress new hears r.receiver.confirm refl (starts r fresh kept) in
    held-commits r.receiver.confirm spelt.items all new.receiver.stage new.kept spelt.among spelt.holds
