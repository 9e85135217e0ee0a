-- A sender's engine says the same again until it has read an ACK.
use Rattle.std.proofs.Common.{◌≡◌, ◌≢◌, ◌⊎◌, ◌+◌, ◌∙◌, inl, inr, ℕ, nat_lt, Bool, true, false, if◌then◌else◌, List, [], ◌∷◌, ◌++◌, refl, sym, ap, subst}
use Rattle.ym_frame.specs.declared.control.Control.{Control}
use Rattle.ym_frame.specs.declared.control.Control.TheVariants.{Ack, Nak, Start, Can}
use Rattle.ym_core.specs.Scan.{controls_in, goes_on, reads, stops}
use Rattle.ym_core.specs.declared.scan.Scan.{Scan}
use Rattle.ym_core.specs.declared.scan.Stop.TheVariants.{Again, Cancels}
use Rattle.ym_core.specs.Standing.{after_scan, hears, hears_in, missed, read_through, step}
use Rattle.ym_core.specs.declared.standing.SendStep.{SendStep as Step}
use Rattle.ym_machine.specs.declared.limits.TheConstants.{GIVE_UP}
use Rattle.ym_link.specs.History.{SenderHears, sender_none, sender_more}
use Rattle.ym_core.specs.declared.position.Position.{Position}
use Rattle.ym_core.specs.declared.position.Mode.{Mode}
use Rattle.ym_core.specs.declared.position.Mode.TheVariants.{Waiting, Sent}
use Rattle.ym_core.specs.declared.standing.Standing.{Standing}
use Rattle.ym_core.specs.declared.state.SendState.{SendState}
use Rattle.ym_core.specs.declared.state.SendState.TheVariants as state
use Rattle.ym_link.specs.Sender.{Hears, IsStep, SenderParts, counts, spoken, spoken_in}
use Rattle.ym_link.specs.SendOver.{written_for}
use Rattle.ym_pair.specs.Logs.{Spoke, spoke_along}
use Rattle.ym_pair.specs.Pairing.{up_to_start}
use Rattle.ym_delay.specs.Cleared.{EndsInVain, EndsWell, HasAck, HasCan, ReadsAck, ReadsCan, SaysAgain}

-- ---- What a sender reads that has sent

-- it stays where it is, or is cancelled
abbrev pub Stays : Type 0 → Position → Scan → Type 0
Stays CanCame position r = (r ≡ goes_on position Sent) ⊎ ((r ≡ stops position Sent Again) ⊎ ((r ≡ stops position Sent Cancels) × CanCame))

pub scan : (blocks : List ℕ) (position : Position) (controls : List Control) → HasAck (up_to_start controls) ⊎ Stays (HasCan (up_to_start controls)) position (reads blocks position Sent controls)
scan blocks position [] = inr (inl refl)
scan blocks position (Ack ∷ more) = inl tt
scan blocks position (Nak ∷ more) = inr (inr (inl refl))
scan blocks position (Start ∷ more) = inr (inr (inl refl))
scan blocks position (Can ∷ []) = inr (inl refl)
scan blocks position (Can ∷ Can ∷ more) = inr (inr (inr (refl, tt)))
scan blocks position (Can ∷ Ack ∷ more) = inl tt
scan blocks position (Can ∷ Nak ∷ more) = inr (inr (inl refl))
scan blocks position (Can ∷ Start ∷ more) = inr (inr (inl refl))

-- ---- What becomes of a sender that reads no ACK

-- it is as it was, gave up, or was cancelled
pub record Kept (CanCame : Type 0) (st : Standing) (taken : Step) : Type 0 where
  pub standing : Standing
  pub is : taken ≡ step standing
  pub why : (standing ≡ record st { retries = st.retries + 1 }) ⊎ ((standing.state ≡ state.NoReply) ⊎ ((standing.state ≡ state.Cancelled) × CanCame))

pick-if : {A : Type 0} (b : Bool) (x y : A) → ((if b then x else y) ≡ x) ⊎ ((if b then x else y) ≡ y)
pick-if true x y = inl refl
pick-if false x y = inr refl

missed-kept : (CanCame : Type 0) (st : Standing) (taken : Step) → taken ≡ missed st → Kept CanCame st taken
missed-kept CanCame st taken is =
    elim (pick-if (nat_lt (st.retries + 1) GIVE_UP) (step (record st { retries = st.retries + 1 })) (step (record st { retries = st.retries + 1; state = state.NoReply; cancel_pending = true }))) [
      | inl same ↦ record { standing = record st { retries = st.retries + 1 }; is = is ∙ same; why = inl refl }
      | inr over ↦ record { standing = record st { retries = st.retries + 1; state = state.NoReply; cancel_pending = true }; is = is ∙ over; why = inr (inl refl) }
    ]

as-read : (st : Standing) (r : Scan) (x : Scan) → r ≡ x → after_scan st r.position r.mode r.stop ≡ after_scan st x.position x.mode x.stop
as-read st r x is = ap (λ (y : Scan). after_scan st y.position y.mode y.stop) is

stays-kept : (CanCame : Type 0) (st : Standing) (r : Scan) → st.mode ≡ Sent → Stays CanCame st.position r → Kept CanCame st (after_scan st r.position r.mode r.stop)
stays-kept CanCame st r sent (inl is) = missed-kept CanCame st _ (as-read st r (goes_on st.position Sent) is ∙ ap (λ m. read_through st st.position m Sent) sent)
stays-kept CanCame st r sent (inr (inl is)) = missed-kept CanCame st _ (as-read st r (stops st.position Sent Again) is)
stays-kept CanCame st r sent (inr (inr (is, can))) = record {
  standing = record st { position = st.position; mode = Sent; state = state.Cancelled };
  is = as-read st r (stops st.position Sent Cancels) is;
  why = inr (inr (refl, can));
}

kept : (blocks : List ℕ) (st : Standing) (controls : List Control) → st.state ≡ state.Running → st.mode ≡ Sent → HasAck (up_to_start controls) ⊎ Kept (HasCan (up_to_start controls)) st (hears blocks st controls)
kept blocks st controls run sent =
    elim (scan blocks st.position controls) [
      | inl ack ↦ inl ack
      | inr stays ↦ inr (
          subst (Kept (HasCan (up_to_start controls)) st) (sym (ap (λ x. hears_in x blocks st controls) run))
          (stays-kept (HasCan (up_to_start controls)) st (reads blocks st.position st.mode controls) sent (subst (λ m. Stays (HasCan (up_to_start controls)) st.position (reads blocks st.position m controls)) (sym sent) stays))
          )
    ]

-- ---- What it says then

abbrev pub said : SenderParts → List ℕ
said s = written_for (spoken s)

behind-fill : (failed : Bool) (old new : SenderParts) (x : Standing) → IsStep old (step x) failed new → (new.standing ≡ x) × (new.frame ≡ old.frame)
behind-fill false old new x is = (is.standing, is.frame refl)
behind-fill true old new x is = absurd is.files

-- the same, unless it gave up, or was cancelled
same-said : (CanCame : Type 0) (old new : SenderParts) (taken : Step) (failed : Bool) → Kept CanCame old.standing taken → IsStep old taken failed new → new.standing.state ≢ state.NoReply →
    (said new ≡ said old) ⊎ ((new.standing.state ≡ state.Cancelled) × CanCame)
same-said CanCame old new taken failed is goes some =
    let left = behind-fill failed old new is.standing (subst (λ x. IsStep old x failed new) is.is goes) in
    elim is.why [
      | inl same ↦ inl (
          ap (λ (x : Standing). written_for (spoken_in x.state x.mode x.cancel_pending new.frame)) (left.0 ∙ same)
          ∙ ap (λ f. written_for (spoken_in old.standing.state old.standing.mode old.standing.cancel_pending f)) left.1
          )
      | inr over ↦ elim over [
        | inl none ↦ absurd (some (ap (λ (x : Standing). x.state) left.0 ∙ none))
        | inr off ↦ inr (ap (λ (x : Standing). x.state) left.0 ∙ off.0, off.1)
      ]
    ]

silent : (s : SenderParts) → s.standing.state ≡ state.Running → s.standing.mode ≡ Waiting → said s ≡ []
silent s run waiting =
    ap (λ x. written_for (spoken_in x s.standing.mode s.standing.cancel_pending s.frame)) run
    ∙ ap (λ m. written_for (spoken_in state.Running m s.standing.cancel_pending s.frame)) waiting

-- it says the same, or has read an ACK, or had nothing to say
abbrev pub Three : Spoke → List ℕ → Type 0
Three x next = (next ≡ x.wrote) ⊎ (ReadsAck x.came ⊎ (x.wrote ≡ []))

-- or it was cancelled
four : (old new : SenderParts) (bytes : List ℕ) → old.standing.state ≡ state.Running → Hears old bytes new → new.standing.state ≢ state.NoReply →
    Three (record { wrote = said old; came = bytes }) (said new) ⊎ ((new.standing.state ≡ state.Cancelled) × ReadsCan bytes)
four old new bytes run hears some = by old.standing.mode refl
  where
    by : (m : Mode) → old.standing.mode ≡ m → Three (record { wrote = said old; came = bytes }) (said new) ⊎ ((new.standing.state ≡ state.Cancelled) × ReadsCan bytes)
    by Waiting waits = inl (inr (inr (silent old run waits)))
    by Sent sent =
        elim (kept (counts old) old.standing (controls_in bytes) run sent) [
          | inl ack ↦ inl (inr (inl ack))
          | inr is ↦ elim (same-said (ReadsCan bytes) old new _ hears.0 is hears.1 some) [ inl same ↦ inl (inl same) | inr off ↦ inr off ]
        ]

three : (old new : SenderParts) (bytes : List ℕ) → old.standing.state ≡ state.Running → Hears old bytes new → new.standing.state ≢ state.NoReply → new.standing.state ≢ state.Cancelled →
    Three (record { wrote = said old; came = bytes }) (said new)
three old new bytes run hears some going = elim (four old new bytes run hears some) [ inl is ↦ is | inr off ↦ absurd (going off.0) ]

-- ---- Along a history

abbrev pub AllThree : List Spoke → List ℕ → Type 0
AllThree [] next = Unit {0}
AllThree (x ∷ []) next = Three x next
AllThree (x ∷ y ∷ spoke) next = Three x y.wrote × AllThree (y ∷ spoke) next

one-more : (prefix : List Spoke) (x : Spoke) (next : List ℕ) → AllThree prefix x.wrote → Three x next → AllThree (prefix ++ x ∷ []) next
one-more [] x next all this = this
one-more (first ∷ []) x next all this = (all, this)
one-more (first ∷ second ∷ prefix) x next all this = (all.0, one-more (second ∷ prefix) x next all.1 this)

-- at last it may give up a wait
at-last : (prefix : List Spoke) (x : Spoke) (next : List ℕ) → AllThree prefix x.wrote → Three x next ⊎ ((x.came ≡ []) ⊎ ReadsCan x.came) → SaysAgain (prefix ++ x ∷ []) next
at-last [] x next all (inl (inl same)) = inl same
at-last [] x next all (inl (inr (inl ack))) = inr (inl ack)
at-last [] x next all (inl (inr (inr none))) = inr (inr (inl none))
at-last [] x next all (inr ends) = inr (inr (inr ends))
at-last (first ∷ []) x next all this = (all, at-last [] x next tt this)
at-last (first ∷ second ∷ prefix) x next all this = (all.0, at-last (second ∷ prefix) x next all.1 this)

in-vain : (prefix : List Spoke) (x : Spoke) → EndsInVain (prefix ++ x ∷ []) → x.came ≡ []
in-vain [] x none = none
in-vain (first ∷ []) x none = none
in-vain (first ∷ second ∷ prefix) x none = in-vain (second ∷ prefix) x none

all-three : (s : SenderParts) (deliveries : List (List ℕ)) (progress : ℕ) (new : SenderParts) (hears : SenderHears s deliveries progress new) → new.standing.state ≢ state.NoReply → new.standing.state ≢ state.Cancelled →
    AllThree (spoke_along s deliveries progress new hears) (said new)
all-three s deliveries progress new (sender_none _) some going = tt
all-three s deliveries progress new (sender_more _ before steps between bytes _ hears is on short gives) some going =
    one-more (spoke_along s before steps between hears) _ (said new) (all-three s before steps between hears (λ none. let both : state.Running ≡ state.NoReply = sym on ∙ none in cc) (λ off. let both : state.Running ≡ state.Cancelled = sym on ∙ off in cc))
    (three between new bytes on gives some going)

gave-up : (st : SendState) → (st ≡ state.NoReply) ⊎ (st ≢ state.NoReply)
gave-up state.Running = inr (λ is. cc)
gave-up state.Finished = inr (λ is. cc)
gave-up state.NoReply = inl refl
gave-up state.Cancelled = inr (λ is. cc)
gave-up state.SourceFailed = inr (λ is. cc)

pub says-again : (s : SenderParts) (deliveries : List (List ℕ)) (progress : ℕ) (new : SenderParts) (hears : SenderHears s deliveries progress new) → EndsWell new (spoke_along s deliveries progress new hears) →
    SaysAgain (spoke_along s deliveries progress new hears) (said new)
says-again s deliveries progress new (sender_none _) well = tt
says-again s deliveries progress new (sender_more _ before steps between bytes _ hears is on short gives) well =
    let all = all-three s before steps between hears (λ none. let both : state.Running ≡ state.NoReply = sym on ∙ none in cc) (λ off. let both : state.Running ≡ state.Cancelled = sym on ∙ off in cc) in
    at-last (spoke_along s before steps between hears) _ (said new) all (
    elim (gave-up new.standing.state) [
      | inl over ↦ inr (inl (in-vain (spoke_along s before steps between hears) _ (well over)))
      | inr some ↦ elim (four between new bytes on gives some) [ inl is ↦ inl is | inr off ↦ inr (inr off.1) ]
    ]
    )
