-- A sender and one that is like it but for more retries: they hear alike, until that one gives up.
use Rattle.std.proofs.Common.{◌≡◌, ◌≢◌, ◌∙◌, ◌+◌, ◌<◌, ◌≤◌, ◌⊎◌, inl, inr, ℕ, Bool, true, false, nat_lt, List, [], Option, None, Some, refl, sym, ap, subst, arith}
use Rattle.std.proofs.lemmas.Bool.{cond_both, ltb-true, ltb-false}
use Rattle.ym_pair.proofs.Names.{Control, GIVE_UP, reads, missed, read_through, after_scan, after_fill, hears, hears_in, Mode, Waiting, Sent, Position, Scan, Stop, Again, Finishes, Standing, Running, SenderParts, IsStep, IsFilled, counts}
use Rattle.ym_core.specs.Standing.{step}
use Rattle.ym_core.specs.declared.scan.Stop.TheVariants.{Sends, Cancels}
use Rattle.ym_core.specs.declared.standing.SendStep.{SendStep as Step}
use Rattle.ym_core.specs.declared.state.SendState.TheVariants.{NoReply}
use Rattle.ym_link.specs.Sender.{IsHeld}
use Rattle.ym_pair.proofs.Paired.{HearsControls}

-- ---- Standings that differ in the retries alone

abbrev pub with_retries : ℕ → Standing → Standing
with_retries m s = record s { retries = m }

-- the first has no fewer retries, and is else the same
abbrev pub IsLike : Standing → Standing → Type 0
IsLike x y = (n : ℕ) × (y.retries ≤ n) × (x ≡ with_retries n y)

same-like : (s : Standing) → IsLike s s
same-like s = (s.retries, omega arith, refl)

-- how a step leaves it
abbrev behind : Bool → Step → Standing
behind failed taken = after_fill failed taken.fills taken.standing

abbrev Alike : Bool → Step → Step → Type 0
Alike failed x y = (behind failed x).state ≢ NoReply → IsLike (behind failed x) (behind failed y)

step-alike : (failed : Bool) (x y : Standing) → IsLike x y → Alike failed (step x) (step y)
step-alike true x y like other = like
step-alike false x y like other = like

step-gone : (failed : Bool) (x : Standing) (y : Step) → x.state ≡ NoReply → Alike failed (step x) y
step-gone true x y gone other = absurd (other gone)
step-gone false x y gone other = absurd (other gone)

missed-is : (s : Standing) → ((s.retries + 1 < GIVE_UP) × (missed s ≡ step (record s { retries = s.retries + 1 })))
    ⊎ ((GIVE_UP ≤ s.retries + 1) × (missed s ≡ step (record s { retries = s.retries + 1; state = NoReply; cancel_pending = true })))
missed-is s =
    let on : Step = step (record s { retries = s.retries + 1 }) in
    let over : Step = step (record s { retries = s.retries + 1; state = NoReply; cancel_pending = true }) in
    cond_both (nat_lt (s.retries + 1) GIVE_UP) on over (λ x. ((s.retries + 1 < GIVE_UP) × (x ≡ on)) ⊎ ((GIVE_UP ≤ s.retries + 1) × (x ≡ over)))
    (λ e. inl (ltb-true (s.retries + 1) GIVE_UP e, refl))
    (λ e. inr (ltb-false (s.retries + 1) GIVE_UP e, refl))

missed-fills : (s : Standing) → (missed s).fills ≡ None
missed-fills s = elim (missed-is s) [ inl on ↦ ap (λ (x : Step). x.fills) on.1 | inr over ↦ ap (λ (x : Step). x.fills) over.1 ]

missed-alike : (failed : Bool) (s : Standing) (m : ℕ) → s.retries ≤ m → Alike failed (missed (with_retries m s)) (missed s)
missed-alike failed s m few = elim (missed-is (with_retries m s)) [
  | inl on ↦ elim (missed-is s) [
    | inl also ↦
        let like : IsLike (with_retries (m + 1) s) (record s { retries = s.retries + 1 }) = (m + 1, omega (arith, few), refl) in
        subst (Alike failed (missed (with_retries m s))) (sym also.1) (subst (λ x. Alike failed x (step (record s { retries = s.retries + 1 }))) (sym on.1) (step-alike failed _ _ like))
    | inr over ↦ absurd (let less = on.0 in let most = over.0 in omega (arith, less, most, few))
  ]
  | inr over ↦ subst (λ x. Alike failed x (missed s)) (sym over.1) (step-gone failed _ (missed s) refl)
]

through-alike : (failed : Bool) (s : Standing) (m : ℕ) (position : Position) (old new : Mode) → s.retries ≤ m → Alike failed (read_through (with_retries m s) position old new) (read_through s position old new)
through-alike failed s m position Sent Sent few = missed-alike failed s m few
through-alike failed s m position Waiting Waiting few = missed-alike failed s m few
through-alike failed s m position _ _ few = step-alike failed _ _ (same-like _)

scan-alike : (failed : Bool) (s : Standing) (m : ℕ) (position : Position) (mode : Mode) (stop : Option Stop) → s.retries ≤ m → Alike failed (after_scan (with_retries m s) position mode stop) (after_scan s position mode stop)
scan-alike failed s m position mode None few = through-alike failed s m position s.mode mode few
scan-alike failed s m position mode (Some Again) few = missed-alike failed s m few
scan-alike failed s m position mode (Some Sends) few = λ other. same-like _
scan-alike failed s m position mode (Some Finishes) few = step-alike failed _ _ (m, few, refl)
scan-alike failed s m position mode (Some Cancels) few = step-alike failed _ _ (m, few, refl)

hears-alike : (failed : Bool) (counts : List ℕ) (s : Standing) (m : ℕ) (cs : List Control) → s.retries ≤ m → s.state ≡ Running → Alike failed (hears counts (with_retries m s) cs) (hears counts s cs)
hears-alike failed counts s m cs few on =
    let r : Scan = reads counts s.position s.mode cs in
    subst (λ now. Alike failed (hears_in now counts (with_retries m s) cs) (hears_in now counts s cs)) (sym on) (scan-alike failed s m r.position r.mode r.stop few)

-- the same frame is filled
through-fills : (s : Standing) (m : ℕ) (position : Position) (old new : Mode) → (read_through (with_retries m s) position old new).fills ≡ (read_through s position old new).fills
through-fills s m position Sent Sent = missed-fills (with_retries m s) ∙ sym (missed-fills s)
through-fills s m position Waiting Waiting = missed-fills (with_retries m s) ∙ sym (missed-fills s)
through-fills s m position _ _ = refl

scan-fills : (s : Standing) (m : ℕ) (position : Position) (mode : Mode) (stop : Option Stop) → (after_scan (with_retries m s) position mode stop).fills ≡ (after_scan s position mode stop).fills
scan-fills s m position mode None = through-fills s m position s.mode mode
scan-fills s m position mode (Some Again) = missed-fills (with_retries m s) ∙ sym (missed-fills s)
scan-fills s m position mode (Some _) = refl

hears-fills : (counts : List ℕ) (s : Standing) (m : ℕ) (cs : List Control) → s.state ≡ Running → (hears counts (with_retries m s) cs).fills ≡ (hears counts s cs).fills
hears-fills counts s m cs on =
    let r : Scan = reads counts s.position s.mode cs in
    subst (λ now. (hears_in now counts (with_retries m s) cs).fills ≡ (hears_in now counts s cs).fills) (sym on) (scan-fills s m r.position r.mode r.stop)

-- ---- Senders

-- one that is like this one, with so many retries
abbrev pub ghost : ℕ → SenderParts → SenderParts
ghost m s = record s { standing = with_retries m s.standing }

-- What a ghost comes to at a delivery: where it has not given up, it is one of the sender behind that delivery.
pub record Comes (m : ℕ) (s : SenderParts) (cs : List Control) (next : SenderParts) : Type 0 where
  pub new : SenderParts
  pub heard : HearsControls (ghost m s) cs new
  pub files : new.files ≡ next.files
  pub goes_on : new.standing.state ≢ NoReply → (n : ℕ) × (next.standing.retries ≤ n) × (new ≡ ghost n next)

held-same : (fills : Option Position) (standing : Standing) (next : SenderParts) (frame : List ℕ) → IsHeld fills next frame → IsHeld fills (record next { standing = standing }) frame
held-same None standing next frame held = held
held-same (Some position) standing next frame held = held

-- at the sender's own delivery
pub comes-along : (m : ℕ) (s : SenderParts) (cs : List Control) (next : SenderParts) → s.standing.retries ≤ m → s.standing.state ≡ Running → HearsControls s cs next → Comes m s cs next
comes-along m s cs next few on heard =
    let failed : Bool = heard.0 in
    let x : Step = hears (counts s) (with_retries m s.standing) cs in
    let y : Step = hears (counts s) s.standing cs in
    let fills : x.fills ≡ y.fills = hears-fills (counts s) s.standing m cs on in
    record {
      new = record next { standing = behind failed x };
      heard = (
        failed,
        record {
          files = subst (λ f. IsFilled failed f s.files next.files) (sym fills) heard.1.files;
          standing = refl;
          frame = λ none. held-same x.fills (behind failed x) next s.frame (subst (λ f. IsHeld f next s.frame) (sym fills) (heard.1.frame none));
          shape = heard.1.shape;
        },
      );
      files = refl;
      goes_on = λ other.
          let there : IsLike (behind failed x) next.standing = subst (IsLike (behind failed x)) (sym heard.1.standing) (hears-alike failed (counts s) s.standing m cs few on other) in
          (there.0, there.1, ap (λ standing. record next { standing = standing }) there.2);
    }

-- of nothing a sender counts one retry more
quiet-retries : (counts : List ℕ) (s : Standing) → s.state ≡ Running → hears counts s [] ≡ missed s
quiet-retries counts s on = subst (λ now. hears_in now counts s [] ≡ missed s) (sym on) (by s.mode)
  where
    by : (mode : Mode) → read_through s s.position mode mode ≡ missed s
    by Sent = refl
    by Waiting = refl

still : (s : SenderParts) (standing : Standing) → IsStep s (step standing) false (record s { standing = standing })
still s standing = record { files = refl; standing = refl; frame = λ e. refl; shape = refl }

-- while the sender still waits, the ghost hears nothing
pub comes-waiting : (m : ℕ) (s : SenderParts) → s.standing.retries ≤ m → s.standing.state ≡ Running → Comes m s [] s
comes-waiting m s few on =
    let g : SenderParts = ghost m s in
    let quiet : hears (counts s) g.standing [] ≡ missed g.standing = quiet-retries (counts s) g.standing on in
    elim (missed-is g.standing) [
      | inl more ↦ record {
        new = ghost (m + 1) s;
        heard = (false, subst (λ taken. IsStep g taken false (ghost (m + 1) s)) (sym (quiet ∙ more.1)) (still g (with_retries (m + 1) s.standing)));
        files = refl;
        goes_on = λ other. (m + 1, omega (arith, few), refl);
      }
      | inr over ↦
          let gone : Standing = record s.standing { retries = m + 1; state = NoReply; cancel_pending = true } in
          record {
            new = record s { standing = gone };
            heard = (false, subst (λ taken. IsStep g taken false (record s { standing = gone })) (sym (quiet ∙ over.1)) (still g gone));
            files = refl;
            goes_on = λ other. absurd (other refl);
          }
    ]
