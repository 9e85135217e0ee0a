-- Where a frame is to be filled, the sender stands there and runs, and the frame is out.
use Rattle.std.proofs.Common.{ℕ, ◌+◌, ◌≡◌, ◌<◌, ◌≤◌, List, [], ◌∷◌, length, Bool, true, false, refl, ap, ◌∙◌, Option, None, Some, nat_lt, cond, arith}
use Rattle.std.specs.Prelude.{is_some}
use Rattle.std.proofs.lemmas.Bool.{cond_both}
use Rattle.ym_frame.specs.declared.control.Control.{Control}
use Rattle.ym_frame.specs.declared.control.Control.TheVariants.{Ack, Nak, Start, Can}
use Rattle.ym_machine.specs.declared.limits.TheConstants.{GIVE_UP, MOST_FILES}
use Rattle.ym_core.specs.Position.{IsPosition}
use Rattle.ym_core.specs.Scan.{reads, reads_control}
use Rattle.ym_core.specs.Standing.{hears, hears_in, after_scan, read_through, missed}
use Rattle.ym_core.specs.declared.position.Position.{Position}
use Rattle.ym_core.specs.declared.position.Position.TheVariants.{Header, Block, Eot, End}
use Rattle.ym_core.specs.declared.position.Mode.{Mode}
use Rattle.ym_core.specs.declared.position.Mode.TheVariants.{Waiting, Sent}
use Rattle.ym_core.specs.declared.scan.Scan.{Scan}
use Rattle.ym_core.specs.declared.scan.Stop.{Stop}
use Rattle.ym_core.specs.declared.scan.Stop.TheVariants.{Sends, Again, Finishes, Cancels}
use Rattle.ym_core.specs.declared.standing.Standing.{Standing}
use Rattle.ym_core.specs.declared.standing.SendStep.{SendStep as Step}
use Rattle.ym_core.specs.declared.state.SendState.{SendState}
use Rattle.ym_core.specs.declared.state.SendState.TheVariants.{Running}
use Rattle.ym_c.specs.SenderInC.{FitsC, mode_code, send_code, KeepsStanding, IsUnfilled, IsFill, IsFilled}
use Rattle.ym_c.specs.declared.sender.YmSender.{YmSender}
use Rattle.ym_c.specs.declared.sender.YmFill.{YmFill}

pub record IsFilling (standing : Standing) (position : Position) : Type 0 where
  pub at : standing.position ≡ position
  pub out : standing.mode ≡ Sent
  pub tries : standing.retries ≡ 0
  pub runs : standing.state ≡ Running

-- a scan that stops so that a frame is sent has it out
abbrev Sending : Scan → Type 0
Sending r = r.stop ≡ Some Sends → r.mode ≡ Sent

either : (b : Bool) (r x : Scan) → Sending r → Sending x → Sending (cond b r x)
either true r x p q = p
either false r x p q = q

one_sends : (counts : List ℕ) (mode : Mode) (c : Control) (position : Position) → Sending (reads_control counts mode c position)
one_sends counts Sent Ack (Block file k) h = refl
one_sends counts Sent Ack (Header file) h = absurd cc
one_sends counts Sent Ack (Eot file) h = absurd cc
one_sends counts Sent Ack End h = refl
one_sends counts Sent Nak position h = refl
one_sends counts Sent Start position h = refl
one_sends counts Sent Can position h = refl
one_sends counts Waiting Start position h = refl
one_sends counts Waiting Ack position h = absurd cc
one_sends counts Waiting Nak position h = absurd cc
one_sends counts Waiting Can position h = absurd cc

all_send : (counts : List ℕ) (position : Position) (mode : Mode) (cs : List Control) → Sending (reads counts position mode cs)
all_send counts position mode [] h = absurd cc
all_send counts position mode (Can ∷ []) h =
    absurd (elim mode as (λ m. (reads counts position m (Can ∷ [])).stop ≡ Some Sends → ⊥) [ Waiting ↦ λ w. cc | Sent ↦ λ w. cc ] h)
all_send counts position mode (Can ∷ Can ∷ cs) h = absurd cc
all_send counts position mode (c ∷ cs) h =
    let r = reads_control counts mode c position in
    either (is_some r.stop) r (reads counts r.position r.mode cs) (one_sends counts mode c position) (all_send counts r.position r.mode cs) h

-- nothing is filled where nothing is sent
missed_none : (s : Standing) (p : Position) → (missed s).fills ≡ Some p → ⊥
missed_none s p = cond_both (nat_lt (s.retries + 1) GIVE_UP) _ _ (λ (x : Step). x.fills ≡ Some p → ⊥) (λ e w. cc) (λ e w. cc)

through_none : (s : Standing) (position : Position) (old new : Mode) (p : Position) → (read_through s position old new).fills ≡ Some p → ⊥
through_none s position Sent Sent p w = missed_none s p w
through_none s position Waiting Waiting p w = missed_none s p w
through_none s position Sent Waiting p w = cc
through_none s position Waiting Sent p w = cc

by_stop : (s : Standing) → s.state ≡ Running → (position : Position) (mode : Mode) (stop : Option Stop) → (stop ≡ Some Sends → mode ≡ Sent)
    → (p : Position) → (after_scan s position mode stop).fills ≡ Some p → IsFilling (after_scan s position mode stop).standing p
by_stop s on position mode None sends p w = absurd (through_none s position s.mode mode p w)
by_stop s on position mode (Some Again) sends p w = absurd (missed_none s p w)
by_stop s on position mode (Some Sends) sends p w = record { at = cc; out = sends refl; tries = refl; runs = on }
by_stop s on position mode (Some Finishes) sends p w = absurd cc
by_stop s on position mode (Some Cancels) sends p w = absurd cc

filling : (counts : List ℕ) (s : Standing) (controls : List Control) (p : Position) → (hears counts s controls).fills ≡ Some p → IsFilling (hears counts s controls).standing p
filling counts s controls p h = by s.state refl h
  where
    by : (state : SendState) → s.state ≡ state → (hears_in state counts s controls).fills ≡ Some p → IsFilling (hears_in state counts s controls).standing p
    by Running on w =
        let r : Scan = reads counts s.position s.mode controls in
        by_stop s on r.position r.mode r.stop (all_send counts s.position s.mode controls) p w
    by _ on w = absurd cc

-- ---- In C

fits : (blocks : List ℕ) (p : Position) → IsPosition blocks p → length blocks ≤ MOST_FILES → FitsC p
fits blocks (Header file) there few = omega arith
fits blocks (Block file k) there few = let less = there.0 in omega arith
fits blocks (Eot file) there few = omega arith
fits blocks End there few = tt

module _ (blocks : List ℕ) (s : Standing) (controls : List Control) (result : Step) (old new : YmSender) (is : result ≡ hears blocks s controls)
    (there : IsPosition blocks result.standing.position) (few : length blocks ≤ MOST_FILES) (room : old.len ≤ 1029)
    (stored : FitsC result.standing.position → old.len ≤ 1029 → KeepsStanding new result.standing) where
  stands : (p : Position) → result.fills ≡ Some p → IsFilling result.standing p
  stands p f = rw is (filling blocks s controls p (rw is at f))

  kept : KeepsStanding new result.standing
  kept = stored (fits blocks result.standing.position there few) room

  pub header_hears : (file : ℕ) → result.fills ≡ Some (Header file)
      → KeepsStanding (record new { len = 0 }) (hears blocks s controls).standing
      × IsFill (hears blocks s controls).fills (record { number = 0; kind = 1; file = new.file })
      × IsFilled (hears blocks s controls).fills old (record new { len = 0 })
  header_hears file f =
      let here = rw (stands (Header file) f).at at kept.position in
      rw (← is) (
        record { position = rw (stands (Header file) f).at here; mode = kept.mode; retries = kept.retries; state = kept.state; cancel_pending = kept.cancel_pending; room = omega arith },
        rw f (refl, here.1),
        rw f refl,
      )

  pub header_asks : (file : ℕ) → result.fills ≡ Some (Header file) → IsUnfilled (record new { len = 0 }) 0
  header_asks file f =
      let filled = stands (Header file) f in
      let here = rw filled.at at kept.position in
      record { at = here.0; out = kept.mode ∙ ap mode_code filled.out; runs = kept.state ∙ ap send_code filled.runs; tries = rw (kept.retries, filled.tries) (omega arith); empty = refl }

  pub block_hears : (file k : ℕ) → result.fills ≡ Some (Block file k)
      → KeepsStanding (record new { len = 0 }) (hears blocks s controls).standing
      × IsFill (hears blocks s controls).fills (record { number = k; kind = 2; file = new.file })
      × IsFilled (hears blocks s controls).fills old (record new { len = 0 })
  block_hears file k f =
      let here = rw (stands (Block file k) f).at at kept.position in
      rw (← is) (
        record { position = rw (stands (Block file k) f).at here; mode = kept.mode; retries = kept.retries; state = kept.state; cancel_pending = kept.cancel_pending; room = omega arith },
        rw f (refl, here.1, refl),
        rw f refl,
      )

  pub block_asks : (file k : ℕ) → result.fills ≡ Some (Block file k) → IsUnfilled (record new { len = 0 }) 1
  block_asks file k f =
      let filled = stands (Block file k) f in
      let here = rw filled.at at kept.position in
      record { at = here.0; out = kept.mode ∙ ap mode_code filled.out; runs = kept.state ∙ ap send_code filled.runs; tries = rw (kept.retries, filled.tries) (omega arith); empty = refl }
