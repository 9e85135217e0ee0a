-- Where a scan stops, further controls change nothing; where it does not, two CAN do.
use Rattle.std.proofs.Common.{ℕ, ◌+◌, ◌≡◌, ◌≢◌, List, [], ◌∷◌, ◌++◌, Bool, true, false, refl, sym, ap, ◌∙◌, Option, None, Some, nat_lt, cond}
use Rattle.std.specs.Prelude.{is_some}
use Rattle.std.proofs.lemmas.Bool.{cond_both}
use Rattle.std.proofs.lemmas.List.Elements.{filter_map-append}
use Rattle.ym_link.proofs.Names.{control_at, Control, Can, Position, Mode, Waiting, Sent, Scan, Cancels, Standing, SendState, Running, controls_in, reads_control, reads, missed, read_through, after_scan, hears, hears_in, GIVE_UP}
use Rattle.ym_core.specs.declared.scan.Stop.{Stop}
use Rattle.ym_core.specs.declared.standing.SendStep.{SendStep as Step}
use Rattle.ym_core.specs.declared.state.SendState.TheVariants.{Cancelled}
use Rattle.ym_core.specs.Standing.{is_settled, is_settled_in}

-- a scan that goes on, or stops
on_stop : (b : Bool) (r x y : Scan) → (is_some x.stop ≡ true → y ≡ x) → is_some (cond b r x).stop ≡ true → cond b r y ≡ cond b r x
on_stop true r x y go h = refl
on_stop false r x y go h = go h

still_read : (counts : List ℕ) (position : Position) (mode : Mode) (cs ds : List Control) → is_some (reads counts position mode cs).stop ≡ true → reads counts position mode (cs ++ ds) ≡ reads counts position mode cs
still_read counts position mode [] ds h = absurd cc
still_read counts position mode (Can ∷ []) ds h =
    absurd (elim mode as (λ m. is_some (reads counts position m (Can ∷ [])).stop ≡ true → ⊥) [ Waiting ↦ λ w. cc | Sent ↦ λ w. cc ] h)
still_read counts position mode (Can ∷ Can ∷ cs) ds h = refl
still_read counts position mode (c ∷ cs) ds h =
    let r = reads_control counts mode c position in on_stop (is_some r.stop) r (reads counts r.position r.mode cs) (reads counts r.position r.mode (cs ++ ds)) (still_read counts r.position r.mode cs ds) h

-- a scan that did not stop is cancelled by two CAN more
on_none : (t x y : Scan) → (x.stop ≡ None → y.stop ≡ Some Cancels) → (cond (is_some t.stop) t x).stop ≡ None → (cond (is_some t.stop) t y).stop ≡ Some Cancels
on_none t x y go h = by t.stop refl h
  where
    by : (o : Option Stop) → t.stop ≡ o → (cond (is_some o) t x).stop ≡ None → (cond (is_some o) t y).stop ≡ Some Cancels
    by None is w = go w
    by (Some stop) is w = absurd cc

cancelled : (counts : List ℕ) (position : Position) (mode : Mode) (cs : List Control) → (reads counts position mode cs).stop ≡ None → (reads counts position mode (cs ++ Can ∷ Can ∷ [])).stop ≡ Some Cancels
cancelled counts position mode [] h = refl
cancelled counts position mode (Can ∷ []) h = refl
cancelled counts position mode (Can ∷ Can ∷ cs) h = absurd cc
cancelled counts position mode (c ∷ cs) h =
    let r = reads_control counts mode c position in on_none r (reads counts r.position r.mode cs) (reads counts r.position r.mode (cs ++ Can ∷ Can ∷ [])) (cancelled counts r.position r.mode cs) h

missed_goes_on : (s : Standing) → s.state ≡ Running → (missed s).standing.state ≢ Cancelled
missed_goes_on s on = cond_both (nat_lt (s.retries + 1) GIVE_UP) _ _ (λ (x : Step). x.standing.state ≢ Cancelled) (λ e w. cc) (λ e w. cc)

scan_goes_on : (s : Standing) → s.state ≡ Running → (position : Position) (old new : Mode) → (read_through s position old new).standing.state ≡ Cancelled → ⊥
scan_goes_on s on position Waiting Waiting h = missed_goes_on s on h
scan_goes_on s on position Sent Sent h = missed_goes_on s on h
scan_goes_on s on position Waiting Sent h = absurd cc
scan_goes_on s on position Sent Waiting h = absurd cc

module _ (counts : List ℕ) (s : Standing) where
  pub settled_stays : (bytes more : List ℕ) → is_settled counts s (controls_in bytes) ≡ true → hears counts s (controls_in (bytes ++ more)) ≡ hears counts s (controls_in bytes)
  settled_stays bytes more h = ap (hears counts s) (filter_map-append control_at bytes more) ∙ by s.state h
    where
      by : (state : SendState) → is_settled_in state counts s (controls_in bytes) ≡ true → hears_in state counts s (controls_in bytes ++ controls_in more) ≡ hears_in state counts s (controls_in bytes)
      by Running w = ap (λ (r : Scan). after_scan s r.position r.mode r.stop) (still_read counts s.position s.mode (controls_in bytes) (controls_in more) w)
      by _ w = refl

  open_changes : (bytes : List ℕ) → s.state ≡ Running → (reads counts s.position s.mode (controls_in bytes)).stop ≡ None
      → hears_in Running counts s (controls_in (bytes ++ 0x18 ∷ 0x18 ∷ [])) ≡ hears_in Running counts s (controls_in bytes) → ⊥
  open_changes bytes on none same =
      let r : Scan = reads counts s.position s.mode (controls_in bytes) in
      let q : Scan = reads counts s.position s.mode (controls_in (bytes ++ 0x18 ∷ 0x18 ∷ [])) in
      let ended : q.stop ≡ Some Cancels = ap (λ cs. (reads counts s.position s.mode cs).stop) (filter_map-append control_at bytes (0x18 ∷ 0x18 ∷ [])) ∙ cancelled counts s.position s.mode (controls_in bytes) none in
      scan_goes_on s on r.position s.mode r.mode
      (ap (λ stop. (after_scan s r.position r.mode stop).standing.state) (sym none) ∙ (ap (λ (x : Step). x.standing.state) (sym same) ∙ ap (λ stop. (after_scan s q.position q.mode stop).standing.state) ended))

  pub stays_settled : (bytes : List ℕ) → ((more : List ℕ) → hears counts s (controls_in (bytes ++ more)) ≡ hears counts s (controls_in bytes)) → is_settled counts s (controls_in bytes) ≡ true
  stays_settled bytes stays = by s.state refl (stays (0x18 ∷ 0x18 ∷ []))
    where
      stopped : (stop : Option Stop) → (reads counts s.position s.mode (controls_in bytes)).stop ≡ stop → s.state ≡ Running
          → hears_in Running counts s (controls_in (bytes ++ 0x18 ∷ 0x18 ∷ [])) ≡ hears_in Running counts s (controls_in bytes) → is_some stop ≡ true
      stopped (Some stop) is on same = refl
      stopped None is on same = absurd (open_changes bytes on is same)

      by : (state : SendState) → s.state ≡ state → hears_in state counts s (controls_in (bytes ++ 0x18 ∷ 0x18 ∷ [])) ≡ hears_in state counts s (controls_in bytes) → is_settled_in state counts s (controls_in bytes) ≡ true
      by Running is same = stopped (reads counts s.position s.mode (controls_in bytes)).stop refl is same
      by _ is same = refl
