-- what the receiver hears, what an ACK tells, and runs that go on
use Rattle.std.proofs.Common.{ℕ, ◌+◌, ◌<◌, ◌≡◌, ◌≢◌, ◌⊎◌, suc, zero, List, [], ◌∷◌, ◌++◌, length, refl, sym, ap, ◌∙◌, subst, arith}
use Rattle.ym_machine.proofs.Names.{Confirm, EndBlock, EndsOnce, Frame, frame_before, ReceiverEnd, SenderEnd, State, said, IsDamage, Turn, after_turn, after_turns, CountersAgree}
use Rattle.ym_machine.proofs.Positions.{none_behind}
use Rattle.ym_machine.specs.State.{FrameAt}
use Rattle.ym_machine.specs.Run.{entries_of, entry_of}

-- a frame is said by a Running sender that has sent
said-running : (st : State) (i : ℕ) → said st ≡ FrameAt i → (i ≡ st.acknowledged) × (st.sender ≡ SenderEnd.Running)
said-running st i says = grind (arith, says)

module _ {H : Type 0} (frames : List (Frame H)) (confirm : Confirm) (st : State) (m : CountersAgree confirm frames st) where
  pub said-position : (i : ℕ) → said st ≡ FrameAt i → (i ≡ st.acknowledged) × (i < length frames)
  said-position i says = let s = said-running st i says in let e = s.0 in
      (e, (let no : st.acknowledged ≢ length frames = λ w. let x = m.sender_done.0 w in let y = s.1 in cc in let w = m.within in let a = m.ahead in omega (arith, e, no, w, a)))

  pub said-next-or-last : (i : ℕ) → said st ≡ FrameAt i → (st.taken ≡ i) ⊎ (st.taken ≡ i + 1)
  said-next-or-last i says = let e = (said-running st i says).0 in subst (λ n. (st.taken ≡ n) ⊎ (st.taken ≡ n + 1)) (sym e) m.ahead

  pub last-is-no-end : EndsOnce frames → st.receiver ≡ ReceiverEnd.Running → 0 < st.taken → frame_before frames st.taken ≢ EndBlock
  last-is-no-end once running some is = go st.taken refl some is
    where
      go : (n : ℕ) → st.taken ≡ n → 0 < n → frame_before frames n ≡ EndBlock → ⊥
      go zero e less w = omega (arith, less)
      go (suc n) e less w =
          let inside = m.within in
          let full : n + 1 ≡ length frames = none_behind frames n once (omega (arith, e, inside)) w in
          let done = m.receiver_done.0 (omega (arith, e, full)) in
          let x : ReceiverEnd.Running ≡ ReceiverEnd.Finished = sym running ∙ done in cc

-- runs that go on
module _ {H : Type 0} (frames : List (Frame H)) (confirm : Confirm) where
  pub after_turns-append : (prefix rest : List Turn) (st : State) → after_turns frames confirm (prefix ++ rest) st ≡ after_turns frames confirm rest (after_turns frames confirm prefix st)
  after_turns-append [] rest st = refl
  after_turns-append (turn ∷ prefix) rest st = after_turns-append prefix rest (after_turn frames confirm turn st)

  pub entries_of-append : (prefix rest : List Turn) (st : State) → entries_of frames confirm (prefix ++ rest) st ≡ entries_of frames confirm prefix st ++ entries_of frames confirm rest (after_turns frames confirm prefix st)
  entries_of-append [] rest st = refl
  entries_of-append (turn ∷ prefix) rest st = ap (λ es. entry_of frames confirm turn st ∷ es) (entries_of-append prefix rest (after_turn frames confirm turn st))

  pub IsDamage-append : (prefix rest : List Turn) (st : State) → IsDamage frames confirm prefix st → IsDamage frames confirm rest (after_turns frames confirm prefix st) → IsDamage frames confirm (prefix ++ rest) st
  IsDamage-append [] rest st a b = b
  IsDamage-append (turn ∷ prefix) rest st a b = (a.0, IsDamage-append prefix rest (after_turn frames confirm turn st) a.1 b)
