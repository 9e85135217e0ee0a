-- both ends finish, and no sooner than the batch needs
use Rattle.std.proofs.Common.{ℕ, ◌+◌, ◌-◌, ◌<◌, ◌≤◌, ◌≡◌, ◌≢◌, List, [], ◌∷◌, length, Bool, true, ap, ◌∙◌, inl, inr, arith, cond}
use Rattle.ym_machine.proofs.Names.{Confirm, BURST, EndsOnce, File, Frame, files_within, frames_of, ReceiverEnd, SenderEnd, State, start, IsDamage, NoFailure, Turn, after_turn, after_turns, is_whole, longest_bad_run, IsGoing, rounds_remaining, rounds_needed, Invariant}
use Rattle.ym_machine.proofs.Positions.{all-within, frames-end}
use Rattle.ym_machine.proofs.Remaining.{left-done, left-some, left-start}
use Rattle.ym_machine.proofs.Rounds.{sender-is, turn-left, turn-lowered}
use Rattle.ym_machine.proofs.ShortBursts.{got-all, one-fine, start-fine, turns-fine, whole-fine}
use Rattle.ym_machine.specs.Run.{AllWhole, whole_turns}
use Rattle.ym_machine.specs.RoundsRemaining.{CountsWithin, IsComplete}
use Rattle.ym_machine.specs.ShortBursts.{IsFine}

-- a whole turn takes one, and no turn gives one
one-less : (whole : Bool) (turns : ℕ) {old new last : ℕ} → last ≤ new - turns → new ≤ old → (whole ≡ true → 0 < old → old ≡ new + 1) → last ≤ old - cond whole (turns + 1) turns
one-less whole turns rest no_more fewer = grind (arith, rest, no_more, fewer)

module _ {H : Type 0} (frames : List (Frame H)) (confirm : Confirm) (ends : EndsOnce frames) where
  -- each whole turn takes one from the rounds remaining
  turns-left : (turns : List Turn) (b : ℕ) (st : State) → IsFine confirm frames b st → longest_bad_run b turns ≤ BURST → NoFailure turns → IsDamage frames confirm turns st → rounds_remaining confirm frames (after_turns frames confirm turns st) ≤ rounds_remaining confirm frames st - whole_turns turns
  turns-left [] b st f few none damage = omega arith
  turns-left (turn ∷ turns) b st f few none damage =
      let one = one-fine frames confirm ends turn turns b st f few none.0 none.1 damage.0 in
      let rest = turns-left turns one.0 (after_turn frames confirm turn st) one.1 one.2 none.2 damage.1 in
      let no_more = turn-left frames confirm ends turn st f.machine f.going damage.0 in
      let fewer = turn-lowered frames confirm ends turn st f.machine f.going one.1.going in
      one-less (is_whole turn) (whole_turns turns) rest no_more fewer

  -- whole turns alone take exactly one each
  whole-left : (turns : List Turn) (st : State) → IsFine confirm frames 0 st → AllWhole turns → NoFailure turns → length turns ≤ rounds_remaining confirm frames st → rounds_remaining confirm frames (after_turns frames confirm turns st) + length turns ≡ rounds_remaining confirm frames st
  whole-left [] st f all none few = omega arith
  whole-left (turn ∷ turns) st f all none few =
      let fine = whole-fine frames confirm ends turn 0 st f none.0 none.1 (omega arith) all.0 in
      let lowers = turn-lowered frames confirm ends turn st f.machine f.going fine.going all.0 (omega arith) in
      let rest = whole-left turns (after_turn frames confirm turn st) fine all.1 none.2 (omega (arith, lowers, few)) in
      omega (arith, lowers, rest)

  -- no round remains only where both have finished
  none-left : (st : State) → Invariant confirm frames st → IsGoing st → rounds_remaining confirm frames st ≡ 0 → (st.sender ≡ SenderEnd.Finished) × (st.receiver ≡ ReceiverEnd.Finished)
  none-left st m going none = elim (sender-is st going) [ inl s ↦ absurd (let x = left-some frames confirm st m.counters s in omega (arith, x, none)) | inr d ↦ (d, got-all confirm frames st m d) ]

-- the laws of short bad runs
module _ {H : Type 0} (files : List (File H)) (confirm : Confirm) (turns : List Turn) where
  module _ (damage : IsDamage (frames_of files) confirm turns start) (none : NoFailure turns) (few : longest_bad_run 0 turns ≤ BURST) where
    all-fine : (last : ℕ) × IsFine confirm (frames_of files) last (after_turns (frames_of files) confirm turns start) × (last ≤ BURST)
    all-fine = turns-fine (frames_of files) confirm (frames-end files) turns 0 start (start-fine (frames_of files) confirm (frames-end files)) few none damage

    pub all-going : IsGoing (after_turns (frames_of files) confirm turns start)
    all-going = all-fine.1.going

    pub all-counts : CountsWithin (BURST + 1 + BURST) (after_turns (frames_of files) confirm turns start)
    all-counts = let fine = all-fine.1 in let few = all-fine.2 in grind (arith, fine, few)

    pub all-complete : rounds_needed confirm files ≤ whole_turns turns → IsComplete files (after_turns (frames_of files) confirm turns start)
    all-complete enough =
        let l = turns-left (frames_of files) confirm (frames-end files) turns 0 start (start-fine (frames_of files) confirm (frames-end files)) few none damage in
        let s = left-start confirm files in
        let done = none-left (frames_of files) confirm (frames-end files) (after_turns (frames_of files) confirm turns start) all-fine.1.machine all-fine.1.going (omega (arith, l, s, enough)) in
        let m = all-fine.1.machine.counters in
        record {
          sender = done.0;
          receiver = done.1;
          committed = ap (files_within files) (m.receiver_done.1 done.1) ∙ all-within files;
          reported = ap (files_within files) (m.sender_done.1 done.0) ∙ all-within files;
        }

  pub not-sooner : AllWhole turns → NoFailure turns → length turns < rounds_needed confirm files → (after_turns (frames_of files) confirm turns start).sender ≢ SenderEnd.Finished
  not-sooner all none fewer done =
      let s = left-start confirm files in
      let exact = whole-left (frames_of files) confirm (frames-end files) turns start (start-fine (frames_of files) confirm (frames-end files)) all none (omega (arith, s, fewer)) in
      let z = left-done confirm (frames_of files) (after_turns (frames_of files) confirm turns start) done in
      omega (arith, s, exact, z, fewer)
