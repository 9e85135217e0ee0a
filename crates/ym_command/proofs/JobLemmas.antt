-- Sessions and commands at a desk.
use Rattle.std.proofs.Common.{◌≡◌, ◌≢◌, ◌⊎◌, ◌∙◌, inl, inr, sym, subst, ℕ, List, [], Option, Some, Result}
use Rattle.ym_play.specs.Session.{SessionGives}
use Rattle.ym_play.specs.SessionOver.{Scene, SessionEnds}
use Rattle.ym_words.specs.Job.{Play}
use Rattle.ym_answer.specs.Desk.{Desk}
use Rattle.ym_looped.specs.DeskSession.{scene_of, IsSession}
use Rattle.ym_answer.specs.declared.command_fault.CommandFault.{CommandFault}
use Rattle.ym_answer.specs.declared.command_fault.CommandFault.TheVariants as fault
use Rattle.ym_command.specs.Program.{IsPlayed, Answers, OnlyTells, Does}

-- what the law of sessions says of known bytes
abbrev pub KnownIsPlayed : Type 0
KnownIsPlayed = (text before wrong : List ℕ) (remaining : Option (List ℕ)) (old new : Scene) (status : ℕ)
    → remaining ≡ Some text → old.out ≡ Some before → old.err ≡ Some wrong → SessionEnds remaining old status new → status ≢ 3
    → SessionGives text before wrong old.told old.carries_failed status new.out new.err new.told new.carries_failed

-- a session in memory that was played to its end
pub played : KnownIsPlayed → (status : ℕ) (text before wrong : List ℕ) (old new : Desk) → IsSession (Some []) old status new → old.text ≡ Some text
    → old.out.holds ≡ Some before → old.err.holds ≡ Some wrong → status ≢ 3 → IsPlayed text before wrong status new.out.holds new.err.holds
played law status text before wrong old new s r w e ne = (
  s.new_told,
  s.carries_failed,
  law text before wrong old.text (scene_of old (Some []) 0) (scene_of new s.new_told s.carries_failed) status r w e s.ends ne,
)

-- the same of a command that plays
pub plays : KnownIsPlayed → (status : ℕ) (text before wrong : List ℕ) (old new : Desk) → Does Play old status new ⊎ OnlyTells fault.Memory old status new
    → old.text ≡ Some text → old.out.holds ≡ Some before → old.err.holds ≡ Some wrong → status ≢ 3
    → IsPlayed text before wrong status new.out.holds new.err.holds
plays law status text before wrong old new (inr told) r w e ne =
    absurd (elim told.tells [ inl t ↦ ne t.0 | inr t ↦ ne t.0 ])
plays law status text before wrong old new (inl done) r w e ne =
    let At : Result ℕ CommandFault → Type 0 = λ answer. Answers answer done.between status new in
    let same = subst At done.gives.1 done.answers in
    let there = played law done.gives.0 text before wrong old done.between done.gives.2 r w e (λ three. ne (same.0 ∙ three)) in
    let With : ℕ → Type 0 = λ n. IsPlayed text before wrong n done.between.out.holds done.between.err.holds in
    let Leaving : Desk → Type 0 = λ desk. IsPlayed text before wrong status desk.out.holds desk.err.holds in
    subst Leaving (sym same.1) (subst With (sym same.0) there)
