-- What `receive --keep` prints and answers: a session for each connection, one after another.
use Rattle.std.specs.Prelude.{◌≡◌, ◌≤◌, ◌+◌, ◌-◌, ◌^◌, ◌⊎◌, ℕ, Bool, true, false, Option, Some, Result, Ok, Err}
use Rattle.std.specs.declared.io.Error.{Error}
use Rattle.ym_file.specs.Counts.{Counted}
use Rattle.ym_machine.specs.declared.confirm.Confirm.{Confirm}
use Rattle.ym_streams.specs.declared.streams.StreamFault.{StreamFault}
use Rattle.ym_answer.specs.Lines.{line}
use Rattle.ym_answer.specs.Page.{Page, Prints}
use Rattle.ym_receiving.specs.Accept.{passes}
use Rattle.ym_receiving.specs.Receiving.{SessionGives, ReceiveGives, ReceivesNothing}
use Rattle.ym_answer.specs.Status.{IsHostFault, fault_words, host_fault}
use Rattle.ym_answer.specs.declared.command_fault.CommandFault.{CommandFault}
use Rattle.ym_answer.specs.declared.command_fault.CommandFault.TheVariants as fault

-- the line of a session's fault went to err, or err failed; of another session nothing goes there
abbrev pub TellsEnd : Result ℕ CommandFault → Page → Result Unit StreamFault → Page → Type 0
TellsEnd (Ok status) err told new_err = (told ≡ Ok tt) × (new_err ≡ err)
TellsEnd (Err why) err told new_err = Prints err (line (fault_words why)) told new_err

-- one session, with a new receiver, of one connection
pub record HoldsSession (confirm : Confirm) (out err : Page) (told : Result Unit StreamFault)
    (new_out new_err : Page) : Type 0 where
  pub answer : Result ℕ CommandFault
  pub gives : SessionGives confirm out answer new_out
  pub tells : TellsEnd answer err told new_err

-- So many sessions were held, one behind another, each of a connection of its own. What a session
-- prints stands behind what the ones before it have printed, however those ended.
pub data Sessions : Confirm → ℕ → Page → Page → Page → Page → Type 0 where
  no_session : (confirm : Confirm) (out err : Page) → Sessions confirm 0 out err out err
  one_more : (confirm : Confirm) (count : ℕ) (out err between between_err new_out new_err : Page)
      → Sessions confirm count out err between between_err
      → HoldsSession confirm between between_err (Ok tt) new_out new_err
      → Sessions confirm (count + 1) out err new_out new_err

-- ---- How it ends

-- No connection could be taken any more. The error of the last refusal does not pass, and the
-- answer is what it is told as.
pub record NoneComes (confirm : Confirm) (taken failed new_failed : ℕ) (refusal : Option Error)
    (out err : Page) (answer : Result ℕ CommandFault) (new_out new_err : Page) : Type 0 where
  pub error : Error
  pub refused : refusal ≡ Some error
  pub lasts : passes error ≡ false
  pub of_host : IsHostFault (host_fault error)
  pub answer_is : answer ≡ Err (host_fault error)
  pub counted_failure : Counted failed new_failed
  pub sessions : Sessions confirm taken out err new_out new_err

-- the line of the last session's fault could not be written
pub record CannotTell (confirm : Confirm) (taken : ℕ) (out err : Page)
    (answer : Result ℕ CommandFault) (new_out new_err : Page) : Type 0 where
  pub count : ℕ
  pub last : taken ≡ count + 1
  pub between : Page
  pub between_err : Page
  pub sessions : Sessions confirm count out err between between_err
  pub untold : StreamFault
  pub holds : HoldsSession confirm between between_err (Err untold) new_out new_err
  pub answer_is : answer ≡ Err fault.Device

-- as many were taken as are counted
pub record AreAll (confirm : Confirm) (taken : ℕ) (out err : Page)
    (answer : Result ℕ CommandFault) (new_out new_err : Page) : Type 0 where
  pub all : 2 ^ 64 - 1 ≤ taken
  pub sessions : Sessions confirm taken out err new_out new_err
  pub answer_is : answer ≡ Ok 0

-- Each connection that was taken had a session. It ends where no more can be taken, or where a
-- fault cannot be told, and at no session that fails.
abbrev pub KeepsOn :
    Confirm → ℕ → ℕ → ℕ → Option Error → Page → Page → Result ℕ CommandFault → Page → Page
    → Type 0
KeepsOn confirm taken failed new_failed refusal out err answer new_out new_err =
    NoneComes confirm taken failed new_failed refusal out err answer new_out new_err
    ⊎ (CannotTell confirm taken out err answer new_out new_err
    ⊎ AreAll confirm taken out err answer new_out new_err)

-- ---- The command

-- the program does not listen, or it keeps on taking connections
abbrev pub KeepGives : Confirm → Page → Page → Result ℕ CommandFault → Page → Page → Type 0
KeepGives confirm out err answer new_out new_err =
    (ReceivesNothing out answer new_out × (new_err ≡ err))
    ⊎ ((taken : ℕ) × (failed : ℕ) × (refusal : Option Error)
    × KeepsOn confirm taken 0 failed refusal out err answer new_out new_err)

-- one connection; or, with --keep, one after another
abbrev pub ReceivesSo :
    Bool → Confirm → Page → Page → Result ℕ CommandFault → Page → Page → Type 0
ReceivesSo true confirm out err answer new_out new_err =
    KeepGives confirm out err answer new_out new_err
ReceivesSo false confirm out err answer new_out new_err =
    ReceiveGives confirm out answer new_out × (new_err ≡ err)
