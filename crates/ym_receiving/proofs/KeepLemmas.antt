-- How the sessions of `receive --keep` end.
use Rattle.std.proofs.Common.{◌≡◌, ◌≤◌, ◌+◌, ◌-◌, ◌^◌, inl, inr, ℕ, false, Option, Some, Result, Ok, Err, refl}
use Rattle.std.specs.Result.{IsErrAnd}
use Rattle.std.specs.declared.io.Error.{Error}
use Rattle.ym_file.specs.Counts.{Counted}
use Rattle.ym_machine.specs.declared.confirm.Confirm.{Confirm}
use Rattle.ym_streams.specs.declared.streams.StreamFault.{StreamFault}
use Rattle.ym_receiving.specs.Accept.{passes}
use Rattle.ym_receiving.specs.Keeping.{HoldsSession, Sessions, KeepsOn}
use Rattle.ym_answer.specs.Page.{Page}
use Rattle.ym_answer.specs.Status.{IsHostFault, host_fault}
use Rattle.ym_answer.specs.declared.command_fault.CommandFault.{CommandFault}
use Rattle.ym_answer.specs.declared.command_fault.CommandFault.TheVariants as fault

-- no connection could be taken
pub none_comes : (confirm : Confirm) (taken count failed new_failed : ℕ) (refusal : Option Error) (error : Error) (out err : Page) (answer : Result ℕ CommandFault) (new_out new_err : Page)
    → IsErrAnd answer (λ why. IsHostFault why × (why ≡ host_fault error)) → taken ≡ count → Counted failed new_failed → refusal ≡ Some error → passes error ≡ false
    → Sessions confirm count out err new_out new_err → KeepsOn confirm taken failed new_failed refusal out err answer new_out new_err
none_comes confirm taken count failed new_failed refusal error out err (Ok status) new_out new_err host same counted_failure refused lasts sessions = absurd host
none_comes confirm taken count failed new_failed refusal error out err (Err why) new_out new_err host same counted_failure refused lasts sessions =
    inl (record { error = error; refused = refused; lasts = lasts; of_host = rw host.1 at host.0; answer_is = rw host.1 refl; counted_failure = counted_failure; sessions = rw same sessions })

-- the fault of a session could not be told
pub cannot_tell : (confirm : Confirm) (taken count failed new_failed : ℕ) (refusal : Option Error) (out err between between_err : Page) (untold : StreamFault)
    (answer : Result ℕ CommandFault) (new_out new_err : Page) → IsErrAnd answer (λ why. why ≡ fault.Device) → taken ≡ count + 1
    → Sessions confirm count out err between between_err → HoldsSession confirm between between_err (Err untold) new_out new_err
    → KeepsOn confirm taken failed new_failed refusal out err answer new_out new_err
cannot_tell confirm taken count failed new_failed refusal out err between between_err untold (Ok status) new_out new_err device last sessions holds = absurd device
cannot_tell confirm taken count failed new_failed refusal out err between between_err untold (Err why) new_out new_err device last sessions holds =
    inr (inl (record { count = count; last = last; between = between; between_err = between_err; sessions = sessions; untold = untold; holds = holds; answer_is = rw device refl }))

-- all of them had their session
pub are_all : (confirm : Confirm) (taken count failed new_failed : ℕ) (refusal : Option Error) (out err new_out new_err : Page) → taken ≡ count → 2 ^ 64 - 1 ≤ count
    → Sessions confirm count out err new_out new_err → KeepsOn confirm taken failed new_failed refusal out err (Ok 0) new_out new_err
are_all confirm taken count failed new_failed refusal out err new_out new_err same all sessions =
    inr (inr (record { all = rw same all; sessions = rw same sessions; answer_is = refl }))
