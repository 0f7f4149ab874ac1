-- The status of a run whose last write came to this.
use Rattle.std.proofs.Common.{◌≡◌, Result, Ok, Err, refl}
use Rattle.std.specs.Prelude.{IsOk}
use Rattle.session.specs.Status.{IsAnswer, status_of_fault, status_after}
use Rattle.session.specs.declared.status.CommandFault.{CommandFault}
use Rattle.session.specs.declared.status.CommandFault.TheVariants as fault
use Rattle.session.specs.declared.status.Status.{Status}
use Rattle.session.specs.declared.status.Status.TheVariants as status

pub fault_is_no_answer : (fault : CommandFault) → IsAnswer (status_of_fault fault) → ⊥
fault_is_no_answer fault.Image answer = answer
fault_is_no_answer fault.Out answer = answer
fault_is_no_answer fault.Dump answer = answer
fault_is_no_answer fault.Memory answer = answer

pub fault_is_of_no_script : (fault : CommandFault) → status_of_fault fault ≡ status.ScriptFault → ⊥
fault_is_of_no_script fault.Image is = cc is
fault_is_of_no_script fault.Out is = cc is
fault_is_of_no_script fault.Dump is = cc is
fault_is_of_no_script fault.Memory is = cc is

module _ (done : Status) where
  -- it is an answer only where that succeeded
  pub answer-written : (written : Result (Unit {0}) CommandFault) → IsAnswer (status_after done written) → IsOk written
  answer-written (Ok _) answer = refl
  answer-written (Err fault) answer = absurd (fault_is_no_answer fault answer)

  -- and then that of what was done
  pub answer-done : (written : Result (Unit {0}) CommandFault) → IsAnswer (status_after done written) → status_after done written ≡ done
  answer-done (Ok _) answer = refl
  answer-done (Err fault) answer = absurd (fault_is_no_answer fault answer)

  -- a write is no call on the script
  pub write_is_of_no_script : (written : Result (Unit {0}) CommandFault) → (done ≡ status.ScriptFault → ⊥) → status_after done written ≡ status.ScriptFault → ⊥
  write_is_of_no_script (Ok _) other is = other is
  write_is_of_no_script (Err fault) other is = fault_is_of_no_script fault is
