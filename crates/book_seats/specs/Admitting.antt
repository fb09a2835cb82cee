-- How an admission's answer, as the code has it behind the lock, stands in the history.
use Rattle.std.specs.Prelude.{◌≡◌, Some, None, Result}
use Rattle.accept_core.specs.declared.answer.AdmitRefusal.{AdmitRefusal}
use Rattle.accept_core.specs.declared.entry.Receipt.{Receipt}
use Rattle.accept_book.specs.RecordShown.{with_ok}
use Rattle.gss_server.specs.Programs.{Taken}
use Rattle.rpc_program.specs.declared.program.Fault.{Fault}

-- the call was entered, and gave this
abbrev pub entered_in : {T : Type 0} → Result (Receipt × Result T Fault) AdmitRefusal
    → Result (Taken T) AdmitRefusal
entered_in answer = with_ok (λ both. (both.0, Some both.1)) answer

-- its number was taken, and nothing was entered
abbrev pub passed_in : {T : Type 0} → Result Receipt AdmitRefusal → Result (Taken T) AdmitRefusal
passed_in answer = with_ok (λ receipt. (receipt, None)) answer

-- what entering a call leaves of the book's answer: the receipt or the refusal
abbrev pub EntersAdmitted : {T : Type 0} → Result Receipt AdmitRefusal
    → Result (Receipt × Result T Fault) AdmitRefusal → Type 0
EntersAdmitted taken answer = with_ok (λ both. both.0) answer ≡ taken
