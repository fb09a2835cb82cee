-- What becomes of a call that asks for its admission: the program that it is entered into, and who
-- spells its result.
use Rattle.std.specs.Prelude.{◌≡◌, ℕ, List, true, Option, Some, None, Result, Ok, Err, OnErr}
use Rattle.rpc_program.specs.Programs.{ProgramSays, CallerOf, NONE}
use Rattle.rpc_program.specs.declared.outcome.Outcome.{Outcome}
use Rattle.rpc_program.specs.declared.outcome.Outcome.TheVariants.{Refused}
use Rattle.rpc_program.specs.declared.outcome.Unserved.TheVariants as stats
use Rattle.rpc_program.specs.declared.program.Fault.{Fault}
use Rattle.rpcsec_bodies.specs.declared.service.Service.{Service}
use Rattle.accept_core.specs.declared.answer.AdmitRefusal.{AdmitRefusal}
use Rattle.accept_core.specs.declared.entry.Receipt.{Receipt}
use Rattle.accept_book.specs.declared.book_answer.Admitted.{Admitted}
use Rattle.accept_book.specs.declared.book_answer.Lease.{Lease}
use Rattle.accept_book.specs.RecordShown.{Asked, AskedStep, AskedLook, AskedAdmit, AskedEnd}
use Rattle.accept_book.specs.RecordShown.{booked, with_ok}
use Rattle.accept_book.specs.Booking.{BookOf}
use Rattle.gss_server.specs.Asking.{BookAnswers}

-- the caller that a program is told: the initiator's name and the mechanism of the lease's context,
-- the service of the call, and the place of its entry in the log
abbrev pub caller_of_lease : Lease → Service → ℕ → CallerOf
caller_of_lease lease service place = record {
  name = lease.outcome.initiator;
  mech = lease.outcome.mech;
  service = service;
  place = place;
}

-- ---- a call whose number was taken; what entering it gave is a ticket or a fault, and None where
-- nothing was entered

-- a call of a procedure that the program has, with arguments of it, was entered as the program
-- says; one that failed left all as it was
pub record IsEntered {P T : Type 0} (says : ProgramSays)
    (enters : P → CallerOf → ℕ → List ℕ → Result T Fault → P → Type 0) (old : P)
    (caller : CallerOf) (procedure : ℕ) (args : List ℕ) (entered : Result T Fault)
    (new : P) : Type 0 where
  pub has : says.has procedure ≡ true
  pub takes : says.takes procedure args ≡ true
  pub gives : enters old caller procedure args entered new
  pub kept : OnErr entered (new ≡ old)

-- a call was entered, once, or nothing was, since its number alone was taken
abbrev pub Enters : {P T : Type 0} → ProgramSays
    → (P → CallerOf → ℕ → List ℕ → Result T Fault → P → Type 0) → P → CallerOf → ℕ → List ℕ
    → Option (Result T Fault) → P → Type 0
Enters says enters old caller procedure args (Some entered) new =
    IsEntered says enters old caller procedure args entered new
Enters says enters old caller procedure args None new = (procedure ≡ NONE) × (new ≡ old)

-- the outcome is what the speller spells from the ticket that entering the call gave; a fault is
-- told as such, and leaves the speller as it was
abbrev pub Spelt : {S T : Type 0} → (S → CallerOf → ℕ → List ℕ → T → Outcome → S → Type 0) → S
    → CallerOf → ℕ → List ℕ → Option (Result T Fault) → Outcome → S → Type 0
Spelt spells old caller procedure args (Some (Ok ticket)) outcome new =
    spells old caller procedure args ticket outcome new
Spelt spells old caller procedure args (Some (Err fault)) outcome new =
    (outcome ≡ Refused stats.System) × (new ≡ old)
Spelt spells old caller procedure args None outcome new =
    (outcome ≡ Refused stats.Procedure) × (new ≡ old)

-- ---- a call that asks for its admission

-- what is taken note of an admitted call: its receipt, and what entering it gave
abbrev pub Taken : Type 0 → Type 0
Taken T = Receipt × Option (Result T Fault)

-- exactly an admitted call is entered
abbrev pub EntersTaken : {P T : Type 0} → ProgramSays
    → (P → CallerOf → ℕ → List ℕ → Result T Fault → P → Type 0) → P → Lease → Service → ℕ → List ℕ
    → Result (Taken T) AdmitRefusal → P → Type 0
EntersTaken says enters old lease service procedure args (Ok taken) new = Enters says enters old
    (caller_of_lease lease service taken.0.place) procedure args taken.1 new
EntersTaken says enters old lease service procedure args (Err refusal) new = new ≡ old

-- a gate answers with the receipt, and with the outcome that is spelled; or with the refusal
abbrev pub SpeltTaken : {S T : Type 0} → (S → CallerOf → ℕ → List ℕ → T → Outcome → S → Type 0)
    → S → Lease → Service → ℕ → List ℕ → Result (Taken T) AdmitRefusal
    → Result Admitted AdmitRefusal → S → Type 0
SpeltTaken spells old lease service procedure args (Ok taken) (Ok admitted) new =
    (admitted.receipt ≡ taken.0) × Spelt spells old
    (caller_of_lease lease service taken.0.place) procedure args taken.1 admitted.outcome new
SpeltTaken spells old lease service procedure args (Ok taken) (Err refusal) new = ⊥
SpeltTaken spells old lease service procedure args (Err refusal) (Ok admitted) new = ⊥
SpeltTaken spells old lease service procedure args (Err refusal) (Err told) new =
    (told ≡ refusal) × (new ≡ old)

-- what a gate answers where it takes a call's number and enters nothing
abbrev pub passed : Result Receipt AdmitRefusal → Result Admitted AdmitRefusal
passed answer =
    with_ok (λ receipt. record { receipt = receipt; outcome = Refused stats.Procedure }) answer

-- ---- a book of one owner, with its program and who spells its results

-- what becomes of the program and the speller: an admitted call is entered, and its outcome is
-- spelled from what that gave; all other questions leave both as they were
abbrev pub Acts : {P S T : Type 0} → ProgramSays
    → (P → CallerOf → ℕ → List ℕ → Result T Fault → P → Type 0)
    → (S → CallerOf → ℕ → List ℕ → T → Outcome → S → Type 0) → P → S → Asked Admitted → P → S
    → Type 0
Acts says enters spells program speller (AskedStep id token now draws answer) program' speller' =
    (program' ≡ program) × (speller' ≡ speller)
Acts says enters spells program speller (AskedLook id now answer) program' speller' =
    (program' ≡ program) × (speller' ≡ speller)
Acts {T = T} says enters spells program speller
    (AskedAdmit lease seq service procedure args answer) program' speller' =
    (taken : Result (Taken T) AdmitRefusal)
    × EntersTaken says enters program lease service procedure args taken program'
    × SpeltTaken spells speller lease service procedure args taken answer speller'
Acts says enters spells program speller (AskedEnd lease seq answer) program' speller' =
    (program' ≡ program) × (speller' ≡ speller)

-- the book answers what it has of the question, and the program and the speller act
pub record OwnAnswers {P S T : Type 0} (says : ProgramSays)
    (enters : P → CallerOf → ℕ → List ℕ → Result T Fault → P → Type 0)
    (spells : S → CallerOf → ℕ → List ℕ → T → Outcome → S → Type 0) (old new : BookOf)
    (program program' : P) (speller speller' : S) (asked : Asked Admitted) : Type 0 where
  pub book : BookAnswers old (booked asked) new
  pub acts : Acts says enters spells program speller asked program' speller'
