-- The acting calls of a context, by what a gate was asked and answered.
use Rattle.std.specs.Prelude.{◌≡◌, ◌≢◌, ◌⊎◌, ℕ, Bool, false, not, ◌&&◌, ◌==◌, if◌then◌else◌, List}
use Rattle.std.specs.Prelude.{[], ◌∷◌, ◌++◌, map, Result, Ok, Err}
use Rattle.std.specs.List.{AllByRecursion, flat_map}
use Rattle.seq_window.specs.Marks.{is_in}
use Rattle.accept_core.specs.declared.answer.AdmitRefusal.{AdmitRefusal}
use Rattle.accept_core.specs.declared.entry.Entry.{Entry}
use Rattle.accept_core.specs.declared.entry.Entry.TheVariants.{Opened, Auth, Went, Settled, Call}
use Rattle.accept_core.specs.declared.entry.Entry.TheVariants.{Ended}
use Rattle.accept_book.specs.declared.book_answer.Admitted.{Admitted}
use Rattle.accept_book.specs.RecordShown.{Asked, AskedStep, AskedLook, AskedAdmit, AskedEnd}
use Rattle.rpc_program.specs.Programs.{NONE}
use Rattle.rpc_program.specs.declared.outcome.Outcome.{Outcome}
use Rattle.rpc_program.specs.declared.outcome.Outcome.TheVariants.{NoMemory}
use Rattle.again_calls.specs.Kept.{newest}
use Rattle.again_gate.specs.Turns.{Turned}

-- the entry is a call of the context, and one that acts
abbrev pub is_acting : ℕ → Entry → Bool
is_acting id (Opened i at) = false
is_acting id (Auth i mark at) = false
is_acting id (Went i at) = false
is_acting id (Settled i mech names ends at) = false
is_acting id (Call i seq procedure args) = i == id && not (procedure == NONE)
is_acting id (Ended i cause) = false

-- a call that acted: its record's transaction number, its number, and what became of it
pub record Acted : Type 0 where
  pub xid : ℕ
  pub number : ℕ
  pub outcome : Outcome

-- the call that acted by an admission's answer, as a list of one or none
abbrev pub acted_by : ℕ → ℕ → ℕ → Result Admitted AdmitRefusal → List Acted
acted_by id xid seq (Ok admitted) =
    if is_acting id admitted.receipt.entry
    then record { xid = xid; number = seq; outcome = admitted.outcome } ∷ []
    else []
acted_by id xid seq (Err refusal) = []

-- the same of any question, for a record with this transaction number
abbrev pub acted : ℕ → ℕ → Asked Admitted → List Acted
acted id xid (AskedStep own token now draws answer) = []
acted id xid (AskedLook own now answer) = []
acted id xid (AskedAdmit lease seq service procedure args answer) = acted_by id xid seq answer
acted id xid (AskedEnd lease seq answer) = []

-- the calls of a context that acted, oldest first, of records in a row
abbrev pub acting : ℕ → List Turned → List Acted
acting id turns = flat_map (λ turn. flat_map (acted id turn.xid) turn.asked) turns

-- their transaction numbers
abbrev pub xids : List Acted → List ℕ
xids calls = map (λ call. call.xid) calls

-- none of these stands among the last so many before it
abbrev pub NoneAgain : ℕ → List ℕ → List ℕ → Type 0
NoneAgain width before [] = Unit {0}
NoneAgain width before (xid ∷ more) =
    (is_in xid (newest width before) ≡ false) × NoneAgain width (before ++ xid ∷ []) more

-- no two have one transaction number
abbrev pub OneEach : List Acted → Type 0
OneEach [] = Unit {0}
OneEach (call ∷ calls) = AllByRecursion (λ one. one.xid ≢ call.xid) calls × OneEach calls

-- what became of a call is told again: the same; or memory was wanted for it, to keep it or to tell
-- it
abbrev pub IsAsBefore : Outcome → Outcome → Type 0
IsAsBefore first outcome = (outcome ≡ first) ⊎ (outcome ≡ NoMemory)

-- such a thing became of a call with this transaction number
abbrev pub SuchAmong : (Outcome → Type 0) → ℕ → List Acted → Type 0
SuchAmong Such xid [] = ⊥
SuchAmong Such xid (one ∷ more) =
    ((one.xid ≡ xid) × Such one.outcome) ⊎ SuchAmong Such xid more

-- this became of a call with this transaction number
abbrev pub IsAmong : ℕ → Outcome → List Acted → Type 0
IsAmong xid outcome calls = SuchAmong (λ first. IsAsBefore first outcome) xid calls

-- an admission that was answered Ok has the outcome of a call that acted, with its record's
-- transaction number
abbrev pub HasOutcome : ℕ → Result Admitted AdmitRefusal → List Acted → Type 0
HasOutcome xid (Ok admitted) calls = IsAmong xid admitted.outcome calls
HasOutcome xid (Err refusal) calls = Unit {0}

-- so it is of a question of this context, for a record with this transaction number; a call of no
-- procedure is no program's
abbrev pub IsAnswered : ℕ → ℕ → List Acted → Asked Admitted → Type 0
IsAnswered id xid calls (AskedStep own token now draws answer) = Unit {0}
IsAnswered id xid calls (AskedLook own now answer) = Unit {0}
IsAnswered id xid calls (AskedAdmit lease seq service procedure args answer) =
    lease.id ≡ id → procedure ≢ NONE → HasOutcome xid answer calls
IsAnswered id xid calls (AskedEnd lease seq answer) = Unit {0}

-- of all questions for records in a row
abbrev pub AllAnswered : ℕ → List Acted → List Turned → Type 0
AllAnswered id calls turns =
    AllByRecursion (λ turn. AllByRecursion (IsAnswered id turn.xid calls) turn.asked) turns
