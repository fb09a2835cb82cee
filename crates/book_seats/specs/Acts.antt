-- What one program did of the calls that one book admitted.
use Rattle.std.specs.Prelude.{◌≡◌, ℕ, List, [], ◌∷◌, ◌++◌, map, length, Option, Result, Ok, Err}
use Rattle.std.specs.List.{AllByRecursion, flat_map}
use Rattle.sha1.specs.Sha1.{sha1}
use Rattle.rpc_program.specs.Programs.{CallerOf}
use Rattle.rpc_program.specs.declared.program.Fault.{Fault}
use Rattle.rpc_program.specs.declared.program.Program as programs
use Rattle.rpcsec_bodies.specs.declared.service.Service.{Service}
use Rattle.accept_core.specs.declared.answer.AdmitRefusal.{AdmitRefusal}
use Rattle.accept_core.specs.declared.entry.Entry.{Entry}
use Rattle.accept_core.specs.declared.entry.Entry.TheVariants.{Opened, Auth, Went, Settled, Call}
use Rattle.accept_core.specs.declared.entry.Entry.TheVariants.{Ended}
use Rattle.accept_core.specs.declared.entry.Receipt.{Receipt}
use Rattle.accept_book.specs.RecordShown.{AskedStep, AskedLook, AskedAdmit, AskedEnd}
use Rattle.accept_book.specs.declared.book_answer.Lease.{Lease}
use Rattle.gss_server.specs.Asking.{Asking}
use Rattle.gss_server.specs.Programs.{Taken, Enters, caller_of_lease}
use Rattle.book_seats.specs.Both.{BothOf, BothAnswer}
use Rattle.book_seats.specs.Notes.{Noted}

-- ---- the calls of a log

-- an entry at this place, where it is a call
abbrev pub call_at : ℕ → Entry → List Receipt
call_at place (Opened id at) = []
call_at place (Auth id mark at) = []
call_at place (Went id at) = []
call_at place (Settled id mech names ends at) = []
call_at place (Call id seq procedure args) =
    record { place = place; entry = Call id seq procedure args } ∷ []
call_at place (Ended id cause) = []

-- the calls of a log, oldest first, each with its place
abbrev pub calls_in : List Entry → List Receipt
calls_in [] = []
calls_in (entry ∷ log) = calls_in log ++ call_at (length log) entry

-- ---- the calls of a history

-- a call whose number was taken, the receipt of its entry, and what entering it gave: a ticket or a
-- fault, and None where it wasn't entered, since its number alone was taken
pub record Act (T : Type 0) : Type 0 where
  pub id : ℕ
  pub seq : ℕ
  pub caller : CallerOf
  pub procedure : ℕ
  pub args : List ℕ
  pub receipt : Receipt
  pub entered : Option (Result T Fault)

-- an admission, where it was answered so
abbrev pub act_of : {T : Type 0} → Lease → ℕ → Service → ℕ → List ℕ
    → Result (Taken T) AdmitRefusal → List (Act T)
act_of lease seq service procedure args (Ok taken) = record {
  id = lease.id;
  seq = seq;
  caller = caller_of_lease lease service taken.0.place;
  procedure = procedure;
  args = args;
  receipt = taken.0;
  entered = taken.1;
} ∷ []
act_of lease seq service procedure args (Err refusal) = []

-- a question, where it is such a call
abbrev pub act_in : {T : Type 0} → Noted T → List (Act T)
act_in (AskedStep id token now draws answer) = []
act_in (AskedLook id now answer) = []
act_in (AskedAdmit lease seq service procedure args answer) =
    act_of lease seq service procedure args answer
act_in (AskedEnd lease seq answer) = []

-- the calls whose number was taken, in the history's order
abbrev pub acts_in : {T : Type 0} → List (Noted T) → List (Act T)
acts_in notes = flat_map act_in notes

-- the receipts of these calls
abbrev pub receipts_of : {T : Type 0} → List (Act T) → List Receipt
receipts_of acts = map (λ act. act.receipt) acts

-- the entry of a call has its context, number, procedure and arguments
abbrev pub IsOwnEntry : {T : Type 0} → Act T → Type 0
IsOwnEntry act = act.receipt.entry ≡ Call act.id act.seq act.procedure (sha1 act.args)

-- ---- what becomes of a program

-- the program entered these calls, one after the other, each once; a call whose number alone was
-- taken leaves it as it is
abbrev pub Folds : {P T : Type 0} → programs.Ghosts P T → P → List (Act T) → P → Type 0
Folds served old [] new = new ≡ old
Folds {P} served old (act ∷ acts) new = (middle : P)
    × Enters served.says served.enters old act.caller act.procedure act.args act.entered middle
    × Folds served middle acts new

-- the calls that the log gained are those of the history whose number was taken, each once and no
-- other, in the history's order, each at its place; and the program is what it was, with each of
-- them entered, once, in the log's order
pub record ActsOnce {P T : Type 0} (served : programs.Ghosts P T) (old : BothOf P)
    (all : List (Noted T)) (new : BothOf P) : Type 0 where
  pub log :
      calls_in new.book.core.history ≡ calls_in old.book.core.history ++ receipts_of (acts_in all)
  pub entries : AllByRecursion IsOwnEntry (acts_in all)
  pub folds : Folds served old.program (acts_in all) new.program

-- so it is of all that a book and a program answered
abbrev pub ActsOnceLaw : {P T : Type 0} → programs.Ghosts P T → Type 0
ActsOnceLaw {P} {T} served = (old new : BothOf P) (all : List (Noted T))
    → Asking (BothAnswer served) old all new → ActsOnce served old all new
