-- What the gate below was asked, and what its receipts are.
use Rattle.std.specs.Prelude.{◌≡◌, ◌⊎◌, ℕ, List, [], ◌∷◌, ◌++◌, Some, Result, Err}
use Rattle.std.specs.List.{flat_map}
use Rattle.accept_core.specs.declared.answer.AdmitRefusal.{AdmitRefusal}
use Rattle.accept_core.specs.declared.answer.AdmitRefusal.TheVariants.{Repeat}
use Rattle.accept_book.specs.declared.book_answer.Admitted.{Admitted}
use Rattle.accept_book.specs.declared.book_answer.Lease.{Lease}
use Rattle.rpc_program.specs.Programs.{NONE}
use Rattle.rpcsec_bodies.specs.declared.service.Service.{Service}
use Rattle.accept_book.specs.RecordShown.{Asked, AskedStep, AskedLook, AskedAdmit, AskedEnd}
use Rattle.gss_server.specs.Asking.{Asking}
use Rattle.gss_server.specs.Receipts.{of_call}
use Rattle.again_gate.specs.Again.{AgainOf}
use Rattle.again_gate.specs.Turns.{Turned, Turning}
use Rattle.again_laws.specs.Sole.{receipts_in}

-- an admission was asked below as it was; or as one that doesn't act, with the same receipt; or it
-- wasn't asked, and was answered as a repeat
abbrev pub AdmitsBelow : Lease → ℕ → Service → ℕ → List ℕ → Result Admitted AdmitRefusal
    → List (Asked Admitted) → Type 0
AdmitsBelow lease seq service procedure args answer below =
    (below ≡ AskedAdmit lease seq service procedure args answer ∷ [])
    ⊎ (((inner : Result Admitted AdmitRefusal)
    × (below ≡ AskedAdmit lease seq service NONE args inner ∷ [])
    × (of_call (Some answer) ≡ of_call (Some inner)))
    ⊎ ((below ≡ []) × (answer ≡ Err Repeat)))

-- every other question was asked below as it was, and answered so
abbrev pub IsBelow : Asked Admitted → List (Asked Admitted) → Type 0
IsBelow (AskedStep id token now draws answer) below =
    below ≡ AskedStep id token now draws answer ∷ []
IsBelow (AskedLook id now answer) below = below ≡ AskedLook id now answer ∷ []
IsBelow (AskedAdmit lease seq service procedure args answer) below =
    AdmitsBelow lease seq service procedure args answer below
IsBelow (AskedEnd lease seq answer) below = below ≡ AskedEnd lease seq answer ∷ []

-- so it is of each, in order
abbrev pub AreBelow : List (Asked Admitted) → List (Asked Admitted) → Type 0
AreBelow [] below = below ≡ []
AreBelow (one ∷ more) below =
    (here rest : List (Asked Admitted)) × (below ≡ here ++ rest) × IsBelow one here
    × AreBelow more rest

-- what all records asked, in order
abbrev pub asked_in : List Turned → List (Asked Admitted)
asked_in turns = flat_map (λ turn. turn.asked) turns

-- the gate below answered these questions, in order, and their receipts are those of the answers
-- above
pub record HasBelow {S : Type 0} (Answers : S → Asked Admitted → S → Type 0) (old new : AgainOf S)
    (asked : List (Asked Admitted)) : Type 0 where
  pub below : List (Asked Admitted)
  pub chain : Asking Answers old.gate below new.gate
  pub each : AreBelow asked below
  pub receipts : flat_map receipts_in asked ≡ flat_map receipts_in below

-- so it is of all records, from any state of the gate on
abbrev pub BelowLaw : {S : Type 0} → (S → Asked Admitted → S → Type 0) → Type 0
BelowLaw {S} Answers = (turns : List Turned) (old new : AgainOf S) → Turning Answers old turns new
    → HasBelow Answers old new (asked_in turns)
