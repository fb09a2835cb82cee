-- Calls that acted, one question after another.
use Rattle.std.proofs.Common.{◌≡◌, ℕ, Bool, false, List, [], ◌∷◌, ◌++◌, flat_map, Result, Ok, Err, ap, sym, ◌∙◌, refl, inl, inr, append_assoc, append-nil}
use Rattle.std.specs.Prelude.{if◌then◌else◌}
use Rattle.std.proofs.lemmas.Bool.{cases_Bool}
use Rattle.std.proofs.lemmas.List.{map_push}
use Rattle.accept_core.specs.declared.answer.AdmitRefusal.{AdmitRefusal}
use Rattle.accept_book.specs.declared.book_answer.Admitted.{Admitted}
use Rattle.accept_book.specs.RecordShown.{Asked, AskedStep, AskedLook, AskedAdmit, AskedEnd}
use Rattle.rpc_program.specs.declared.outcome.Outcome.{Outcome}
use Rattle.rpc_program.specs.declared.outcome.Outcome.TheVariants.{NoMemory}
use Rattle.again_gate.specs.Turns.{Turned}
use Rattle.again_laws.specs.Acting.{is_acting, Acted, acted, acting, xids}

-- whether an answer is that of a call that acts
abbrev pub was_acting : ℕ → Result Admitted AdmitRefusal → Bool
was_acting id (Ok admitted) = is_acting id admitted.receipt.entry
was_acting id (Err refusal) = false

abbrev pub acts : ℕ → Asked Admitted → Bool
acts id (AskedStep own token now draws answer) = false
acts id (AskedLook own now answer) = false
acts id (AskedAdmit lease seq service procedure args answer) = was_acting id answer
acts id (AskedEnd lease seq answer) = false

-- its number, and what became of it
abbrev pub number_in : Asked Admitted → ℕ
number_in (AskedStep own token now draws answer) = 0
number_in (AskedLook own now answer) = 0
number_in (AskedAdmit lease seq service procedure args answer) = seq
number_in (AskedEnd lease seq answer) = 0

abbrev pub outcome_of : Result Admitted AdmitRefusal → Outcome
outcome_of (Ok admitted) = admitted.outcome
outcome_of (Err refusal) = NoMemory

abbrev pub outcome_in : Asked Admitted → Outcome
outcome_in (AskedStep own token now draws answer) = NoMemory
outcome_in (AskedLook own now answer) = NoMemory
outcome_in (AskedAdmit lease seq service procedure args answer) = outcome_of answer
outcome_in (AskedEnd lease seq answer) = NoMemory

-- the transaction numbers of a context's acting calls, behind those before
abbrev pub one-xid : ℕ → ℕ → Asked Admitted → List ℕ → List ℕ
one-xid id xid one before = if acts id one then before ++ xid ∷ [] else before

abbrev pub xids-in : ℕ → ℕ → List (Asked Admitted) → List ℕ → List ℕ
xids-in id xid [] before = before
xids-in id xid (one ∷ more) before = xids-in id xid more (one-xid id xid one before)

abbrev pub xids-all : ℕ → List Turned → List ℕ → List ℕ
xids-all id [] before = before
xids-all id (turn ∷ turns) before = xids-all id turns (xids-in id turn.xid turn.asked before)

-- the calls themselves
abbrev pub one-act : ℕ → ℕ → Asked Admitted → List Acted → List Acted
one-act id xid one before = if acts id one then before ++ (record { xid = xid; number = number_in one; outcome = outcome_in one }) ∷ [] else before

abbrev pub acts-in : ℕ → ℕ → List (Asked Admitted) → List Acted → List Acted
acts-in id xid [] before = before
acts-in id xid (one ∷ more) before = acts-in id xid more (one-act id xid one before)

abbrev pub acts-all : ℕ → List Turned → List Acted → List Acted
acts-all id [] before = before
acts-all id (turn ∷ turns) before = acts-all id turns (acts-in id turn.xid turn.asked before)

-- ---- they are the ones that the definition has

pub one-is : (id xid : ℕ) (one : Asked Admitted) (before : List Acted) → one-act id xid one before ≡ before ++ acted id xid one
one-is id xid (AskedStep own token now draws answer) before = sym (append-nil before)
one-is id xid (AskedLook own now answer) before = sym (append-nil before)
one-is id xid (AskedAdmit lease seq service procedure args (Ok a)) before = elim (cases_Bool (is_acting id a.receipt.entry)) [ inl y ↦ rw y refl | inr n ↦ rw n (sym (append-nil before)) ]
one-is id xid (AskedAdmit lease seq service procedure args (Err refusal)) before = sym (append-nil before)
one-is id xid (AskedEnd lease seq answer) before = sym (append-nil before)

pub in-is : (id xid : ℕ) (asked : List (Asked Admitted)) (before : List Acted) → acts-in id xid asked before ≡ before ++ flat_map (acted id xid) asked
in-is id xid [] before = sym (append-nil before)
in-is id xid (one ∷ more) before =
    in-is id xid more (one-act id xid one before) ∙ (ap (λ (l : List Acted). l ++ flat_map (acted id xid) more) (one-is id xid one before) ∙ append_assoc before (acted id xid one) (flat_map (acted id xid) more))

pub all-is : (id : ℕ) (turns : List Turned) (before : List Acted) → acts-all id turns before ≡ before ++ acting id turns
all-is id [] before = sym (append-nil before)
all-is id (turn ∷ turns) before =
    all-is id turns (acts-in id turn.xid turn.asked before) ∙ (ap (λ (l : List Acted). l ++ acting id turns) (in-is id turn.xid turn.asked before) ∙ append_assoc before (flat_map (acted id turn.xid) turn.asked) (acting id turns))

one-xids : (id xid : ℕ) (one : Asked Admitted) (before : List Acted) → xids (one-act id xid one before) ≡ one-xid id xid one (xids before)
one-xids id xid one before = elim (cases_Bool (acts id one)) [ inl y ↦ rw y (map_push (λ (c : Acted). c.xid) before (record { xid = xid; number = number_in one; outcome = outcome_in one })) | inr n ↦ rw n refl ]

in-xids : (id xid : ℕ) (asked : List (Asked Admitted)) (before : List Acted) → xids (acts-in id xid asked before) ≡ xids-in id xid asked (xids before)
in-xids id xid [] before = refl
in-xids id xid (one ∷ more) before = in-xids id xid more (one-act id xid one before) ∙ ap (λ (l : List ℕ). xids-in id xid more l) (one-xids id xid one before)

all-xids : (id : ℕ) (turns : List Turned) (before : List Acted) → xids (acts-all id turns before) ≡ xids-all id turns (xids before)
all-xids id [] before = refl
all-xids id (turn ∷ turns) before = all-xids id turns (acts-in id turn.xid turn.asked before) ∙ ap (λ (l : List ℕ). xids-all id turns l) (in-xids id turn.xid turn.asked before)

pub acting-is : (id : ℕ) (turns : List Turned) → acts-all id turns [] ≡ acting id turns
acting-is id turns = all-is id turns []

pub xids-is : (id : ℕ) (turns : List Turned) → xids-all id turns [] ≡ xids (acting id turns)
xids-is id turns = sym (all-xids id turns []) ∙ ap xids (acting-is id turns)
