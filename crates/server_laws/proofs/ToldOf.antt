-- What a desk is told of admitted calls is told apart from lists of mechanisms, where the speller sees to that.
use Rattle.std.proofs.Common.{◌≡◌, ◌∙◌, ℕ, List, [], ◌∷◌, ◌++◌, map, Option, Some, None, Result, Ok, Err, refl, sym, ap, subst}
use Rattle.std.specs.List.{AllByRecursion}
use Rattle.std.specs.Prelude.{◌==◌, if◌then◌else◌, Bool, true, false, ⊤}
use Rattle.std.proofs.lemmas.Option.{none-some}
use Rattle.accept_core.specs.declared.answer.AdmitRefusal.{AdmitRefusal}
use Rattle.accept_core.specs.declared.entry.Receipt.{Receipt}
use Rattle.accept_book.specs.declared.book_answer.Admitted.{Admitted}
use Rattle.accept_book.specs.declared.book_answer.Lease.{Lease}
use Rattle.accept_book.specs.RecordShown.{Asked, AskedStep, AskedLook, AskedAdmit, AskedEnd}
use Rattle.rpcsec_bodies.specs.declared.service.Service.{Service}
use Rattle.rpc_program.specs.Programs.{ProgramSays, CallerOf, result_in}
use Rattle.rpc_program.specs.declared.outcome.Outcome.{Outcome}
use Rattle.rpc_program.specs.declared.program.Fault.{Fault}
use Rattle.rpc_program.specs.declared.program.Program as programs
use Rattle.rpc_program.specs.declared.program.Speller as spellers
use Rattle.gss_server.specs.Asking.{Asking}
use Rattle.gss_server.specs.Programs.{Taken, Enters, EntersTaken, Spelt, SpeltTaken, caller_of_lease}
use Rattle.book_seats.specs.Both.{BothOf, BothAnswer, ProgramAnswers}
use Rattle.book_seats.specs.Notes.{Note, Noted, receipted, noted_by, noted_in}
use Rattle.book_seats.specs.Telling.{ToldFrom, AllTold}
use Rattle.world_laws.specs.Apart.{ToldApart}
use Rattle.told_apart.specs.Apart.{NoList}
use Rattle.server_laws.specs.Apart.{SpellsApart}
use Rattle.server_laws.specs.ServerRun.{book_notes}
use Rattle.server_laws.proofs.Beside.{booked_by, questions_in}

-- ---- arguments of entered calls

-- a call that was entered had arguments that the program takes
abbrev HasTaken : {T : Type 0} → ProgramSays → ℕ → List ℕ → Option (Result T Fault) → Type 0
HasTaken says procedure args (Some entered) = says.takes procedure args ≡ true
HasTaken says procedure args None = ⊤

abbrev HasTakenOf : {T : Type 0} → ProgramSays → ℕ → List ℕ → Result (Taken T) AdmitRefusal → Type 0
HasTakenOf says procedure args (Ok taken) = HasTaken says procedure args taken.1
HasTakenOf says procedure args (Err refusal) = ⊤

-- a question of the history is of this sort
abbrev pub IsTaken : {T : Type 0} → ProgramSays → Noted T → Type 0
IsTaken says (AskedStep id token now draws answer) = ⊤
IsTaken says (AskedLook id now answer) = ⊤
IsTaken says (AskedAdmit lease seq service procedure args taken) = HasTakenOf says procedure args taken
IsTaken says (AskedEnd lease seq answer) = ⊤

entered-taken : {V T : Type 0} (served : programs.Ghosts V T) (old new : V) (caller : CallerOf) (procedure : ℕ) (args : List ℕ) (entered : Option (Result T Fault)) → Enters served.says served.enters old caller procedure args entered new → HasTaken served.says procedure args entered
entered-taken served old new caller procedure args (Some entered) e = e.takes
entered-taken served old new caller procedure args None e = tt

answer-taken : {V T : Type 0} (served : programs.Ghosts V T) (old new : V) (lease : Lease) (service : Service) (procedure : ℕ) (args : List ℕ) (taken : Result (Taken T) AdmitRefusal) → EntersTaken served.says served.enters old lease service procedure args taken new
    → HasTakenOf served.says procedure args taken
answer-taken served old new lease service procedure args (Ok taken) e = entered-taken served old new (caller_of_lease lease service taken.0.place) procedure args taken.1 e
answer-taken served old new lease service procedure args (Err refusal) e = tt

one-taken : {V T : Type 0} (served : programs.Ghosts V T) (old new : V) (noted : Noted T) → ProgramAnswers served old noted new → IsTaken served.says noted
one-taken served old new (AskedStep id token now draws answer) p = tt
one-taken served old new (AskedLook id now answer) p = tt
one-taken served old new (AskedAdmit lease seq service procedure args taken) p = answer-taken served old new lease service procedure args taken p
one-taken served old new (AskedEnd lease seq answer) p = tt

-- the program entered calls with arguments that it takes
pub all-taken : {V T : Type 0} (served : programs.Ghosts V T) (notes : List (Noted T)) (old new : BothOf V) → Asking (BothAnswer served) old notes new → AllByRecursion (IsTaken served.says) notes
all-taken served [] old new a = tt
all-taken served (noted ∷ rest) old new a = (one-taken served old.program a.0.program noted a.1.1, all-taken served rest a.0 new a.2)

-- and so those of one desk
pub own-taken : {T : Type 0} (says : ProgramSays) (desk : ℕ) (notes : List (Note T)) → AllByRecursion (IsTaken says) (noted_in notes) → AllByRecursion (IsTaken says) (noted_by desk notes)
own-taken says desk [] a = tt
own-taken {T} says desk (note ∷ notes) a = by-if (note.0 == desk) (own-taken says desk notes a.1)
  where
    by-if : (b : Bool) → AllByRecursion (IsTaken says) (noted_by desk notes) → AllByRecursion (IsTaken says) (if b then note.1 ∷ noted_by desk notes else noted_by desk notes)
    by-if true rest = (a.0, rest)
    by-if false rest = rest

-- ---- what was told

outcome-apart : {W T : Type 0} (says : ProgramSays) (spelling : spellers.Ghosts W T) → SpellsApart says spelling → (old : W) (caller : CallerOf) (procedure : ℕ) (args : List ℕ) (entered : Option (Result T Fault)) (outcome : Outcome) (new : W)
    → HasTaken says procedure args entered → Spelt spelling.spells old caller procedure args entered outcome new → (result : List ℕ) → result_in args outcome ≡ Some result → NoList result
outcome-apart says spelling apart old caller procedure args (Some (Ok ticket)) outcome new takes s result is = apart old new caller procedure args ticket outcome takes s result is
outcome-apart says spelling apart old caller procedure args (Some (Err fault)) outcome new takes s result is = absurd (none-some result (sym (ap (result_in args) s.0) ∙ is))
outcome-apart says spelling apart old caller procedure args None outcome new takes s result is = absurd (none-some result (sym (ap (result_in args) s.0) ∙ is))

answer-apart : {W T : Type 0} (says : ProgramSays) (spelling : spellers.Ghosts W T) → SpellsApart says spelling → (old : W) (lease : Lease) (seq : ℕ) (service : Service) (procedure : ℕ) (args : List ℕ) (taken : Result (Taken T) AdmitRefusal) (answer : Result Admitted AdmitRefusal) (new : W)
    → HasTakenOf says procedure args taken → SpeltTaken spelling.spells old lease service procedure args taken answer new → ToldApart (AskedAdmit lease seq service procedure args answer)
answer-apart says spelling apart old lease seq service procedure args (Ok taken) (Ok admitted) new takes s =
    outcome-apart says spelling apart old (caller_of_lease lease service taken.0.place) procedure args taken.1 admitted.outcome new takes s.1
answer-apart says spelling apart old lease seq service procedure args (Ok taken) (Err refusal) new takes s = absurd s
answer-apart says spelling apart old lease seq service procedure args (Err refusal) (Ok admitted) new takes s = absurd s
answer-apart says spelling apart old lease seq service procedure args (Err refusal) (Err told) new takes s = tt

told-apart : {W T : Type 0} (says : ProgramSays) (spelling : spellers.Ghosts W T) → SpellsApart says spelling → (old : W) (noted : Noted T) (one : Asked Admitted) (new : W) → IsTaken says noted → ToldFrom spelling old noted one new → ToldApart one
told-apart says spelling apart old (AskedStep id token now draws answer) one new takes t = subst ToldApart (sym t.0) tt
told-apart says spelling apart old (AskedLook id now answer) one new takes t = subst ToldApart (sym t.0) tt
told-apart says spelling apart old (AskedAdmit lease seq service procedure args taken) one new takes t =
    subst ToldApart (sym t.1) (answer-apart says spelling apart old lease seq service procedure args taken t.0 new takes t.2)
told-apart says spelling apart old (AskedEnd lease seq answer) one new takes t = subst ToldApart (sym t.0) tt

pub all-apart : {W T : Type 0} (says : ProgramSays) (spelling : spellers.Ghosts W T) → SpellsApart says spelling → (notes : List (Noted T)) (firsts : List (Asked Admitted)) (old new : W) → AllByRecursion (IsTaken says) notes → AllTold spelling old notes firsts new
    → AllByRecursion ToldApart firsts
all-apart says spelling apart [] [] old new takes t = tt
all-apart says spelling apart [] (one ∷ more) old new takes t = absurd t
all-apart says spelling apart (noted ∷ rest) [] old new takes t = absurd t
all-apart says spelling apart (noted ∷ rest) (one ∷ more) old new takes t = (told-apart says spelling apart old noted one t.0 takes.0 t.1, all-apart says spelling apart rest more t.0 new takes.1 t.2)

-- ---- lists

pub all-front : {A : Type 0} (Is : A → Type 0) (xs ys : List A) → AllByRecursion Is (xs ++ ys) → AllByRecursion Is xs
all-front Is [] ys a = tt
all-front Is (x ∷ xs) ys a = (a.0, all-front Is xs ys a.1)

pub all-back : {A : Type 0} (Is : A → Type 0) (xs ys : List A) → AllByRecursion Is (xs ++ ys) → AllByRecursion Is ys
all-back Is [] ys a = a
all-back Is (x ∷ xs) ys a = all-back Is xs ys a.1

-- told one after the other
pub told-join : {W T : Type 0} (spelling : spellers.Ghosts W T) (ns ms : List (Noted T)) (xs ys : List (Asked Admitted)) (old middle new : W) → AllTold spelling old ns xs middle → AllTold spelling middle ms ys new → AllTold spelling old (ns ++ ms) (xs ++ ys) new
told-join spelling [] ms [] ys old middle new t u = subst (λ (w : _). AllTold spelling w ms ys new) t u
told-join spelling [] ms (x ∷ xs) ys old middle new t u = absurd t
told-join spelling (n ∷ ns) ms [] ys old middle new t u = absurd t
told-join spelling (n ∷ ns) ms (x ∷ xs) ys old middle new t u = (t.0, t.1, told-join spelling ns ms xs ys t.0 middle new t.2 u)

-- ---- a history as the book has it

pub booked-notes : {T : Type 0} (desk : ℕ) (notes : List (Note T)) → booked_by desk (book_notes notes) ≡ map receipted (noted_by desk notes)
booked-notes desk [] = refl
booked-notes desk (note ∷ notes) = by-if (note.0 == desk) (booked-notes desk notes)
  where
    by-if : (b : Bool) → booked_by desk (book_notes notes) ≡ map receipted (noted_by desk notes)
        → (if b then receipted note.1 ∷ booked_by desk (book_notes notes) else booked_by desk (book_notes notes)) ≡ map receipted (if b then note.1 ∷ noted_by desk notes else noted_by desk notes)
    by-if true e = ap (λ (l : List (Asked Receipt)). receipted note.1 ∷ l) e
    by-if false e = e

pub questions-booked : {T : Type 0} (notes : List (Note T)) → questions_in (book_notes notes) ≡ map receipted (noted_in notes)
questions-booked [] = refl
questions-booked (note ∷ notes) = ap (λ (l : List (Asked Receipt)). receipted note.1 ∷ l) (questions-booked notes)
