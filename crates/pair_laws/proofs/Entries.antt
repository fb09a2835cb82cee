-- What a step of a creation enters into the history, and what each word on histories says of it.
use Rattle.std.proofs.Common.{◌≡◌, ℕ, ◌+◌, ◌≤◌, Bool, true, false, refl, ap, ◌∙◌, arith, List, [], ◌∷◌, ◌++◌, length, Option, Some, None}
use Rattle.std.specs.Prelude.{is_none, if◌then◌else◌}
use Rattle.std.specs.List.{AllByRecursion}
use Rattle.gss_base.specs.declared.mark.Mark.{Mark}
use Rattle.gss_base.specs.declared.mech.MechKind.{MechKind}
use Rattle.replay_cache.specs.declared.cache.TakenMark.{TakenMark}
use Rattle.spnego_core.specs.declared.outcome.Outcome.{Outcome}
use Rattle.spnego_core.specs.declared.accept_end.AcceptEnd.{AcceptEnd}
use Rattle.accept_core.specs.declared.answer.Next.{Next}
use Rattle.accept_core.specs.declared.answer.Next.TheVariants as nexts
use Rattle.accept_core.specs.declared.entry.Entry.{Entry}
use Rattle.accept_core.specs.declared.entry.Entry.TheVariants.{Opened, Settled}
use Rattle.accept_book.specs.Booking.{taken}
use Rattle.accept_core.specs.Aging.{in_use}
use Rattle.accept_core.specs.Stepping.{settles}
use Rattle.accept_core.specs.Entering.{id_of, lapsed, started, noted, finished, entered}
use Rattle.accept_core.specs.History.{opened, numbers, taken_of}

-- ---- what a step enters into the history

number-finished : (n : ℕ) (first : Bool) (next : Next AcceptEnd Outcome) (id now : ℕ) (h : List Entry) → numbers n (finished first next id now h) ≡ numbers n h
number-finished n true (nexts.Going end) id now h = refl
number-finished n false (nexts.Going end) id now h = refl
number-finished n true (nexts.Settled mech names value ends) id now h = refl
number-finished n false (nexts.Settled mech names value ends) id now h = refl

number-noted : (n : ℕ) (mark : Option Mark) (id now : ℕ) (h : List Entry) → numbers n (noted mark id now h) ≡ numbers n h
number-noted n None id now h = refl
number-noted n (Some mark) id now h = refl

number-lapsed : (n : ℕ) (gone : Option ℕ) (h : List Entry) → numbers n (lapsed gone h) ≡ numbers n h
number-lapsed n None h = refl
number-lapsed n (Some id) h = refl

number-started : (n : ℕ) (id gone : Option ℕ) (now : ℕ) (h : List Entry) → numbers n (started id gone now h) ≡ numbers n h
number-started n None gone now h = number-lapsed n gone h
number-started n (Some id) gone now h = number-lapsed n gone h

pub number-entered : (n : ℕ) (id gone : Option ℕ) (mark : Option Mark) (next : Next AcceptEnd Outcome) (now : ℕ) (h : List Entry) → numbers n (entered id gone mark next now h) ≡ numbers n h
number-entered n id gone mark next now h =
    number-finished n (is_none id) next (id_of id h) now (noted mark (id_of id h) now (started id gone now h))
    ∙ (number-noted n mark (id_of id h) now (started id gone now h) ∙ number-started n id gone now h)

open-finished : (first : Bool) (next : Next AcceptEnd Outcome) (id now : ℕ) (h : List Entry) → opened (finished first next id now h) ≡ opened h
open-finished true (nexts.Going end) id now h = refl
open-finished false (nexts.Going end) id now h = refl
open-finished true (nexts.Settled mech names value ends) id now h = refl
open-finished false (nexts.Settled mech names value ends) id now h = refl

open-noted : (mark : Option Mark) (id now : ℕ) (h : List Entry) → opened (noted mark id now h) ≡ opened h
open-noted None id now h = refl
open-noted (Some mark) id now h = refl

open-lapsed : (gone : Option ℕ) (h : List Entry) → opened (lapsed gone h) ≡ opened h
open-lapsed None h = refl
open-lapsed (Some id) h = refl

-- how many ids were opened before the step of an id, where that is the last one
abbrev pub opened_for : Option ℕ → ℕ → ℕ
opened_for None count = count
opened_for (Some id) count = count + 1

open-started : (id gone : Option ℕ) (now count : ℕ) (h : List Entry) → opened h ≡ opened_for id count → opened (started id gone now h) ≡ count + 1
open-started None gone now count h e = ap (λ (n : ℕ). n + 1) (open-lapsed gone h ∙ e)
open-started (Some id) gone now count h e = open-lapsed gone h ∙ e

pub open-entered : (id gone : Option ℕ) (mark : Option Mark) (next : Next AcceptEnd Outcome) (now count : ℕ) (h : List Entry) → opened h ≡ opened_for id count → opened (entered id gone mark next now h) ≡ count + 1
open-entered id gone mark next now count h e =
    open-finished (is_none id) next (id_of id h) now (noted mark (id_of id h) now (started id gone now h))
    ∙ (open-noted mark (id_of id h) now (started id gone now h) ∙ open-started id gone now count h e)

mark-finished : (first : Bool) (next : Next AcceptEnd Outcome) (id now : ℕ) (h : List Entry) → taken_of (finished first next id now h) ≡ taken_of h
mark-finished true (nexts.Going end) id now h = refl
mark-finished false (nexts.Going end) id now h = refl
mark-finished true (nexts.Settled mech names value ends) id now h = refl
mark-finished false (nexts.Settled mech names value ends) id now h = refl

mark-lapsed : (gone : Option ℕ) (h : List Entry) → taken_of (lapsed gone h) ≡ taken_of h
mark-lapsed None h = refl
mark-lapsed (Some id) h = refl

mark-started : (id gone : Option ℕ) (now : ℕ) (h : List Entry) → taken_of (started id gone now h) ≡ taken_of h
mark-started None gone now h = mark-lapsed gone h
mark-started (Some id) gone now h = mark-lapsed gone h

-- the marks with one more, where there is one
abbrev pub with_mark : Option Mark → ℕ → List TakenMark → List TakenMark
with_mark None place taken = taken
with_mark (Some mark) place taken = taken ++ (record { mark = mark; place = place }) ∷ []

mark-noted : (mark : Option Mark) (id now : ℕ) (h : List Entry) → taken_of (noted mark id now h) ≡ with_mark mark (length h) (taken_of h)
mark-noted None id now h = refl
mark-noted (Some mark) id now h = refl

pub mark-entered : (id gone : Option ℕ) (mark : Option Mark) (next : Next AcceptEnd Outcome) (now : ℕ) (h : List Entry)
    → taken_of (entered id gone mark next now h) ≡ with_mark mark (length (started id gone now h)) (taken_of h)
mark-entered id gone mark next now h =
    mark-finished (is_none id) next (id_of id h) now (noted mark (id_of id h) now (started id gone now h))
    ∙ (mark-noted mark (id_of id h) now (started id gone now h)
    ∙ ap (λ (ts : List TakenMark). with_mark mark (length (started id gone now h)) ts) (mark-started id gone now h))

long-finished : (first : Bool) (next : Next AcceptEnd Outcome) (id now : ℕ) (h : List Entry) → length (finished first next id now h) ≤ length h + 1
long-finished true (nexts.Going end) id now h = omega arith
long-finished false (nexts.Going end) id now h = omega arith
long-finished true (nexts.Settled mech names value ends) id now h = omega arith
long-finished false (nexts.Settled mech names value ends) id now h = omega arith

long-noted : (mark : Option Mark) (id now : ℕ) (h : List Entry) → length (noted mark id now h) ≤ length h + 1
long-noted None id now h = omega arith
long-noted (Some mark) id now h = omega arith

long-lapsed : (gone : Option ℕ) (h : List Entry) → length (lapsed gone h) ≤ length h + 1
long-lapsed None h = omega arith
long-lapsed (Some id) h = omega arith

long-started : (id gone : Option ℕ) (now : ℕ) (h : List Entry) → length (started id gone now h) ≤ length h + 2
long-started None gone now h = let few = long-lapsed gone h in omega (arith, few)
long-started (Some id) gone now h = let few = long-lapsed gone h in omega (arith, few)

pub long-entered : (id gone : Option ℕ) (mark : Option Mark) (next : Next AcceptEnd Outcome) (now : ℕ) (h : List Entry) → length (entered id gone mark next now h) ≤ length h + 4
long-entered id gone mark next now h =
    let one = long-finished (is_none id) next (id_of id h) now (noted mark (id_of id h) now (started id gone now h)) in
    let two = long-noted mark (id_of id h) now (started id gone now h) in
    let three = long-started id gone now h in omega (arith, one, two, three)

-- ---- the marks

all-more : (P : TakenMark → Type 0) (taken : List TakenMark) (one : TakenMark) → AllByRecursion P taken → P one → AllByRecursion P (taken ++ one ∷ [])
all-more P [] one a p = (p, tt)
all-more P (first ∷ taken) one a p = (a.0, all-more P taken one a.1 p)

pub all-with : (P : TakenMark → Type 0) (mark : Option Mark) (place : ℕ) (taken : List TakenMark) → AllByRecursion P taken → ((one : Mark) → mark ≡ Some one → P (record { mark = one; place = place })) → AllByRecursion P (with_mark mark place taken)
all-with P None place taken a p = a
all-with P (Some one) place taken a p = all-more P taken (record { mark = one; place = place }) a (p one refl)

pub long-more : (taken : List TakenMark) (one : TakenMark) → length (taken ++ one ∷ []) ≡ length taken + 1
long-more [] one = refl
long-more (first ∷ taken) one = omega (arith, long-more taken one)

-- ---- the entries of a creation

-- a first token that goes on, and one that is the last, where no context goes for it
pub first-going : (gone : Option ℕ) (mark : Option Mark) (end : AcceptEnd) (now own : ℕ) (h : List Entry) → gone ≡ None → opened h + 1 ≡ own → entered {S = Outcome} None gone mark (nexts.Going end) now h ≡ noted mark own now (Opened own now ∷ h)
first-going gone mark end now own h e f =
    ap (λ (o : Option ℕ). entered {S = Outcome} None o mark (nexts.Going end) now h) e ∙ ap (λ (n : ℕ). noted mark n now (Opened n now ∷ h)) f

pub first-settled : (gone : Option ℕ) (mark : Option Mark) (mech : MechKind) (names : List ℕ) (value : Outcome) (lasts now own : ℕ) (h : List Entry) → gone ≡ None → opened h + 1 ≡ own
    → entered {N = AcceptEnd} None gone mark (nexts.Settled mech names value lasts) now h ≡ Settled own mech names lasts now ∷ noted mark own now (Opened own now ∷ h)
first-settled gone mark mech names value lasts now own h e f =
    ap (λ (o : Option ℕ). entered {N = AcceptEnd} None o mark (nexts.Settled mech names value lasts) now h) e ∙ ap (λ (n : ℕ). Settled n mech names lasts now ∷ noted mark n now (Opened n now ∷ h)) f

-- what is in use behind a step for which no context goes, where none was
uses-noted : (mark : Option Mark) (id now : ℕ) (h : List Entry) → in_use (noted mark id now h) ≡ in_use h
uses-noted None id now h = refl
uses-noted (Some mark) id now h = refl

uses-finished : (first : Bool) (next : Next AcceptEnd Outcome) (id now : ℕ) (h : List Entry) → in_use h ≡ [] → in_use (finished first next id now h) ≡ (if settles next then id ∷ [] else [])
uses-finished true (nexts.Going end) id now h e = e
uses-finished false (nexts.Going end) id now h e = e
uses-finished true (nexts.Settled mech names value ends) id now h e = ap (λ (xs : List ℕ). xs ++ id ∷ []) e
uses-finished false (nexts.Settled mech names value ends) id now h e = ap (λ (xs : List ℕ). xs ++ id ∷ []) e

uses-started : (id : Option ℕ) (now : ℕ) (h : List Entry) → in_use (started id None now h) ≡ in_use h
uses-started None now h = refl
uses-started (Some id) now h = refl

pub uses-entered : (id : Option ℕ) (mark : Option Mark) (next : Next AcceptEnd Outcome) (now : ℕ) (h : List Entry) → in_use h ≡ [] → in_use (entered id None mark next now h) ≡ (if settles next then id_of id h ∷ [] else [])
uses-entered id mark next now h e =
    uses-finished (is_none id) next (id_of id h) now (noted mark (id_of id h) now (started id None now h))
    (uses-noted mark (id_of id h) now (started id None now h) ∙ (uses-started id now h ∙ e))
