-- What a desk asked as the book answered it, and as the desk was told it.
use Rattle.std.proofs.Common.{◌≡◌, ◌⊎◌, ◌∙◌, inl, inr, ℕ, Bool, refl, ap, sym, append_assoc, append-nil, List, [], ◌∷◌, ◌++◌}
use Rattle.accept_book.specs.RecordShown.{Asked}
use Rattle.accept_book.specs.declared.book_answer.Admitted.{Admitted}
use Rattle.rpc_program.specs.declared.program.Speller as spellers
use Rattle.book_seats.specs.Notes.{Noted}
use Rattle.book_seats.specs.Telling.{AllTold}
use Rattle.accept_book.specs.declared.book_answer.NegAnswer.{NegAnswer}
use Rattle.gss_server.specs.Asking.{Asking}
use Rattle.journal_gate.specs.Withheld.{Withheld, IsTold}
use Rattle.server_seating.specs.SideBySide.{DeskAsked, Hears}

-- the book's answer to a question was told as it is, or was withheld
abbrev pub Heard : Asked Admitted → Asked Admitted → Type 0
Heard first one = (one ≡ first) ⊎ ((answer : NegAnswer) × Withheld first one answer)

abbrev pub AllHear : List (Asked Admitted) → List (Asked Admitted) → Type 0
AllHear [] [] = Unit {0}
AllHear [] (one ∷ ones) = ⊥
AllHear (first ∷ firsts) [] = ⊥
AllHear (first ∷ firsts) (one ∷ ones) = Heard first one × AllHear firsts ones

heard : (journaled : Bool) (first one : Asked Admitted) {failed failed' : ℕ} → IsTold journaled first failed one failed' → Heard first one
heard journaled first one (inl same) = inl same.0
heard journaled first one (inr told) = inr (told.1, told.2)

-- the questions behind those that a desk asked before, as they stand in the history and as its seat told them
pub record HeardAll {T W : Type 0} (spelling : spellers.Ghosts W T) (before : DeskAsked T W) (asked : List (Asked Admitted)) (after : DeskAsked T W) : Type 0 where
  pub notes : List (Noted T)
  pub firsts : List (Asked Admitted)
  pub told : AllTold spelling before.speller notes firsts after.speller
  pub hear : AllHear firsts asked
  pub noted_is : after.noted ≡ before.noted ++ notes

pub heard-all : {T W : Type 0} (spelling : spellers.Ghosts W T) (journaled : Bool) (before after : DeskAsked T W) (asked : List (Asked Admitted)) → Asking (Hears spelling journaled) before asked after → HeardAll spelling before asked after
heard-all {T} {W} spelling journaled before after [] same = record { notes = []; firsts = []; told = ap (λ (d : DeskAsked T W). d.speller) same; hear = tt; noted_is = ap (λ (d : DeskAsked T W). d.noted) same ∙ sym (append-nil before.noted) }
heard-all {T} {W} spelling journaled before after (one ∷ asked) a =
    let rest = heard-all spelling journaled a.0 after asked a.2 in record {
      notes = a.1.noted ∷ rest.notes;
      firsts = a.1.first ∷ rest.firsts;
      told = (a.0.speller, a.1.spelt, rest.told);
      hear = (heard journaled a.1.first one a.1.told, rest.hear);
      noted_is = rest.noted_is ∙ (ap (λ (xs : List (Noted T)). xs ++ rest.notes) a.1.asked ∙ append_assoc before.noted (a.1.noted ∷ []) rest.notes);
    }

-- ---- parts

pub none-heard : (firsts : List (Asked Admitted)) → AllHear firsts [] → firsts ≡ []
none-heard [] h = refl
none-heard (first ∷ firsts) h = absurd h

pub record Parts (firsts front later : List (Asked Admitted)) : Type 0 where
  pub early : List (Asked Admitted)
  pub late : List (Asked Admitted)
  pub is : firsts ≡ early ++ late
  pub first : AllHear early front
  pub second : AllHear late later

pub parts : (firsts front later : List (Asked Admitted)) → AllHear firsts (front ++ later) → Parts firsts front later
parts firsts [] later h = record { early = []; late = firsts; is = refl; first = tt; second = h }
parts [] (one ∷ front) later h = absurd h
parts (first ∷ firsts) (one ∷ front) later h =
    let p = parts firsts front later h.1 in record { early = first ∷ p.early; late = p.late; is = ap (λ xs. first ∷ xs) p.is; first = (h.0, p.first); second = p.second }

pub heard-more : (firsts ones : List (Asked Admitted)) (first one : Asked Admitted) → AllHear firsts ones → Heard first one → AllHear (firsts ++ first ∷ []) (ones ++ one ∷ [])
heard-more [] [] first one h last = (last, tt)
heard-more [] (x ∷ ones) first one h last = absurd h
heard-more (x ∷ firsts) [] first one h last = absurd h
heard-more (x ∷ firsts) (y ∷ ones) first one h last = (h.0, heard-more firsts ones first one h.1 last)
