-- One question more of one book and program.
use Rattle.std.proofs.Common.{◌≡◌, ℕ, List, [], ◌∷◌, ◌++◌, drop, refl, sym, ap, ◌∙◌, subst}
use Rattle.std.proofs.lemmas.List.{map-append}
use Rattle.spnego_core.specs.declared.accept_end.AcceptEnd.{AcceptEnd}
use Rattle.spnego_core.specs.declared.outcome.Outcome.{Outcome}
use Rattle.context_table.specs.Places.{Places}
use Rattle.accept_core.specs.Replays.{Accepting}
use Rattle.accept_book.specs.RecordShown.{AskedStep, AskedLook, AskedAdmit, AskedEnd}
use Rattle.gss_server.specs.Asking.{Asking}
use Rattle.gss_server.specs.Telling.{limits_of}
use Rattle.rpc_program.specs.declared.program.Program as programs
use Rattle.book_seats.specs.Both.{BothOf, BothAnswer}
use Rattle.book_seats.specs.Notes.{Note, Noted, noted_in, noted_by}
use Rattle.book_seats.specs.Views.{WriterOf, ClerkOf}
use Rattle.book_seats.specs.Histories.{IsLegal, Begun, AnsweredBy, NotesOne}
use Rattle.book_seats.proofs.Moves.{of-append}

module _ {S Q : Type 0} (A : S → Q → S → Type 0) where
  pub asking-more : (xs : List Q) (x : Q) (s m t : S) → Asking A s xs m → A m x t → Asking A s (xs ++ x ∷ []) t
  asking-more [] x s m t h a = (t, subst (λ (r : S). A r x t) h a, refl)
  asking-more (y ∷ ys) x s m t h a = (h.0, h.1, asking-more ys x h.0 m t h.2 a)

rest-empty : {A : Type 0} (xs ys : List A) → xs ++ ys ≡ xs → ys ≡ []
rest-empty [] ys e = e
rest-empty {A} (x ∷ xs) ys e = rest-empty xs ys (ap (λ (l : List A). drop 1 l) e)

-- no question changes a book's limits
limits_by : (old new : Accepting AcceptEnd Outcome) → new.table.limit ≡ old.table.limit → new.cache.capacity ≡ old.cache.capacity → new.limit ≡ old.limit → new.width ≡ old.width → new.keeping ≡ old.keeping
    → limits_of new ≡ limits_of old
limits_by old new contexts marks log width keeping = λ i. record { contexts = contexts i; marks = marks i; log = log i; width = width i; keeping = keeping i }

module _ {P T : Type 0} (served : programs.Ghosts P T) where
  limits-same : (one : Noted T) (before after : BothOf P) → BothAnswer served before one after → limits_of after.book.core ≡ limits_of before.book.core
  limits-same (AskedStep id token now draws answer) before after h = limits_by before.book.core after.book.core h.0.notes.contexts h.0.notes.capacity h.0.notes.limit h.0.notes.width h.0.notes.keeping
  limits-same (AskedLook id now answer) before after h = limits_by before.book.core after.book.core (ap (λ (t : Places AcceptEnd Outcome). t.limit) h.0.looked.table) h.0.looked.capacity h.0.looked.limit h.0.looked.width h.0.looked.keeping
  limits-same (AskedAdmit lease seq service procedure args answer) before after h = limits_by before.book.core after.book.core h.0.keeps.contexts h.0.keeps.capacity h.0.keeps.limit h.0.keeps.width h.0.keeps.keeping
  limits-same (AskedEnd lease seq answer) before after h = limits_by before.book.core after.book.core h.0.keeps.contexts h.0.keeps.capacity h.0.keeps.limit h.0.keeps.width h.0.keeps.keeping

  pub limits-kept : {old : WriterOf T} {asking : ClerkOf T} {one : Noted T} {new : WriterOf T} {asked : ClerkOf T} → NotesOne old asking one new asked → (before after : BothOf P) → BothAnswer served before one after → limits_of after.book.core ≡ limits_of before.book.core
  limits-kept {one = one} notes before after answer = limits-same one before after answer

module _ {P T : Type 0} (served : programs.Ghosts P T) (begins : BothOf P → Type 0) where
  begun-more : (all : List (Note T)) (desk : ℕ) (one : Noted T) (old new : BothOf P) → Begun served begins all old → BothAnswer served old one new → IsLegal new.book → Begun served begins (all ++ (desk, one) ∷ []) new
  begun-more all desk one old new h a legal =
      (h.0, h.1, subst (λ (l : List (Noted T)). Asking (BothAnswer served) h.0 l new) (sym (map-append (λ (note : Note T). note.1) all ((desk, one) ∷ []))) (asking-more (BothAnswer served) (noted_in all) one h.0 old new h.2 a), legal)

  -- the book and the program answered a question, and the writer noted it
  pub begun-noted : {old : WriterOf T} {asking : ClerkOf T} {one : Noted T} {new : WriterOf T} {asked : ClerkOf T} → NotesOne old asking one new asked → (before after : BothOf P) → Begun served begins old.all before → BothAnswer served before one after → IsLegal after.book → Begun served begins new.all after
  begun-noted {old} {asking} {one} notes before after began answer legal =
      subst (λ (l : List (Note T)). Begun served begins l after) (sym (ap (λ (w : WriterOf T). w.all) notes.writer)) (begun-more old.all asking.desk one before after began answer legal)

  -- what the one book and program answered after all that they were asked
  pub answered : {old : WriterOf T} {asking : ClerkOf T} {one : Noted T} {new : WriterOf T} {asked : ClerkOf T} → NotesOne old asking one new asked → (before after : BothOf P) → Begun served begins old.all before → BothAnswer served before one after → IsLegal after.book → AnsweredBy served begins asking one asked
  answered {asking = asking} {one} notes before after began answer legal =
      let starts = notes.prefix in record {
        between = starts.0;
        others = rest-empty (noted_by asking.desk asking.seen) (noted_by asking.desk starts.0) (sym (of-append asking.desk asking.seen starts.0) ∙ ap (noted_by asking.desk) (sym starts.1) ∙ notes.others);
        seen = notes.clerk ∙ (λ i. record { desk = asking.desk; seen = starts.1 i ++ (asking.desk, one) ∷ [] });
        before = before;
        after = after;
        began = subst (λ (l : List (Note T)). Begun served begins l before) starts.1 began;
        answer = answer;
        legal = legal;
      }
