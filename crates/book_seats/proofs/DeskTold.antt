-- What a desk was told are its own questions of the history.
use Rattle.std.proofs.Common.{◌≡◌, ℕ, List, [], ◌∷◌, ◌++◌, append-nil, sym, ap, ◌∙◌, subst}
use Rattle.std.proofs.lemmas.List.{append_assoc}
use Rattle.accept_book.specs.RecordShown.{Asked}
use Rattle.accept_book.specs.declared.book_answer.Admitted.{Admitted}
use Rattle.gss_server.specs.Asking.{Asking}
use Rattle.rpc_program.specs.declared.program.Program as programs
use Rattle.rpc_program.specs.declared.program.Speller as spellers
use Rattle.book_seats.specs.Both.{BothOf}
use Rattle.book_seats.specs.Notes.{Note, Noted, noted_by}
use Rattle.book_seats.specs.Views.{ClerkOf}
use Rattle.book_seats.specs.Telling.{AtSeat, DeskTold, Answers}
use Rattle.book_seats.proofs.Moves.{of-append, of-own}

-- one question more of a desk, after what others asked
pub noted-own : {T : Type 0} (desk : ℕ) (seen between : List (Note T)) (one : Noted T) → noted_by desk between ≡ [] → noted_by desk ((seen ++ between) ++ (desk, one) ∷ []) ≡ noted_by desk seen ++ one ∷ []
noted-own {T} desk seen between one others =
    of-append desk (seen ++ between) ((desk, one) ∷ [])
    ∙ (λ i. of-append desk seen between i ++ of-own desk one i)
    ∙ ap (λ (l : List (Noted T)). (noted_by desk seen ++ l) ++ one ∷ []) others
    ∙ ap (λ (l : List (Noted T)). l ++ one ∷ []) (append-nil (noted_by desk seen))

module _ {P T S : Type 0} (served : programs.Ghosts P T) (spelling : spellers.Ghosts S T) (begins : BothOf P → Type 0) where
  pub desk-told : (old new : AtSeat T S) (asked : List (Asked Admitted)) → Asking (Answers served spelling begins) old asked new → DeskTold spelling old asked new
  desk-told old new [] h = record {
    noted = [];
    desk = ap (λ (s : AtSeat T S). s.clerk.desk) h;
    own = ap (λ (s : AtSeat T S). noted_by old.clerk.desk s.clerk.seen) h ∙ sym (append-nil (noted_by old.clerk.desk old.clerk.seen));
    told = ap (λ (s : AtSeat T S). s.speller) h;
  }
  desk-told old new (one ∷ more) h =
      let a = h.1.asked in
      let d : ℕ = old.clerk.desk in
      let desk = ap (λ (c : ClerkOf T). c.desk) a.seen in
      let rest = desk-told h.0 new more h.2 in record {
        noted = h.1.noted ∷ rest.noted;
        desk = rest.desk ∙ desk;
        own = subst (λ (k : ℕ). noted_by k new.clerk.seen ≡ noted_by k h.0.clerk.seen ++ rest.noted) desk rest.own
            ∙ ap (λ (c : ClerkOf T). noted_by d c.seen ++ rest.noted) a.seen
            ∙ ap (λ (l : List (Noted T)). l ++ rest.noted) (noted-own d old.clerk.seen a.between h.1.noted a.others)
            ∙ append_assoc (noted_by d old.clerk.seen) (h.1.noted ∷ []) rest.noted;
        told = (h.0.speller, h.1.told, rest.told);
      }
