-- A seat's answers are seen.
use Rattle.std.proofs.Common.{◌≡◌, ℕ, map, List, [], ◌∷◌, ◌++◌, append-nil, append_assoc, refl, sym, ap, ◌∙◌, subst}
use Rattle.std.proofs.lemmas.List.{map-append}
use Rattle.accept_core.specs.declared.entry.Receipt.{Receipt}
use Rattle.accept_book.specs.Booking.{BookOf}
use Rattle.accept_book.specs.declared.book_answer.Admitted.{Admitted}
use Rattle.accept_book.specs.RecordShown.{Asked, booked}
use Rattle.rpc_program.specs.declared.program.Program as programs
use Rattle.rpc_program.specs.declared.program.Speller as spellers
use Rattle.gss_server.specs.Asking.{Asking, BookAnswers}
use Rattle.gss_server.specs.Telling.{limits_of}
use Rattle.book_seats.specs.Both.{BothOf}
use Rattle.book_seats.specs.Histories.{AnsweredBy}
use Rattle.book_seats.specs.Notes.{Note, Noted, receipted, noted_by, noted_in, asked_by, questions_of}
use Rattle.book_seats.specs.Telling.{AtSeat, Answers}
use Rattle.book_seats.specs.Views.{ClerkOf}
use Rattle.book_seats.proofs.Books.{books-asked, told-booked}
use Rattle.book_seats.proofs.Moves.{of-append, of-own}
use Rattle.history_laws.specs.Before.{before_of}
use Rattle.history_laws.specs.Seen.{Seen}
use Rattle.history_laws.proofs.Chain.{seen-law}
use Rattle.gate_laws.specs.GateSeen.{OwnOf, OwnSays, BeginsEmpty, SeatSees}

-- ---- lists of questions

asking-more : (xs : List (Asked Receipt)) (x : Asked Receipt) (s m t : BookOf) → Asking BookAnswers s xs m → BookAnswers m x t → Asking BookAnswers s (xs ++ x ∷ []) t
asking-more [] x s m t h a = (t, subst (λ (r : BookOf). BookAnswers r x t) h a, refl)
asking-more (y ∷ ys) x s m t h a = (h.0, h.1, asking-more ys x h.0 m t h.2 a)

-- what a desk asked the book
by-append : {T : Type 0} (desk : ℕ) (xs ys : List (Note T)) → asked_by desk (xs ++ ys) ≡ asked_by desk xs ++ asked_by desk ys
by-append desk xs ys = ap (λ (l : List (Noted _)). map receipted l) (of-append desk xs ys) ∙ map-append receipted (noted_by desk xs) (noted_by desk ys)

by-own : {T : Type 0} (desk : ℕ) (one : Noted T) → asked_by desk ((desk, one) ∷ []) ≡ receipted one ∷ []
by-own desk one = ap (λ (l : List (Noted _)). map receipted l) (of-own desk one)

-- ---- a seat's answers

-- the first answer
seen-one : {P T : Type 0} (served : programs.Ghosts P T) (begins : BothOf P → Type 0) (old : ClerkOf T) (noted : Noted T) (one : Asked Admitted) (new : ClerkOf T) → BeginsEmpty begins → booked one ≡ receipted noted → AnsweredBy served begins old noted new → SeatSees begins old [] one
seen-one {P} {T} served begins old noted one new empty same a =
    let first : BothOf P = a.began.0 in
    let all : List (Note T) = old.seen ++ a.between in
    let asked : List (Asked Receipt) = questions_of all in
    let chain : Asking BookAnswers first.book asked a.before.book = books-asked served (noted_in all) first a.before a.began.2 in record {
      first = first;
      began = a.began.1;
      all = all;
      longer = (a.between, refl);
      own = by-append old.desk old.seen a.between ∙ ap (λ (l : List (Noted T)). asked_by old.desk old.seen ++ map receipted l) a.others;
      seen = subst (λ (q : Asked Receipt). Seen (before_of first.book.setup (limits_of first.book.core) first.book.core.cache.greatest asked) q) (sym same)
          (seen-law first.book a.after.book (asked ++ receipted noted ∷ []) (empty first a.began.1) (asking-more asked (receipted noted) first.book a.before.book a.after.book chain a.answer.0) a.legal asked (receipted noted) [] refl);
    }

-- those behind it, as they are seen before it
seen-behind : {P T : Type 0} (served : programs.Ghosts P T) (begins : BothOf P → Type 0) (old : ClerkOf T) (noted : Noted T) (one : Asked Admitted) (new : ClerkOf T) (earlier : List (Asked Admitted)) (next : Asked Admitted) → booked one ≡ receipted noted → AnsweredBy served begins old noted new → SeatSees begins new earlier next → SeatSees begins old (one ∷ earlier) next
seen-behind {P} {T} served begins old noted one new earlier next same a s =
    let seen : new.seen ≡ (old.seen ++ a.between) ++ (old.desk, noted) ∷ [] = ap (λ (c : ClerkOf T). c.seen) a.seen in
    let asked : asked_by old.desk ((old.seen ++ a.between) ++ (old.desk, noted) ∷ []) ≡ asked_by old.desk old.seen ++ booked one ∷ [] =
    by-append old.desk (old.seen ++ a.between) ((old.desk, noted) ∷ [])
    ∙ (λ i. (by-append old.desk old.seen a.between ∙ ap (λ (l : List (Noted T)). asked_by old.desk old.seen ++ map receipted l) a.others ∙ append-nil (asked_by old.desk old.seen)) i ++ (by-own old.desk noted ∙ ap (λ (q : Asked Receipt). q ∷ []) (sym same)) i) in
    let own : asked_by old.desk s.all ≡ asked_by old.desk ((old.seen ++ a.between) ++ (old.desk, noted) ∷ []) ++ map booked earlier =
    subst (λ (c : ClerkOf T). asked_by c.desk s.all ≡ asked_by c.desk c.seen ++ map booked earlier) a.seen s.own in record {
      first = s.first;
      began = s.began;
      all = s.all;
      longer = (
        (a.between ++ (old.desk, noted) ∷ []) ++ s.longer.0,
        s.longer.1 ∙ ap (λ (l : List (Note T)). l ++ s.longer.0) (seen ∙ append_assoc old.seen a.between ((old.desk, noted) ∷ [])) ∙ append_assoc old.seen (a.between ++ (old.desk, noted) ∷ []) s.longer.0,
      );
      own = own ∙ ap (λ (l : List (Asked Receipt)). l ++ map booked earlier) asked ∙ append_assoc (asked_by old.desk old.seen) (booked one ∷ []) (map booked earlier);
      seen = s.seen;
    }

seen-in : {P T S : Type 0} (served : programs.Ghosts P T) (spelling : spellers.Ghosts S T) (begins : BothOf P → Type 0) (old new : AtSeat T S) → BeginsEmpty begins → (earlier : List (Asked Admitted)) (one : Asked Admitted) (later : List (Asked Admitted))
    → Asking (Answers served spelling begins) old (earlier ++ one ∷ later) new → SeatSees begins old.clerk earlier one
seen-in served spelling begins old new empty [] one later a =
    let same = told-booked spelling a.1.noted one old.speller a.0.speller a.1.told in seen-one served begins old.clerk a.1.noted one a.0.clerk empty same a.1.asked
seen-in served spelling begins old new empty (first ∷ earlier) one later a =
    let same = told-booked spelling a.1.noted first old.speller a.0.speller a.1.told in
    seen-behind served begins old.clerk a.1.noted first a.0.clerk earlier one same a.1.asked (seen-in served spelling begins a.0 new empty earlier one later a.2)

pub seats-see : {P T S : Type 0} (served : programs.Ghosts P T) (spelling : spellers.Ghosts S T) (begins : BothOf P → Type 0) (old new : AtSeat T S) (asked : List (Asked Admitted)) → BeginsEmpty begins → Asking (Answers served spelling begins) old asked new
    → (earlier : List (Asked Admitted)) (one : Asked Admitted) (later : List (Asked Admitted)) → asked ≡ earlier ++ one ∷ later → SeatSees begins old.clerk earlier one
seats-see served spelling begins old new asked empty a earlier one later is =
    seen-in served spelling begins old new empty earlier one later (subst (λ (l : List (Asked Admitted)). Asking (Answers served spelling begins) old l new) is a)

-- ---- a gate of one owner

pub own-books : {P T S : Type 0} (served : programs.Ghosts P T) (spelling : spellers.Ghosts S T) (asked : List (Asked Admitted)) (old new : OwnOf P S) → Asking (OwnSays served spelling) old asked new → Asking BookAnswers old.book (map booked asked) new.book
own-books served spelling [] old new a = ap (λ (o : OwnOf _ _). o.book) a
own-books served spelling (one ∷ more) old new a = (a.0.book, a.1.book, own-books served spelling more a.0 new a.2)
