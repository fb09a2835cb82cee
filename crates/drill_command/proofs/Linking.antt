-- A link over a book with the program of posts: what was asked along it.
use Rattle.std.proofs.Common.{◌≡◌, ◌∙◌, ℕ, sym, subst, List, [], ◌∷◌, ap}
use Rattle.posts_program.specs.Posts.{posts_says}
use Rattle.posts_program.specs.declared.posts.Posts.{Posts}
use Rattle.accept_book.specs.Booking.{BookOf}
use Rattle.accept_book.specs.RecordShown.{Asked, booked}
use Rattle.accept_book.specs.declared.book_answer.Admitted.{Admitted}
use Rattle.gss_server.specs.Asking.{Asking}
use Rattle.gss_server.specs.Programs.{OwnAnswers}
use Rattle.gate_models.specs.Looping.{Since}
use Rattle.drill_plan.specs.Limits.{book_limits}
use Rattle.pair_laws.specs.Answering.{AnswersBy}
use Rattle.pair_laws.specs.Posts.{posts_in, posts_server}
use Rattle.drill_command.proofs.Limits.{asked-one}
use Rattle.drill_command.specs.Served.{PostsEnters, PostsSpells}
use Rattle.drill_command.proofs.Counting.{Stays, posts-step}

-- what was asked of a state in which there are a book, the program and who spells its results
pub record Linked (width : ℕ) (old new : BookOf) (p q : Posts) (asked : List (Asked Admitted)) : Type 0 where
  pub limits : book_limits new ≡ book_limits old
  pub counted : p.posts ≡ posts_in old.core.history → q.posts ≡ posts_in new.core.history
  pub by : p.posts ≡ posts_in old.core.history → Asking (AnswersBy (posts_server width)) old asked new

pub linked : {G S : Type 0} (width : ℕ) (Answers : G → Asked Admitted → G → Type 0) (seat : G → BookOf) (posts : G → Posts) (speller : G → S) → ((old new : G) (one : Asked Admitted) → Answers old one new → OwnAnswers posts_says PostsEnters PostsSpells (seat old) (seat new) (posts old) (posts new) (speller old) (speller new) one)
    → (old new : G) (asked : List (Asked Admitted)) → Asking Answers old asked new → Linked width (seat old) (seat new) (posts old) (posts new) asked
linked {G} width Answers seat posts speller own old new [] e = record {
  limits = ap (λ (g : G). book_limits (seat g)) e;
  counted = λ c. subst (λ (g : G). (posts g).posts ≡ posts_in (seat g).core.history) (sym e) c;
  by = λ c. ap seat e;
}
linked width Answers seat posts speller own old new (one ∷ more) a =
    let first = own old a.0 one a.1 in
    let rest = linked width Answers seat posts speller own a.0 new more a.2 in
    let step : (posts old).posts ≡ posts_in (seat old).core.history → Stays width (seat old) one (seat a.0) (posts a.0) = λ c. posts-step width (seat old) (seat a.0) (posts old) (posts a.0) (speller old) (speller a.0) one first c in
    record {
      limits = rest.limits ∙ asked-one (seat old) (seat a.0) (booked one) first.book;
      counted = λ c. rest.counted (step c).counted;
      by = λ c. (seat a.0, (step c).by, rest.by (step c).counted);
    }

pub linked-since : {G S : Type 0} (width : ℕ) (Answers : G → Asked Admitted → G → Type 0) (seat : G → BookOf) (posts : G → Posts) (speller : G → S) → ((old new : G) (one : Asked Admitted) → Answers old one new → OwnAnswers posts_says PostsEnters PostsSpells (seat old) (seat new) (posts old) (posts new) (speller old) (speller new) one)
    → (old new : G) (asked : List (Asked Admitted)) → Since (λ g. g ≡ old) Answers new asked → Linked width (seat old) (seat new) (posts old) (posts new) asked
linked-since {G} width Answers seat posts speller own old new asked s =
    linked width Answers seat posts speller own old new asked (subst (λ (g : G). Asking Answers g asked new) s.1 s.2)

-- what such questions leave, whichever they are
pub record Left (old new : BookOf) (p q : Posts) : Type 0 where
  pub limits : book_limits new ≡ book_limits old
  pub counted : p.posts ≡ posts_in old.core.history → q.posts ≡ posts_in new.core.history

pub left-since : {G S : Type 0} (width : ℕ) (Answers : G → Asked Admitted → G → Type 0) (seat : G → BookOf) (posts : G → Posts) (speller : G → S) → ((old new : G) (one : Asked Admitted) → Answers old one new → OwnAnswers posts_says PostsEnters PostsSpells (seat old) (seat new) (posts old) (posts new) (speller old) (speller new) one)
    → (old new : G) (asked : List (Asked Admitted)) → Since (λ g. g ≡ old) Answers new asked → Left (seat old) (seat new) (posts old) (posts new)
left-since width Answers seat posts speller own old new asked s =
    let l = linked-since width Answers seat posts speller own old new asked s in record { limits = l.limits; counted = l.counted }
