-- A book with the program of posts: its results are by its log, and its count is that of the log.
use Rattle.std.proofs.Common.{◌≡◌, ◌≢◌, ◌⊎◌, inl, inr, ◌∙◌, ℕ, max, true, false, refl, sym, ap, subst, List, ◌∷◌, Option, Some, None, Result, Ok, Err}
use Rattle.sha1.specs.Sha1.{sha1}
use Rattle.rpc_msgs.proofs.XdrLaws.{ok_is}
use Rattle.rpcsec_bodies.specs.declared.service.Service.{Service}
use Rattle.rpc_program.specs.Programs.{CallerOf, Gives, NONE}
use Rattle.rpc_program.specs.declared.outcome.Outcome.{Outcome as CallOutcome}
use Rattle.rpc_program.specs.declared.program.Fault.{Fault}
use Rattle.posts_program.specs.Posts.{posts_says, posts_after, result_of}
use Rattle.posts_program.specs.declared.posts.Posts.{Posts}
use Rattle.accept_core.proofs.Nexts.{next-of}
use Rattle.accept_core.specs.Answers.{or_refused, after}
use Rattle.accept_core.specs.declared.answer.AdmitRefusal.{AdmitRefusal}
use Rattle.accept_core.specs.declared.entry.EndCause.{EndCause}
use Rattle.accept_core.specs.declared.entry.Entry.{Entry}
use Rattle.accept_core.specs.declared.entry.Entry.TheVariants.{Opened, Auth, Went, Settled, Call, Ended}
use Rattle.accept_core.specs.declared.entry.Receipt.{Receipt}
use Rattle.accept_book.proofs.LogWalk.{IsSaid, Walk, refusal-walk, negotiated-walk}
use Rattle.accept_book.specs.BookAnswers.{BookStepped}
use Rattle.accept_book.specs.Booking.{BookOf, raised, lease_refused}
use Rattle.accept_book.specs.RecordShown.{Asked, AskedStep, AskedLook, AskedAdmit, AskedEnd}
use Rattle.accept_book.specs.declared.book_answer.Admitted.{Admitted}
use Rattle.accept_book.specs.declared.book_answer.Lease.{Lease}
use Rattle.accept_book.specs.declared.book_answer.NegAnswer.{NegAnswer}
use Rattle.accept_book.specs.declared.book_answer.NegAnswer.TheVariants as answers
use Rattle.accept_book.specs.declared.book_answer.Negotiated.{Negotiated}
use Rattle.gss_server.specs.Programs.{OwnAnswers, Enters, Spelt, EntersTaken, SpeltTaken, Taken, caller_of_lease}
use Rattle.pair_laws.specs.Answering.{AnswersBy}
use Rattle.drill_command.specs.Served.{PostsEnters, PostsSpells}
use Rattle.pair_laws.specs.Posts.{posts_in, posts_server}

-- ---- what a token and an end make of the count: nothing

same-posts : (entry : Entry) (old new : List Entry) → (IsSaid entry → ⊥) → posts_in new ≡ posts_in old → posts_in (entry ∷ new) ≡ posts_in old
same-posts (Opened id at) old new un e = e
same-posts (Auth id mark at) old new un e = e
same-posts (Went id at) old new un e = e
same-posts (Settled id mech names ends at) old new un e = e
same-posts (Call id seq procedure args) old new un e = absurd (un tt)
same-posts (Ended id cause) old new un e = e

posts-walk : Walk (λ old new. posts_in new ≡ posts_in old)
posts-walk = record { none = λ h. refl; one = same-posts }

-- memory was wanted, or not
memory-cases : (answer : NegAnswer) → (answer ≡ answers.NoMemory) ⊎ (answer ≢ answers.NoMemory)
memory-cases (answers.Going id token) = inr (λ e. cc)
memory-cases (answers.Settled lease token) = inr (λ e. cc)
memory-cases (answers.Refused refusal) = inr (λ e. cc)
memory-cases answers.NoMemory = inl refl

step-posts : (old new : BookOf) (id : Option ℕ) (token : List ℕ) (now : ℕ) (draws : List ℕ) (answer : Negotiated) → BookStepped old new id token now draws answer → posts_in new.core.history ≡ posts_in old.core.history
step-posts old new id token now draws answer b =
    let next = next-of old.core.table (max old.core.cache.greatest now) in
    elim (memory-cases answer.answer) [
      | inl short ↦ ap posts_in (b.comes.memory short).history ∙ refusal-walk posts-walk id old.core.history
      | inr enough ↦ ap posts_in (b.comes.outcome next.0 (λ first. next.1) enough).history ∙ negotiated-walk posts-walk old.setup (raised old.core now) id next.0 token now draws
    ]

end-posts : (refusal : Option AdmitRefusal) (id : ℕ) (cause : EndCause) (h : List Entry) → posts_in (after refusal (Ended id cause) h) ≡ posts_in h
end-posts None id cause h = refl
end-posts (Some refusal) id cause h = refl

-- ---- an admission

taken-after : (refusal : Option AdmitRefusal) (receipt given : Receipt) (entry : Entry) (h : List Entry) → Ok given ≡ or_refused refusal receipt → after refusal entry h ≡ entry ∷ h
taken-after None receipt given entry h e = refl
taken-after (Some refusal) receipt given entry h e = absurd (let no : Ok given ≡ Err refusal = e in cc)

-- the count and the outcome behind an admitted call
record Counted (p q : Posts) (name : List ℕ) (procedure : ℕ) (args : List ℕ) (outcome : CallOutcome) : Type 0 where
  count : q.posts ≡ posts_after p.posts procedure
  came : posts_says.has procedure ≡ true → Gives args (result_of procedure args name (posts_after p.posts procedure)) outcome

unserved : (procedure : ℕ) → procedure ≡ NONE → posts_says.has procedure ≡ true → ⊥
unserved procedure e has = let no : posts_says.has NONE ≡ true = subst (λ (n : ℕ). posts_says.has n ≡ true) e has in let f : false ≡ true = no in cc

by-entered : {S : Type 0} (p q : Posts) (s t : S) (caller : CallerOf) (procedure : ℕ) (args : List ℕ) (entered : Option (Result ℕ Fault)) (outcome : CallOutcome) → Enters posts_says PostsEnters p caller procedure args entered q → Spelt PostsSpells s caller procedure args entered outcome t → Counted p q caller.name procedure args outcome
by-entered p q s t caller procedure args (Some (Ok ticket)) outcome e d =
    let same : ticket ≡ posts_after p.posts procedure = ok_is {E = Fault} ticket q.posts e.gives.0 ∙ e.gives.1 in
    record { count = e.gives.1; came = λ has. subst (λ (n : ℕ). Gives args (result_of procedure args caller.name n) outcome) same d.0 }
by-entered p q s t caller procedure args (Some (Err fault)) outcome e d = absurd (let no : Err fault ≡ Ok q.posts = e.gives.0 in cc)
by-entered p q s t caller procedure args None outcome e d = record {
  count = ap (λ (x : Posts). x.posts) e.1 ∙ subst (λ (n : ℕ). p.posts ≡ posts_after p.posts n) (sym e.0) refl;
  came = λ has. absurd (unserved procedure e.0 has);
}

by-taken : {S : Type 0} (p q : Posts) (s t : S) (lease : Lease) (service : Service) (procedure : ℕ) (args : List ℕ) (taken : Result (Taken ℕ) AdmitRefusal) (admitted : Admitted) → EntersTaken posts_says PostsEnters p lease service procedure args taken q → SpeltTaken PostsSpells s lease service procedure args taken (Ok admitted) t
    → Counted p q lease.outcome.initiator procedure args admitted.outcome
by-taken p q s t lease service procedure args (Ok taken) admitted e d = by-entered p q s t (caller_of_lease lease service taken.0.place) procedure args taken.1 admitted.outcome e d.1
by-taken p q s t lease service procedure args (Err refusal) admitted e d = absurd d

by-refused : {S : Type 0} (p q : Posts) (s t : S) (lease : Lease) (service : Service) (procedure : ℕ) (args : List ℕ) (taken : Result (Taken ℕ) AdmitRefusal) (refusal : AdmitRefusal) → EntersTaken posts_says PostsEnters p lease service procedure args taken q → SpeltTaken PostsSpells s lease service procedure args taken (Err refusal) t → q ≡ p
by-refused p q s t lease service procedure args (Ok taken) refusal e d = absurd d
by-refused p q s t lease service procedure args (Err other) refusal e d = e

-- ---- one question

-- the answer is by the log, and the count stays the log's
pub record Stays (width : ℕ) (old : BookOf) (asked : Asked Admitted) (new : BookOf) (q : Posts) : Type 0 where
  pub by : AnswersBy (posts_server width) old asked new
  pub counted : q.posts ≡ posts_in new.core.history

pub posts-step : {S : Type 0} (width : ℕ) (old new : BookOf) (p q : Posts) (s t : S) (asked : Asked Admitted) → OwnAnswers posts_says PostsEnters PostsSpells old new p q s t asked → p.posts ≡ posts_in old.core.history → Stays width old asked new q
posts-step width old new p q s t (AskedStep id token now draws answer) a e =
    record { by = record { book = a.book; came = tt }; counted = ap (λ (x : Posts). x.posts) a.acts.0 ∙ (e ∙ sym (step-posts old new id token now draws answer a.book)) }
posts-step width old new p q s t (AskedLook id now answer) a e =
    record { by = record { book = a.book; came = tt }; counted = ap (λ (x : Posts). x.posts) a.acts.0 ∙ (e ∙ sym (ap posts_in a.book.looked.history)) }
posts-step width old new p q s t (AskedAdmit lease seq service procedure args (Ok admitted)) a e =
    let c = by-taken p q s t lease service procedure args a.acts.0 admitted a.acts.1 a.acts.2 in
    let entry : Entry = Call lease.id seq procedure (sha1 args) in
    let history : new.core.history ≡ entry ∷ old.core.history = a.book.history ∙ taken-after (lease_refused old.core lease seq) _ admitted.receipt entry old.core.history a.book.answer in
    let count : posts_after p.posts procedure ≡ posts_in new.core.history = ap (λ (n : ℕ). posts_after n procedure) e ∙ sym (ap posts_in history) in
    record {
      by = record { book = a.book; came = λ has. subst (λ (n : ℕ). Gives args (result_of procedure args lease.outcome.initiator n) admitted.outcome) count (c.came has) };
      counted = c.count ∙ count;
    }
posts-step width old new p q s t (AskedAdmit lease seq service procedure args (Err refusal)) a e =
    let same : q ≡ p = by-refused p q s t lease service procedure args a.acts.0 refusal a.acts.1 a.acts.2 in
    record { by = record { book = a.book; came = tt }; counted = ap (λ (x : Posts). x.posts) same ∙ (e ∙ sym (ap (λ (b : BookOf). posts_in b.core.history) a.book.unchanged)) }
posts-step width old new p q s t (AskedEnd lease seq answer) a e =
    record { by = record { book = a.book; came = tt }; counted = ap (λ (x : Posts). x.posts) a.acts.0 ∙ (e ∙ sym (ap posts_in a.book.history ∙ end-posts (lease_refused old.core lease seq) lease.id _ old.core.history)) }
