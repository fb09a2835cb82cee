-- A book that has places for a token of a creation books it.
use Rattle.std.proofs.Common.{◌≡◌, ◌≢◌, ◌∙◌, ℕ, ◌<◌, ◌^◌, refl, ap, sym, subst, arith, List, [], ◌∷◌, take, Option, Some, None}
use Rattle.std.specs.Prelude.{IfSome}
use Rattle.gss_client.specs.declared.terms.Terms.{Terms}
use Rattle.accept_book.specs.Booking.{BookOf}
use Rattle.accept_book.specs.BookAnswers.{BookStepped}
use Rattle.accept_book.specs.RecordRule.{record_ruling, ask_step, stepped}
use Rattle.accept_book.specs.RecordShown.{KeptAnswers, Shown, Ruling, Asked, AskedStep, asking}
use Rattle.accept_book.specs.declared.book_answer.Admitted.{Admitted}
use Rattle.accept_book.specs.declared.book_answer.BookRefusal.TheVariants as books
use Rattle.accept_book.specs.declared.book_answer.NegAnswer.{NegAnswer}
use Rattle.accept_book.specs.declared.book_answer.NegAnswer.TheVariants as steps
use Rattle.accept_book.specs.declared.book_answer.Negotiated.{Negotiated}
use Rattle.gss_client.specs.Calling.{creation_call}
use Rattle.gss_server.specs.Answers.{IsDecided}
use Rattle.gss_server.specs.Asking.{Asking}
use Rattle.pair_laws.specs.Answering.{Server, AnswersBy}
use Rattle.pair_laws.specs.HonestCalls.{IsToServer}
use Rattle.pair_laws.specs.Booked.{IsBooked}
use Rattle.pair_laws.specs.Opening.{creation_of, FitsCreation, HasPlaces, IsStepped}
use Rattle.pair_laws.proofs.Ruling.{proc_for, handle_for, IsId, creation_shown, asks}

pub same-call : (terms : Terms) (xid : ℕ) (id : Option ℕ) (token : List ℕ) → creation_of terms xid id token ≡ creation_call terms xid (proc_for id) (handle_for id) token
same-call terms xid None token = refl
same-call terms xid (Some id) token = refl

is-id : (id : Option ℕ) → IfSome id (λ number. number < 2 ^ 64) → IsId id
is-id None h = tt
is-id (Some id) h = h

-- behind the step nothing more is asked
asks-once : (s : Shown) (answer : NegAnswer) → (stepped s answer).asked ≡ []
asks-once s (steps.Going id token) = refl
asks-once s (steps.Settled lease token) = refl
asks-once s (steps.Refused books.NoContext) = refl
asks-once s (steps.Refused books.AlreadyComplete) = refl
asks-once s (steps.Refused books.LogFull) = refl
asks-once s (steps.Refused books.TableFull) = refl
asks-once s (steps.Refused (books.Neg refusal)) = refl
asks-once s (steps.Refused (books.Stale greatest)) = refl
asks-once s (steps.Refused (books.Repeat place)) = refl
asks-once s (steps.Refused books.CacheFull) = refl
asks-once s (steps.Refused books.Journal) = refl
asks-once s steps.NoMemory = refl

undecided-none : (s : Shown) (id : Option ℕ) (token : List ℕ) (now : ℕ) (drawn : List ℕ) (answer : Negotiated) → IsDecided (asking (AskedStep id token now drawn answer) (stepped s steps.NoMemory)) → ⊥
undecided-none s id token now drawn answer d = omega (arith, d)

-- what the book answered to the token, and what it comes to
pub record AnsweredStep (serves : Server) (id : Option ℕ) (token octets : List ℕ) (kept : KeptAnswers) (old new : BookOf) : Type 0 where
  pub answer : Negotiated
  pub is_kept : kept.negotiated ≡ Some answer
  pub asked : (record_ruling octets kept serves.serving).asked ≡ AskedStep id token kept.now (take 66 kept.draws) answer ∷ []
  pub stepped : BookStepped old new id token kept.now (take 66 kept.draws) answer
  pub some : answer.answer ≢ steps.NoMemory

pub answered-step : (terms : Terms) (xid : ℕ) (serves : Server) (id : Option ℕ) (token : List ℕ) (kept : KeptAnswers) (old new : BookOf) → IsToServer serves.serving.program terms → FitsCreation xid id token → IsDecided (record_ruling (creation_of terms xid id token) kept serves.serving)
    → Asking (AnswersBy serves) old (record_ruling (creation_of terms xid id token) kept serves.serving).asked new → AnsweredStep serves id token (creation_of terms xid id token) kept old new
answered-step terms xid serves id token kept old new called f decided put = by-kept kept.negotiated refl
  where
    shown : Shown
    shown = creation_shown terms xid id token kept serves

    octets : List ℕ
    octets = creation_of terms xid id token

    drawn : List ℕ
    drawn = take 66 kept.draws

    ruled : record_ruling octets kept serves.serving ≡ ask_step shown id token kept.negotiated
    ruled = ap (λ (o : List ℕ). record_ruling o kept serves.serving) (same-call terms xid id token) ∙ asks terms xid id token kept serves called f.xid_fits (is-id id f.id_fits) f.size

    by-kept : (found : Option Negotiated) → kept.negotiated ≡ found → AnsweredStep serves id token octets kept old new
    by-kept None e =
        let d : IsDecided (ask_step shown id token None) = subst IsDecided (ruled ∙ ap (λ (n : Option Negotiated). ask_step shown id token n) e) decided in
        absurd (omega (arith, d))
    by-kept (Some answer) e =
        let r : record_ruling octets kept serves.serving ≡ asking (AskedStep id token kept.now drawn answer) (stepped shown answer.answer) = ruled ∙ ap (λ (n : Option Negotiated). ask_step shown id token n) e in
        let one : (record_ruling octets kept serves.serving).asked ≡ AskedStep id token kept.now drawn answer ∷ [] = ap (λ (x : Ruling). x.asked) r ∙ ap (λ (zs : List (Asked Admitted)). AskedStep id token kept.now drawn answer ∷ zs) (asks-once shown answer.answer) in
        let c : Asking (AnswersBy serves) old (AskedStep id token kept.now drawn answer ∷ []) new = subst (λ (zs : List (Asked Admitted)). Asking (AnswersBy serves) old zs new) one put in
        let due : IsDecided (asking (AskedStep id token kept.now drawn answer) (stepped shown answer.answer)) = subst IsDecided r decided in
        record {
          answer = answer;
          is_kept = e;
          asked = one;
          stepped = subst (λ (m : BookOf). BookStepped old m id token kept.now drawn answer) (sym c.2) c.1.book;
          some = λ none. undecided-none shown id token kept.now drawn answer (subst (λ (a : NegAnswer). IsDecided (asking (AskedStep id token kept.now drawn answer) (stepped shown a))) none due);
        }

pub step-turn : (terms : Terms) (xid : ℕ) (serves : Server) (id : Option ℕ) (token : List ℕ) (kept : KeptAnswers) (old new : BookOf) → IsToServer serves.serving.program terms → FitsCreation xid id token → IsStepped serves (creation_of terms xid id token) kept old new → HasPlaces old.setup old.core id token kept
    → IsBooked old.setup serves (creation_of terms xid id token) kept (record { before = old.core; after = new.core })
step-turn terms xid serves id token kept old new called f s p =
    let a = answered-step terms xid serves id token kept old new called f s.decided s.asked in
    let o = a.stepped.comes.outcome p.past p.is_past a.some in record {
      id = id;
      token = token;
      answer = a.answer;
      asked = a.asked;
      past = p.past;
      is_past = p.is_past;
      answered = o.answer;
      history = o.history;
      contexts = o.contexts;
      size = s.size a.answer a.is_kept;
      log = p.log;
      table = p.table;
      mark = p.mark;
    }
