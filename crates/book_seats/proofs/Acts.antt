-- The calls that the log gained are those of the history whose number was taken, and the program entered each once.
use Rattle.std.proofs.Common.{◌≡◌, ◌≢◌, ◌⊎◌, inl, inr, ℕ, max, List, [], ◌∷◌, ◌++◌, append-nil, Option, None, Some, Result, Ok, Err, refl, sym, ap, ◌∙◌, subst}
use Rattle.std.proofs.lemmas.List.{append_assoc}
use Rattle.std.specs.List.{AllByRecursion}
use Rattle.sha1.specs.Sha1.{sha1}
use Rattle.rpcsec_bodies.specs.declared.service.Service.{Service}
use Rattle.rpc_program.specs.declared.program.Program as programs
use Rattle.accept_core.proofs.Nexts.{next-of}
use Rattle.accept_core.specs.Answers.{after, or_refused, receipt_of}
use Rattle.accept_core.specs.declared.answer.AdmitRefusal.{AdmitRefusal}
use Rattle.accept_core.specs.declared.entry.EndCause.{EndCause}
use Rattle.accept_core.specs.declared.entry.Entry.{Entry}
use Rattle.accept_core.specs.declared.entry.Entry.TheVariants.{Opened, Auth, Went, Settled, Call, Ended}
use Rattle.accept_core.specs.declared.entry.Receipt.{Receipt}
use Rattle.accept_book.proofs.LogWalk.{IsSaid, Walk, refusal-walk, negotiated-walk}
use Rattle.accept_book.specs.BookAnswers.{BookStepped, BookAdmitted}
use Rattle.accept_book.specs.Booking.{BookOf, raised, lease_refused}
use Rattle.accept_book.specs.RecordShown.{AskedStep, AskedLook, AskedAdmit, AskedEnd, with_ok}
use Rattle.accept_book.specs.declared.book_answer.Lease.{Lease}
use Rattle.accept_book.specs.declared.book_answer.NegAnswer.{NegAnswer}
use Rattle.accept_book.specs.declared.book_answer.NegAnswer.TheVariants as answers
use Rattle.accept_book.specs.declared.book_answer.Negotiated.{Negotiated}
use Rattle.gss_server.specs.Asking.{Asking}
use Rattle.gss_server.specs.Programs.{Taken}
use Rattle.book_seats.specs.Acts.{Act, calls_in, act_of, acts_in, receipts_of, IsOwnEntry, Folds, ActsOnce}
use Rattle.book_seats.specs.Both.{BothOf, BothAnswer}
use Rattle.book_seats.specs.Notes.{Noted}

-- ---- what a token makes of the calls of a log: nothing

same-calls : (entry : Entry) (old new : List Entry) → (IsSaid entry → ⊥) → calls_in new ≡ calls_in old → calls_in (entry ∷ new) ≡ calls_in old
same-calls (Opened id at) old new un e = append-nil (calls_in new) ∙ e
same-calls (Auth id mark at) old new un e = append-nil (calls_in new) ∙ e
same-calls (Went id at) old new un e = append-nil (calls_in new) ∙ e
same-calls (Settled id mech names ends at) old new un e = append-nil (calls_in new) ∙ e
same-calls (Call id seq procedure args) old new un e = absurd (un tt)
same-calls (Ended id cause) old new un e = append-nil (calls_in new) ∙ e

calls-walk : Walk (λ old new. calls_in new ≡ calls_in old)
calls-walk = record { none = λ h. refl; one = same-calls }

-- memory was wanted, or not
memory-cases : (answer : NegAnswer) → (answer ≡ answers.NoMemory) ⊎ (answer ≢ answers.NoMemory)
memory-cases (answers.Going id token) = inr (λ e. cc)
memory-cases (answers.Settled lease token) = inr (λ e. cc)
memory-cases (answers.Refused refusal) = inr (λ e. cc)
memory-cases answers.NoMemory = inl refl

step-calls : (old new : BookOf) (id : Option ℕ) (token : List ℕ) (now : ℕ) (draws : List ℕ) (answer : Negotiated) → BookStepped old new id token now draws answer → calls_in new.core.history ≡ calls_in old.core.history
step-calls old new id token now draws answer b =
    let next = next-of old.core.table (max old.core.cache.greatest now) in
    elim (memory-cases answer.answer) [
      | inl short ↦ ap calls_in (b.comes.memory short).history ∙ refusal-walk calls-walk id old.core.history
      | inr enough ↦ ap calls_in (b.comes.outcome next.0 (λ first. next.1) enough).history ∙ negotiated-walk calls-walk old.setup (raised old.core now) id next.0 token now draws
    ]

-- ---- what an admission and an end make of them

-- the receipt of a number that was taken
abbrev taken_receipt : Result Receipt AdmitRefusal → List Receipt
taken_receipt (Ok receipt) = receipt ∷ []
taken_receipt (Err refusal) = []

-- what a number that was taken, or wasn't, adds to the calls
adds : (refusal : Option AdmitRefusal) (h : List Entry) (id seq procedure : ℕ) (args : List ℕ) (given : Result Receipt AdmitRefusal) → given ≡ or_refused refusal (receipt_of h (Call id seq procedure args))
    → (new : List Entry) → new ≡ after refusal (Call id seq procedure args) h → calls_in new ≡ calls_in h ++ taken_receipt given
adds None h id seq procedure args given is new history = ap calls_in history ∙ ap (λ (g : Result Receipt AdmitRefusal). calls_in h ++ taken_receipt g) (sym is)
adds (Some refusal) h id seq procedure args given is new history = ap calls_in history ∙ sym (append-nil (calls_in h)) ∙ ap (λ (g : Result Receipt AdmitRefusal). calls_in h ++ taken_receipt g) (sym is)

end-calls : (refusal : Option AdmitRefusal) (id : ℕ) (cause : EndCause) (h : List Entry) → calls_in (after refusal (Ended id cause) h) ≡ calls_in h
end-calls None id cause h = append-nil (calls_in h)
end-calls (Some refusal) id cause h = refl

-- ---- the calls of a history

own-entry : (refusal : Option AdmitRefusal) (h : List Entry) (entry : Entry) (receipt : Receipt) → Ok receipt ≡ or_refused refusal (receipt_of h entry) → receipt.entry ≡ entry
own-entry None h entry receipt e = cc
own-entry (Some refusal) h entry receipt e = absurd cc

act-receipts : {T : Type 0} (lease : Lease) (seq : ℕ) (service : Service) (procedure : ℕ) (args : List ℕ) (answer : Result (Taken T) AdmitRefusal) (more : List (Act T))
    → taken_receipt (with_ok (λ (t : Taken T). t.0) answer) ++ receipts_of more ≡ receipts_of (act_of lease seq service procedure args answer ++ more)
act-receipts lease seq service procedure args (Ok taken) more = refl
act-receipts lease seq service procedure args (Err refusal) more = refl

own-entries : {T : Type 0} (old new : BookOf) (lease : Lease) (seq : ℕ) (service : Service) (procedure : ℕ) (args : List ℕ) (answer : Result (Taken T) AdmitRefusal) (more : List (Act T))
    → BookAdmitted old new lease seq procedure (sha1 args) (with_ok (λ (t : Taken T). t.0) answer) → AllByRecursion IsOwnEntry more → AllByRecursion IsOwnEntry (act_of lease seq service procedure args answer ++ more)
own-entries old new lease seq service procedure args (Ok taken) more b rest = (own-entry (lease_refused old.core lease seq) old.core.history (Call lease.id seq procedure (sha1 args)) taken.0 b.answer, rest)
own-entries old new lease seq service procedure args (Err refusal) more b rest = rest

-- ---- the law

module _ {P T : Type 0} (served : programs.Ghosts P T) where
  folds-from : (old middle new : P) (acts : List (Act T)) → middle ≡ old → Folds served middle acts new → Folds served old acts new
  folds-from old middle new acts e h = subst (λ (x : P). Folds served x acts new) e h

  -- a question that takes no number of a call
  unchanged : (old mid new : BothOf P) (more : List (Noted T)) → calls_in mid.book.core.history ≡ calls_in old.book.core.history → mid.program ≡ old.program → ActsOnce served mid more new → ActsOnce served old more new
  unchanged old mid new more calls program rest = record {
    log = rest.log ∙ ap (λ (l : List Receipt). l ++ receipts_of (acts_in more)) calls;
    entries = rest.entries;
    folds = folds-from old.program mid.program new.program (acts_in more) program rest.folds;
  }

  admitted-log : (old mid new : BothOf P) (lease : Lease) (seq : ℕ) (service : Service) (procedure : ℕ) (args : List ℕ) (answer : Result (Taken T) AdmitRefusal) (more : List (Noted T))
      → BookAdmitted old.book mid.book lease seq procedure (sha1 args) (with_ok (λ (t : Taken T). t.0) answer) → calls_in new.book.core.history ≡ calls_in mid.book.core.history ++ receipts_of (acts_in more)
      → calls_in new.book.core.history ≡ calls_in old.book.core.history ++ receipts_of (act_of lease seq service procedure args answer ++ acts_in more)
  admitted-log old mid new lease seq service procedure args answer more b rest =
      let h : List Entry = old.book.core.history in
      rest
      ∙ ap (λ (l : List Receipt). l ++ receipts_of (acts_in more)) (adds (lease_refused old.book.core lease seq) h lease.id seq procedure (sha1 args) (with_ok (λ (t : Taken T). t.0) answer) b.answer mid.book.core.history b.history)
      ∙ append_assoc (calls_in h) (taken_receipt (with_ok (λ (t : Taken T). t.0) answer)) (receipts_of (acts_in more))
      ∙ ap (λ (l : List Receipt). calls_in h ++ l) (act-receipts lease seq service procedure args answer (acts_in more))

  pub acts-once : (old new : BothOf P) (all : List (Noted T)) → Asking (BothAnswer served) old all new → ActsOnce served old all new
  acts-once old new [] h = record {
    log = ap (λ (b : BothOf P). calls_in b.book.core.history) h ∙ sym (append-nil (calls_in old.book.core.history));
    entries = tt;
    folds = ap (λ (b : BothOf P). b.program) h;
  }
  acts-once old new (AskedStep id token now draws answer ∷ more) h =
      let r = unchanged old h.0 new more (step-calls old.book h.0.book id token now draws answer h.1.0) h.1.1 (acts-once h.0 new more h.2) in
      record { log = r.log; entries = r.entries; folds = r.folds }
  acts-once old new (AskedLook id now answer ∷ more) h =
      let r = unchanged old h.0 new more (ap calls_in h.1.0.looked.history) h.1.1 (acts-once h.0 new more h.2) in
      record { log = r.log; entries = r.entries; folds = r.folds }
  acts-once old new (AskedEnd lease seq answer ∷ more) h =
      let r = unchanged old h.0 new more (ap calls_in h.1.0.history ∙ end-calls _ _ _ old.book.core.history) h.1.1 (acts-once h.0 new more h.2) in
      record { log = r.log; entries = r.entries; folds = r.folds }
  acts-once old new (AskedAdmit lease seq service procedure args (Ok taken) ∷ more) h =
      let rest = acts-once h.0 new more h.2 in record {
        log = admitted-log old h.0 new lease seq service procedure args (Ok taken) more h.1.0 rest.log;
        entries = own-entries old.book h.0.book lease seq service procedure args (Ok taken) (acts_in more) h.1.0 rest.entries;
        folds = (h.0.program, h.1.1, rest.folds);
      }
  acts-once old new (AskedAdmit lease seq service procedure args (Err refusal) ∷ more) h =
      let rest = acts-once h.0 new more h.2 in record {
        log = admitted-log old h.0 new lease seq service procedure args (Err refusal) more h.1.0 rest.log;
        entries = rest.entries;
        folds = folds-from old.program h.0.program new.program (acts_in more) h.1.1 rest.folds;
      }
