-- A call of a session over a book: by what the book was asked, the context was shown and the next number admitted.
use Rattle.std.proofs.Common.{◌≡◌, ◌∙◌, ◌<◌, ◌≤◌, ◌+◌, ℕ, true, false, List, [], ◌∷◌, length, Option, Some, None, Result, Ok, Err, refl, sym, ap, subst, arith}
use Rattle.std.specs.Prelude.{◌==◌, ◌≢◌}
use Rattle.sha1.specs.Sha1.{sha1}
use Rattle.krb_derive.specs.declared.sealing.SealKeys.{SealKeys}
use Rattle.krb_derive.specs.Kept.{ForSealing}
use Rattle.rpc_msgs.specs.Calls.{CallValue}
use Rattle.rpc_msgs.proofs.XdrLaws.{ok_is}
use Rattle.rpcsec_bodies.specs.Service.{service_of}
use Rattle.accept_core.specs.Answers.{receipt_of}
use Rattle.context_table.specs.Places.{KeepsOthers}
use Rattle.accept_book.specs.Booking.{BookOf, NotesMoment}
use Rattle.accept_book.specs.Honest.{Honest, caller_of}
use Rattle.accept_book.specs.RecordShown.{KeptAnswers, Asked, AskedLook, AskedAdmit, Ruling, Shown, asking, body_args, end_of, handle_id}
use Rattle.accept_book.specs.RecordRule.{record_ruling, call_ruling, ask_look, ask_admit, looked_ruling}
use Rattle.accept_core.specs.declared.answer.AdmitRefusal.{AdmitRefusal}
use Rattle.accept_core.specs.declared.answer.LookRefusal.{LookRefusal}
use Rattle.accept_book.specs.declared.book_answer.Lease.{Lease}
use Rattle.accept_book.specs.declared.book_answer.Admitted.{Admitted}
use Rattle.accept_core.specs.declared.entry.Entry.{Entry}
use Rattle.accept_core.specs.declared.entry.Entry.TheVariants.{Call}
use Rattle.accept_book.proofs.HonestRecords.{shown_by, body-carried, honest-ruling, honest-ruled}
use Rattle.gss_server.specs.Answers.{IsDecided}
use Rattle.rpc_program.specs.Programs.{Gives, result_in}
use Rattle.rpc_program.specs.declared.outcome.Outcome.{Outcome as CallOutcome}
use Rattle.rpc_program.specs.declared.outcome.Outcome.TheVariants as outcomes
use Rattle.gss_server.specs.Asking.{Asking}
use Rattle.pair_laws.specs.Answering.{Server, AnswersBy}
use Rattle.pair_laws.specs.Live.{IsLiveAt}
use Rattle.pair_laws.specs.Turns.{IsAnsweredBy, IsCallTurn}
use Rattle.pair_laws.proofs.Living.{seen, called, others-kept, moment-noted}

abbrev shown_of : List ℕ → KeptAnswers → Server → CallValue → Shown
shown_of octets kept serves call = record { record_octets = octets; call = call; now = kept.now; draws = kept.draws; serves = serves.serving }

-- an outcome that is a result, where memory wasn't wanted for it
came-to : (args result : List ℕ) (outcome : CallOutcome) → Gives args result outcome → outcome ≢ outcomes.NoMemory → result_in args outcome ≡ Some result
came-to args result outcomes.Args g spelled = ap Some g
came-to args result (outcomes.Done octets) g spelled = ap Some g
came-to args result (outcomes.Refused why) g spelled = absurd g
came-to args result (outcomes.Mismatch low high) g spelled = absurd g
came-to args result outcomes.Gone g spelled = absurd g
came-to args result outcomes.NoMemory g spelled = absurd (spelled refl)

-- an honest record asks for its context first
looks-first : (octets : List ℕ) (kept : KeptAnswers) (serves : Server) (n procedure : ℕ) (args : List ℕ) (lease : Lease) (h : Honest serves.serving.program octets (caller_of lease) n procedure args) (id : ℕ) → handle_id h.cred.context ≡ Some id
    → record_ruling octets kept serves.serving ≡ ask_look (shown_of octets kept serves h.call) h.cred id kept.admitted kept.ended kept.looked
unfolding record_ruling call_ruling
looks-first octets kept serves n procedure args lease h id handle =
    let flavour : (h.call.cred.flavour == 0) ≡ false = rw h.flavour refl in
    let gss : (h.call.cred.flavour == 6) ≡ true = rw h.flavour refl in
    let is_data : (h.cred.proc == 0) ≡ true = rw h.is_data refl in
    let first : (h.cred.proc == 1) ≡ false = rw h.is_data refl in
    let second : (h.cred.proc == 2) ≡ false = rw h.is_data refl in
    rw (h.reads) (rw (flavour, gss, h.header) (rw (is_data, first, second) (rw handle refl)))

pub call-turn : (keys : SealKeys) (old new : BookOf) (lease : Lease) (next procedure : ℕ) (args octets : List ℕ) (kept : KeptAnswers) (serves : Server) → ForSealing keys lease.outcome.key 24 → (h : Honest serves.serving.program octets (caller_of lease) next procedure args) → handle_id h.cred.context ≡ Some lease.id
    → IsAnsweredBy serves lease.ends octets kept old new → IsLiveAt old lease next → next ≤ 0x80000000 → IsCallTurn serves old new lease next procedure args kept
call-turn keys old new lease next procedure args octets kept serves for h handle by live few = by-look kept.looked refl
  where
    first : record_ruling octets kept serves.serving ≡ ask_look (shown_of octets kept serves h.call) h.cred lease.id kept.admitted kept.ended kept.looked
    first = looks-first octets kept serves next procedure args lease h lease.id handle

    body : body_args (end_of lease) h.cred h.call.args ≡ Some args
    body = body-carried keys lease h.cred next args h.call.args for (omega (arith, few)) h.number h.body

    by-admit : kept.looked ≡ Some (Ok lease) → (answer : Option (Result Admitted AdmitRefusal)) → kept.admitted ≡ answer → IsCallTurn serves old new lease next procedure args kept
    by-admit shown None e =
        let r = honest-ruling octets kept serves.serving next procedure args lease h lease.id body handle shown in
        let d : IsDecided (asking (AskedLook lease.id kept.now (Ok lease)) (ask_admit (shown_by octets kept serves.serving h.call) h.cred lease args None)) =
        subst IsDecided (r ∙ ap (λ a. asking (AskedLook lease.id kept.now (Ok lease)) (ask_admit (shown_by octets kept serves.serving h.call) h.cred lease args a)) e) by.decided in
        absurd (omega (arith, d))
    by-admit shown (Some (Err refusal)) e =
        let ruled = honest-ruled octets kept serves.serving next procedure args lease h lease.id body handle shown in
        let c : Asking (AnswersBy serves) old (AskedLook lease.id kept.now (Ok lease) ∷ AskedAdmit lease next (service_of h.cred.service) procedure args (Err refusal) ∷ []) new =
        subst (λ (zs : List (Asked Admitted)). Asking (AnswersBy serves) old zs new) (ruled.asked (Err refusal) e) by.asked in
        let s = seen old c.0 lease kept.now (Ok lease) next c.1.book by.lasting live in
        let roomy : length c.0.core.history < c.0.core.limit = rw (s.history, c.1.book.looked.limit) by.room in
        let k = called c.0 c.2.0 lease next procedure (sha1 args) (Err refusal) c.2.1.book s.live few roomy in
        let no : Err refusal ≡ Ok (receipt_of c.0.core.history (Call lease.id next procedure (sha1 args))) = k.answer in
        absurd cc
    by-admit shown (Some (Ok admitted)) e =
        let ruled = honest-ruled octets kept serves.serving next procedure args lease h lease.id body handle shown in
        let c : Asking (AnswersBy serves) old (AskedLook lease.id kept.now (Ok lease) ∷ AskedAdmit lease next (service_of h.cred.service) procedure args (Ok admitted) ∷ []) new =
        subst (λ (zs : List (Asked Admitted)). Asking (AnswersBy serves) old zs new) (ruled.asked (Ok admitted) e) by.asked in
        let s = seen old c.0 lease kept.now (Ok lease) next c.1.book by.lasting live in
        let roomy : length c.0.core.history < c.0.core.limit = rw (s.history, c.1.book.looked.limit) by.room in
        let k = called c.0 c.2.0 lease next procedure (sha1 args) (Ok admitted.receipt) c.2.1.book s.live few roomy in record {
          looked = shown;
          admitted = admitted;
          admitted_is = e;
          receipt_is = ok_is {E = AdmitRefusal} admitted.receipt (receipt_of c.0.core.history (Call lease.id next procedure (sha1 args))) k.answer ∙ ap (λ (hs : List Entry). receipt_of hs (Call lease.id next procedure (sha1 args))) s.history;
          came = came-to args (serves.results lease.outcome.initiator procedure args c.2.0.core.history) admitted.outcome (c.2.1.came h.served) (λ same. let none : (record_ruling octets kept serves.serving).rule ≡ 0 = ruled.memory admitted e same in let some = by.decided in omega (arith, none, some))
              ∙ ap (λ (b : BookOf). Some (serves.results lease.outcome.initiator procedure args b.core.history)) (sym c.2.2);
          live = subst (λ (b : BookOf). IsLiveAt b lease (next + 1)) (sym c.2.2) k.live;
          history = ap (λ (b : BookOf). b.core.history) c.2.2 ∙ (k.history ∙ ap (λ (hs : List Entry). Call lease.id next procedure (sha1 args) ∷ hs) s.history);
          others = subst (λ (b : BookOf). KeepsOthers old.core.table b.core.table lease.id) (sym c.2.2) (others-kept old c.0 c.2.0 lease.id kept.now (Ok lease) c.1.book c.2.1.book.others);
          notes = subst (λ (b : BookOf). NotesMoment old b kept.now) (sym c.2.2) (moment-noted old c.0 c.2.0 lease.id kept.now (Ok lease) c.1.book c.2.1.book.keeps c.2.1.book.setup);
        }

    by-look : (answer : Option (Result Lease LookRefusal)) → kept.looked ≡ answer → IsCallTurn serves old new lease next procedure args kept
    by-look None e =
        let d : IsDecided (ask_look (shown_of octets kept serves h.call) h.cred lease.id kept.admitted kept.ended None) = subst IsDecided (first ∙ ap (λ a. ask_look (shown_of octets kept serves h.call) h.cred lease.id kept.admitted kept.ended a) e) by.decided in
        absurd (omega (arith, d))
    by-look (Some answer) e =
        let c : Asking (AnswersBy serves) old (asking (AskedLook lease.id kept.now answer) (looked_ruling (shown_of octets kept serves h.call) h.cred kept.admitted kept.ended answer)).asked new =
        subst (λ (r : Ruling). Asking (AnswersBy serves) old r.asked new) (first ∙ ap (λ a. ask_look (shown_of octets kept serves h.call) h.cred lease.id kept.admitted kept.ended a) e) by.asked in
        let s = seen old c.0 lease kept.now answer next c.1.book by.lasting live in
        by-admit (e ∙ ap Some s.shown) kept.admitted refl
