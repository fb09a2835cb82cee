-- A context is destroyed, and the session hears that.
use Rattle.std.proofs.Common.{◌≡◌, ℕ, ◌*◌, ◌≤◌, ◌<◌, ◌^◌, lit<, lit≤, true, refl, ap, ◌∙◌, arith, List, [], ◌∷◌, ◌++◌, length, take, sym, subst, Option, Some, None, Result, Ok, append-nil}
use Rattle.std.proofs.Math.Seq.{take-append_seam}
use Rattle.std.proofs.lemmas.Nat.{from_be_bytes-to_be_bytes_8}
use Rattle.rpc_msgs.specs.Words.{word}
use Rattle.rpc_msgs.specs.Auths.{auth_octets}
use Rattle.rpc_msgs.specs.Calls.{CallValue, secure_call, header_octets, call_octets, call_at}
use Rattle.rpc_msgs.proofs.CallLaws.{call-only}
use Rattle.rpc_msgs.specs.Replies.{ReplyValue, accepted, reply_octets}
use Rattle.rpc_msgs.specs.ReplyReading.{reply_at}
use Rattle.rpc_msgs.specs.Records.{last_fragment}
use Rattle.rpc_msgs.proofs.ReplyLaws.{reply-only}
use Rattle.rpcsec_msgs.specs.Cred.{CredValue, cred_octets, cred_at}
use Rattle.rpcsec_msgs.proofs.CredLaws.{cred-only}
use Rattle.krb_tokens.specs.declared.end.Side.TheVariants.{Initiator}
use Rattle.krb_tokens.specs.Mic.{mic_of, checked_mic}
use Rattle.krb_tokens.proofs.Taken.{mic-taken}
use Rattle.spnego_core.specs.Outcome.{token_end}
use Rattle.accept_book.specs.Honest.{IsId, caller_of}
use Rattle.accept_book.specs.RecordShown.{KeptAnswers, Shown, Ruling, AskedLook, AskedEnd, asking, handle_of, end_of, is_verified}
use Rattle.accept_book.specs.RecordRule.{record_ruling, call_ruling, destroy_ruling, ask_look, looked_ruling, ask_end, ended_ruling}
use Rattle.accept_core.specs.Answers.{receipt_of}
use Rattle.accept_book.specs.Booking.{BookOf, NotesMoment}
use Rattle.accept_core.specs.declared.answer.AdmitRefusal.{AdmitRefusal}
use Rattle.accept_core.specs.declared.answer.LookRefusal.{LookRefusal}
use Rattle.accept_core.specs.declared.entry.Entry.{Entry}
use Rattle.accept_core.specs.declared.entry.Entry.TheVariants.{Ended}
use Rattle.accept_core.specs.declared.entry.EndCause.TheVariants.{Destroyed}
use Rattle.accept_core.specs.declared.entry.Receipt.{Receipt}
use Rattle.context_table.specs.Places.{slot_at, KeepsOthers}
use Rattle.gss_server.specs.Answers.{IsDecided}
use Rattle.gss_server.specs.Asking.{Asking}
use Rattle.rpc_program.specs.Programs.{ProgramSays}
use Rattle.rpc_program.specs.declared.program.ProgramId.{ProgramId}
use Rattle.pair_laws.specs.Answering.{Server, AnswersBy}
use Rattle.pair_laws.specs.Live.{IsLiveAt}
use Rattle.pair_laws.specs.Turns.{IsAnsweredBy, IsEndTurn}
use Rattle.pair_laws.proofs.Living.{seen, over, others-kept, moment-noted}
use Rattle.accept_book.specs.declared.book_answer.Lease.{Lease}
use Rattle.rpcsec_bodies.specs.declared.service.Service.{Service}
use Rattle.gss_client.specs.declared.terms.Terms.{Terms}
use Rattle.gss_client.specs.Calling.{header_of, verifier_of, signed_call, destroy_call}
use Rattle.gss_client.specs.Judging.{answer_in, verified_in, destroyed_in}
use Rattle.gss_client.specs.Session.{SessionState}
use Rattle.gss_client.specs.Talk.{destroys}
use Rattle.gss_client.specs.Talking.{said}
use Rattle.gss_client.proofs.CallLengths.{cred-fits, call-fits}
use Rattle.gss_server.proofs.ReplyLengths.{accepted-fits}
use Rattle.pair_laws.specs.HonestCalls.{IsToServer, session_on}
use Rattle.pair_laws.specs.Ending.{HonestEnd, IsTaken, IsDestroyed}
use Rattle.pair_laws.proofs.Answered.{handle-length, eqb-same}
use Rattle.rpcsec_bodies.proofs.Lengths.{mic-size}
use Rattle.pair_laws.proofs.Creating.{exchanged}

-- ---- the call

abbrev end_cred : Lease → ℕ → CredValue
end_cred lease number = record { proc = 3; seq = number; service = 1; context = handle_of lease.id }

-- the call that ends a context of this program and version
abbrev ended_to : ℕ → ℕ → Lease → ℕ → ℕ → List ℕ
ended_to program version lease number xid = call_octets (secure_call xid program version 0 (cred_octets (end_cred lease number)) (record { flavour = 6; body = mic_of (caller_of lease) (2 * number) (header_octets xid program version 0 (record { flavour = 6; body = cred_octets (end_cred lease number) })) }) [])

-- the same of the server's
abbrev front_of : ProgramId → Lease → ℕ → ℕ → List ℕ
front_of id lease number xid = header_octets xid id.number id.version 0 (record { flavour = 6; body = cred_octets (end_cred lease number) })

abbrev call_of : ProgramId → Lease → ℕ → ℕ → CallValue
call_of id lease number xid = secure_call xid id.number id.version 0 (cred_octets (end_cred lease number)) (record { flavour = 6; body = mic_of (caller_of lease) (2 * number) (front_of id lease number xid) }) []

abbrev record_of : ProgramId → Lease → ℕ → ℕ → List ℕ
record_of id lease number xid = call_octets (call_of id lease number xid)

end-spelled : (program : ProgramSays) (lease : Lease) (terms : Terms) (number xid : ℕ) → IsToServer program terms → destroy_call (session_on lease terms number xid) ≡ record_of program.id lease number xid
unfolding destroy_call signed_call verifier_of header_of
end-spelled program lease terms number xid called =
    ap (λ (n : ℕ). ended_to n terms.version lease number xid) called.number
    ∙ ap (λ (version : ℕ). ended_to program.id.number version lease number xid) called.version

end-read : (id : ProgramId) (lease : Lease) (number xid : ℕ) → IsId id → number ≤ 0x80000000 → xid < 2 ^ 32 → call_at (record_of id lease number xid) ≡ Ok (call_of id lease number xid)
end-read id lease number xid fits few x = call-only (call_of id lease number xid) (record {
  xid = x;
  program = fits.number;
  version = fits.version;
  procedure = lit< tt;
  cred = record { flavour = lit< tt; body = cred-fits (end_cred lease number) (omega (arith, handle-length lease.id)) };
  verf = record { flavour = lit< tt; body = omega (arith, mic-size (caller_of lease) (2 * number) (front_of id lease number xid)) };
  header = refl;
})

pub end-fits : (lease : Lease) (terms : Terms) (number xid : ℕ) → length (destroy_call (session_on lease terms number xid)) ≤ 131072
unfolding destroy_call signed_call verifier_of header_of
end-fits lease terms number xid =
    let front : List ℕ = header_of (session_on lease terms number xid) 3 1 0 in
    call-fits xid terms.program terms.version 0 (cred_octets (end_cred lease number)) (record { flavour = 6; body = mic_of (caller_of lease) (2 * number) front }) [] (cred-fits (end_cred lease number) (omega (arith, handle-length lease.id))) (omega (arith, mic-size (caller_of lease) (2 * number) front)) (omega arith)

end-cred : (lease : Lease) (number : ℕ) → number ≤ 0x80000000 → cred_at (cred_octets (end_cred lease number)) ≡ Ok (end_cred lease number)
end-cred lease number h =
    cred-only (end_cred lease number) (record { proc = lit≤ tt; seq = omega (arith, h); service = lit< tt; served = refl; context = omega (arith, handle-length lease.id) })

abbrev shown : Lease → ℕ → ℕ → KeptAnswers → Server → Shown
shown lease number xid kept serves = record { record_octets = record_of serves.serving.program.id lease number xid; call = call_of serves.serving.program.id lease number xid; now = kept.now; draws = kept.draws; serves = serves.serving }

end-verified : (lease : Lease) (number xid : ℕ) (kept : KeptAnswers) (serves : Server) → is_verified (shown lease number xid kept serves) lease ≡ true
unfolding is_verified
end-verified lease number xid kept serves =
    let front = front_of serves.serving.program.id lease number xid in
    let seam : take (length front) (front ++ (auth_octets (call_of serves.serving.program.id lease number xid).verf ++ [])) ≡ front = take-append_seam front (auth_octets (call_of serves.serving.program.id lease number xid).verf ++ []) in
    let good : checked_mic (end_of lease) (mic_of (caller_of lease) (2 * number) front) front ≡ Ok tt = mic-taken (caller_of lease) (2 * number) front in
    rw (seam, good) refl

-- ---- the reply

abbrev replying : Lease → ℕ → ℕ → ReplyValue
replying lease number xid = accepted xid 6 (mic_of (end_of lease) (2 * number) (word number)) 0 0 0 []

made-rule : (lease : Lease) (number xid : ℕ) (kept : KeptAnswers) (serves : Server) → IsId serves.serving.program.id → HonestEnd lease number xid → (t : IsTaken lease kept)
    → record_ruling (record_of serves.serving.program.id lease number xid) kept serves.serving
    ≡ record { rule = 24; reply = Some (reply_octets (replying lease number xid)); asked = AskedLook lease.id kept.now (Ok lease) ∷ AskedEnd lease number (Ok t.receipt) ∷ []; due = None }
unfolding record_ruling call_ruling destroy_ruling
made-rule lease number xid kept serves fits h t =
    rw (end-read serves.serving.program.id lease number xid fits h.number_fits h.xid_fits) (rw (end-cred lease number h.number_fits) (rw (from_be_bytes-to_be_bytes_8 lease.id h.id, t.looked) (rw (end-verified lease number xid kept serves, eqb-same serves.serving.program.id.number, eqb-same serves.serving.program.id.version, t.ended) refl)))

end-rule : (lease : Lease) (terms : Terms) (number xid : ℕ) (kept : KeptAnswers) (serves : Server) → IsToServer serves.serving.program terms → HonestEnd lease number xid → (t : IsTaken lease kept)
    → record_ruling (destroy_call (session_on lease terms number xid)) kept serves.serving
    ≡ record { rule = 24; reply = Some (reply_octets (replying lease number xid)); asked = AskedLook lease.id kept.now (Ok lease) ∷ AskedEnd lease number (Ok t.receipt) ∷ []; due = None }
end-rule lease terms number xid kept serves called h t = ap (λ (o : List ℕ). record_ruling o kept serves.serving) (end-spelled serves.serving.program lease terms number xid called) ∙ made-rule lease number xid kept serves called.fits h t

replying-reads : (lease : Lease) (number xid : ℕ) → xid < 2 ^ 32 → reply_at (reply_octets (replying lease number xid)) ≡ Ok (replying lease number xid)
replying-reads lease number xid h =
    reply-only (replying lease number xid) (omega (arith, mic-size (end_of lease) (2 * number) (word number)), (λ other. absurd (other refl)), (λ other. refl), (λ other. refl)) (h, lit< tt, lit< tt, lit< tt, lit< tt)

end-judged : (lease : Lease) (service : Service) (number xid : ℕ) → xid < 2 ^ 32 → destroyed_in lease.outcome service number xid (reply_octets (replying lease number xid)) ≡ Ok tt
unfolding destroyed_in verified_in answer_in
end-judged lease service number xid h =
    let good : checked_mic (token_end lease.outcome Initiator) (mic_of (end_of lease) (2 * number) (word number)) (word number) ≡ Ok tt = mic-taken (end_of lease) (2 * number) (word number) in
    rw (replying-reads lease number xid h) (rw (eqb-same xid) (rw good refl))

replying-fits : (lease : Lease) (number xid : ℕ) → length (reply_octets (replying lease number xid)) ≤ 131072
replying-fits lease number xid = accepted-fits xid 6 (mic_of (end_of lease) (2 * number) (word number)) 0 0 0 [] (omega (arith, mic-size (end_of lease) (2 * number) (word number))) (omega arith)

end-heard : (s : SessionState) (reply rest : List ℕ) → length reply ≤ 131072 → destroyed_in s.outcome s.terms.service s.number s.xid reply ≡ Ok tt → destroys s (last_fragment reply ++ rest) ≡ said (last_fragment (destroy_call s)) (Ok tt) rest
unfolding destroys
end-heard s reply rest few judged = rw (exchanged (destroy_call s) reply rest few, judged, append-nil (last_fragment (destroy_call s))) refl

pub ended : (lease : Lease) (terms : Terms) (number xid : ℕ) (kept : KeptAnswers) (serves : Server) (rest : List ℕ) → IsToServer serves.serving.program terms → HonestEnd lease number xid → (t : IsTaken lease kept) → IsDestroyed lease terms number xid kept serves t.receipt rest
ended lease terms number xid kept serves rest called h t =
    let r = end-rule lease terms number xid kept serves called h t in record {
      rule = rw r refl;
      asked = rw r refl;
      result = rw r (end-heard (session_on lease terms number xid) (reply_octets (replying lease number xid)) rest (replying-fits lease number xid) (end-judged lease terms.service number xid h.xid_fits));
    }

-- ---- over a book

-- it asks for its context first
made-looks : (lease : Lease) (number xid : ℕ) (kept : KeptAnswers) (serves : Server) → IsId serves.serving.program.id → HonestEnd lease number xid
    → record_ruling (record_of serves.serving.program.id lease number xid) kept serves.serving ≡ ask_look (shown lease number xid kept serves) (end_cred lease number) lease.id kept.admitted kept.ended kept.looked
unfolding record_ruling call_ruling
made-looks lease number xid kept serves fits h =
    rw (end-read serves.serving.program.id lease number xid fits h.number_fits h.xid_fits) (rw (end-cred lease number h.number_fits) (rw (from_be_bytes-to_be_bytes_8 lease.id h.id) refl))

end-looks : (lease : Lease) (terms : Terms) (number xid : ℕ) (kept : KeptAnswers) (serves : Server) → IsToServer serves.serving.program terms → HonestEnd lease number xid
    → record_ruling (destroy_call (session_on lease terms number xid)) kept serves.serving ≡ ask_look (shown lease number xid kept serves) (end_cred lease number) lease.id kept.admitted kept.ended kept.looked
end-looks lease terms number xid kept serves called h = ap (λ (o : List ℕ). record_ruling o kept serves.serving) (end-spelled serves.serving.program lease terms number xid called) ∙ made-looks lease number xid kept serves called.fits h

-- and then for its end
end-asks : (lease : Lease) (terms : Terms) (number xid : ℕ) (kept : KeptAnswers) (serves : Server) → IsToServer serves.serving.program terms → HonestEnd lease number xid → kept.looked ≡ Some (Ok lease)
    → record_ruling (destroy_call (session_on lease terms number xid)) kept serves.serving
    ≡ asking (AskedLook lease.id kept.now (Ok lease)) (ask_end (shown lease number xid kept serves) (end_cred lease number) lease kept.ended)
unfolding destroy_ruling
end-asks lease terms number xid kept serves called h look =
    end-looks lease terms number xid kept serves called h
    ∙ ap (λ a. ask_look (shown lease number xid kept serves) (end_cred lease number) lease.id kept.admitted kept.ended a) look
    ∙ rw (end-verified lease number xid kept serves, eqb-same serves.serving.program.id.number, eqb-same serves.serving.program.id.version) refl

pub end-turn : (lease : Lease) (terms : Terms) (next xid : ℕ) (kept : KeptAnswers) (serves : Server) (old new : BookOf) → IsToServer serves.serving.program terms → HonestEnd lease next xid
    → IsAnsweredBy serves lease.ends (destroy_call (session_on lease terms next xid)) kept old new → IsLiveAt old lease next → IsEndTurn old new lease next kept
end-turn lease terms next xid kept serves old new called h by live = by-look kept.looked refl
  where
    s : Shown
    s = shown lease next xid kept serves

    cred : CredValue
    cred = end_cred lease next

    first : record_ruling (destroy_call (session_on lease terms next xid)) kept serves.serving ≡ ask_look s cred lease.id kept.admitted kept.ended kept.looked
    first = end-looks lease terms next xid kept serves called h

    by-end : kept.looked ≡ Some (Ok lease) → (answer : Option (Result Receipt AdmitRefusal)) → kept.ended ≡ answer → IsEndTurn old new lease next kept
    by-end look None e =
        let r = end-asks lease terms next xid kept serves called h look in
        let d : IsDecided (asking (AskedLook lease.id kept.now (Ok lease)) (ask_end s cred lease None)) = subst IsDecided (r ∙ ap (λ a. asking (AskedLook lease.id kept.now (Ok lease)) (ask_end s cred lease a)) e) by.decided in
        absurd (omega (arith, d))
    by-end look (Some answer) e =
        let r = end-asks lease terms next xid kept serves called h look ∙ ap (λ a. asking (AskedLook lease.id kept.now (Ok lease)) (ask_end s cred lease a)) e in
        let c : Asking (AnswersBy serves) old (AskedLook lease.id kept.now (Ok lease) ∷ AskedEnd lease next answer ∷ (ended_ruling s cred lease answer).asked) new = subst (λ (x : Ruling). Asking (AnswersBy serves) old x.asked new) r by.asked in
        let v = seen old c.0 lease kept.now (Ok lease) next c.1.book by.lasting live in
        let roomy : length c.0.core.history < c.0.core.limit = rw (v.history, c.1.book.looked.limit) by.room in
        let k = over c.0 c.2.0 lease next answer c.2.1.book v.live h.number_fits roomy in
        let same : new ≡ c.2.0 = subst (λ a. Asking (AnswersBy serves) c.2.0 (ended_ruling s cred lease a).asked new) k.answer c.2.2 in record {
          looked = look;
          ended_is = e ∙ ap Some (k.answer ∙ ap (λ (hs : List Entry). Ok (receipt_of hs (Ended lease.id (Destroyed next)))) v.history);
          gone = ap (λ (b : BookOf). slot_at b.core.table lease.id) same ∙ k.gone;
          history = ap (λ (b : BookOf). b.core.history) same ∙ (k.history ∙ ap (λ (hs : List Entry). Ended lease.id (Destroyed next) ∷ hs) v.history);
          others = subst (λ (b : BookOf). KeepsOthers old.core.table b.core.table lease.id) (sym same) (others-kept old c.0 c.2.0 lease.id kept.now (Ok lease) c.1.book c.2.1.book.others);
          notes = subst (λ (b : BookOf). NotesMoment old b kept.now) (sym same) (moment-noted old c.0 c.2.0 lease.id kept.now (Ok lease) c.1.book c.2.1.book.keeps c.2.1.book.setup);
        }

    by-look : (answer : Option (Result Lease LookRefusal)) → kept.looked ≡ answer → IsEndTurn old new lease next kept
    by-look None e =
        let d : IsDecided (ask_look s cred lease.id kept.admitted kept.ended None) = subst IsDecided (first ∙ ap (λ a. ask_look s cred lease.id kept.admitted kept.ended a) e) by.decided in
        absurd (omega (arith, d))
    by-look (Some answer) e =
        let c : Asking (AnswersBy serves) old (asking (AskedLook lease.id kept.now answer) (looked_ruling s cred kept.admitted kept.ended answer)).asked new = subst (λ (r : Ruling). Asking (AnswersBy serves) old r.asked new) (first ∙ ap (λ a. ask_look s cred lease.id kept.admitted kept.ended a) e) by.asked in
        let v = seen old c.0 lease kept.now answer next c.1.book by.lasting live in
        by-end (e ∙ ap Some v.shown) kept.ended refl
