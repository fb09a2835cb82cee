-- What a session's calls write are whole records.
use Rattle.std.proofs.Common.{◌≡◌, ℕ, suc, ◌*◌, ◌≤◌, Bool, true, false, refl, ap, sym, subst, ◌∙◌, arith, List, [], ◌∷◌, ◌++◌, length, take, drop, Result, Ok, Err, append-nil}
use Rattle.std.specs.Prelude.{◌==◌, if◌then◌else◌}
use Rattle.std.specs.List.{AllByRecursion}
use Rattle.std.proofs.lemmas.List.{length-take, length-drop}
use Rattle.rpc_msgs.specs.Records.{last_fragment}
use Rattle.rpcsec_msgs.specs.Cred.{CredValue, cred_octets}
use Rattle.rpcsec_bodies.proofs.Lengths.{mic-size}
use Rattle.krb_tokens.specs.Mic.{mic_of}
use Rattle.gss_client.specs.declared.conversation.Parting.{Parting}
use Rattle.gss_client.specs.declared.conversation.Parting.TheVariants.{Finished, Spent}
use Rattle.gss_client.specs.Query.{QuerySays}
use Rattle.gss_client.specs.declared.refusal.ClientRefusal.{ClientRefusal}
use Rattle.gss_client.specs.Calling.{own_end, header_of, verifier_of, signed_call, data_call, destroy_call}
use Rattle.gss_client.specs.Conversation.{Conversed, leaves, goes_on}
use Rattle.gss_client.specs.Hearing.{Heard, whole, ended, unfit, next_of}
use Rattle.gss_client.specs.Judging.{◌>>=◌, call_result, result_taken, destroyed_in}
use Rattle.gss_client.specs.Session.{SessionState, session_after}
use Rattle.gss_client.specs.Talk.{calls, destroys}
use Rattle.gss_client.specs.Talking as talking
use Rattle.gss_client.specs.Talking.{Said, judges, by_heard, listens, exchanges}
use Rattle.gss_client.proofs.CallLengths.{cred-fits, call-fits}
use Rattle.gss_client.specs.Conferring.{DueCall, confers}
use Rattle.pair_laws.specs.Rows.{IsSized, AreRecords}
use Rattle.pair_laws.proofs.SessionParts.{data-size}

-- ---- one record

heard-nothing : (h : Heard) → (by_heard h).written ≡ []
heard-nothing (whole octets rest) = refl
heard-nothing ended = refl
heard-nothing unfit = refl

exchange-wrote : (call stream : List ℕ) → (exchanges call stream).written ≡ last_fragment call
unfolding exchanges listens
exchange-wrote call stream = ap (λ (zs : List ℕ). last_fragment call ++ zs) (heard-nothing (next_of stream)) ∙ append-nil (last_fragment call)

goes-wrote : {A : Type 0} (written rest : List ℕ) (judge : List ℕ → Result A ClientRefusal) (answer : Result (List ℕ) ClientRefusal) → (talking.goes_on written rest (λ octets. judges (judge octets)) answer).written ≡ written
goes-wrote written rest judge (Ok octets) = append-nil written
goes-wrote written rest judge (Err refusal) = refl

call-wrote : (s : SessionState) (procedure : ℕ) (args confounder stream : List ℕ) → (calls s procedure args confounder stream).written ≡ last_fragment (data_call s procedure args confounder)
unfolding calls
call-wrote s procedure args confounder stream =
    let e : Said (List ℕ) = exchanges (data_call s procedure args confounder) stream in
    goes-wrote e.written e.rest (result_taken s) e.answer ∙ exchange-wrote (data_call s procedure args confounder) stream

end-wrote : (s : SessionState) (stream : List ℕ) → (destroys s stream).written ≡ last_fragment (destroy_call s)
unfolding destroys
end-wrote s stream =
    let e : Said (List ℕ) = exchanges (destroy_call s) stream in
    goes-wrote e.written e.rest (destroyed_in s.outcome s.terms.service s.number s.xid) e.answer ∙ exchange-wrote (destroy_call s) stream

end-size : (s : SessionState) → length s.handle ≤ 64 → length (destroy_call s) ≤ 131072
unfolding destroy_call signed_call verifier_of header_of
end-size s h =
    let cred : CredValue = record { proc = 3; seq = s.number; service = 1; context = s.handle } in
    call-fits s.xid s.terms.program s.terms.version 0 (cred_octets cred) (record { flavour = 6; body = mic_of (own_end s) (2 * s.number) (header_of s 3 1 0) }) [] (cred-fits cred h) (omega (arith, mic-size (own_end s) (2 * s.number) (header_of s 3 1 0))) (omega arith)

-- ---- the session behind a call has its handle

abbrev handle_in : Result (SessionState × List ℕ) ClientRefusal → List ℕ → List ℕ
handle_in (Ok called) other = called.0.handle
handle_in (Err refusal) other = other

after-handle : (s : SessionState) (result : Result (List ℕ) ClientRefusal) → handle_in (result >>= (λ (octets : List ℕ). Ok (session_after s, octets))) s.handle ≡ s.handle
after-handle s (Ok octets) = refl
after-handle s (Err refusal) = refl

judged-handle : (s : SessionState) (octets : List ℕ) → handle_in (result_taken s octets) s.handle ≡ s.handle
unfolding result_taken
judged-handle s octets = after-handle s (call_result s.outcome s.terms.service s.number s.xid octets)

goes-handle : (s : SessionState) (written rest : List ℕ) (answer : Result (List ℕ) ClientRefusal) → handle_in (talking.goes_on written rest (λ octets. judges (result_taken s octets)) answer).answer s.handle ≡ s.handle
goes-handle s written rest (Ok octets) = judged-handle s octets
goes-handle s written rest (Err refusal) = refl

call-handle : (s : SessionState) (procedure : ℕ) (args confounder stream : List ℕ) → handle_in (calls s procedure args confounder stream).answer s.handle ≡ s.handle
unfolding calls
call-handle s procedure args confounder stream =
    let e : Said (List ℕ) = exchanges (data_call s procedure args confounder) stream in goes-handle s e.written e.rest e.answer

-- ---- a session's calls

one-record : (written call : List ℕ) → written ≡ last_fragment call → length call ≤ 131072 → AreRecords written
one-record written call e few = record { calls = call ∷ []; each = (few, tt); is = e ∙ sym (append-nil (last_fragment call)) }

more-records : (front call written : List ℕ) → front ≡ last_fragment call → length call ≤ 131072 → AreRecords written → AreRecords (front ++ written)
more-records front call written e few r = record { calls = call ∷ r.calls; each = (few, r.each); is = ap (λ (zs : List ℕ). zs ++ written) e ∙ ap (λ (zs : List ℕ). last_fragment call ++ zs) r.is }

end-records : (parting : Parting) (s : SessionState) (draws stream : List ℕ) → length s.handle ≤ 64 → AreRecords (leaves parting draws (destroys s stream)).written
end-records parting s draws stream h = one-record (destroys s stream).written (destroy_call s) (end-wrote s stream) (end-size s h)

on-records : (query : QuerySays) (written undrawn rest call handle : List ℕ) (next : SessionState → List ℕ → List ℕ → Conversed) (answer : Result (SessionState × List ℕ) ClientRefusal) → written ≡ last_fragment call → length call ≤ 131072 → handle_in answer handle ≡ handle → length handle ≤ 64
    → ((s : SessionState) → length s.handle ≤ 64 → AreRecords (next s undrawn rest).written) → AreRecords (goes_on query written undrawn rest next answer).written
on-records query written undrawn rest call handle next (Err refusal) e few same h later = one-record written call e few
on-records query written undrawn rest call handle next (Ok called) e few same h later = by-cases (query.is_result called.1) refl
  where
    by-cases : (fits : Bool) → query.is_result called.1 ≡ fits → AreRecords (goes_on query written undrawn rest next (Ok called)).written
    by-cases true f = rw f (more-records written call (next called.0 undrawn rest).written e few (later called.0 (subst (λ (zs : List ℕ). length zs ≤ 64) (sym same) h)))
    by-cases false f = rw f (one-record written call e few)

-- whether the numbers are spent or not
by-number : (spent : Bool) (one other : Conversed) → AreRecords other.written → AreRecords one.written → AreRecords (if spent then one else other).written
by-number true one other on over = over
by-number false one other on over = on

pub writes : (due : List DueCall) (s : SessionState) (draws stream : List ℕ) → length s.handle ≤ 64 → AllByRecursion IsSized due → 16 * length due ≤ length draws → AreRecords (confers due s draws stream).written
unfolding confers
writes [] s draws stream h sized enough = end-records Finished s draws stream h
writes (call ∷ later) s draws stream h sized enough =
    let p : ℕ = call.query.number in
    let block : List ℕ = take 16 draws in
    let more : 16 * suc (length later) ≤ length draws = enough in
    let left : 16 * length later ≤ length (drop 16 draws) = omega (arith, length-drop 16 draws, more) in
    let size : length block ≡ 16 = omega (arith, length-take 16 draws, more) in
    let part : Said (SessionState × List ℕ) = calls s p call.args block stream in
    let on : AreRecords (goes_on call.query part.written (drop 16 draws) part.rest (confers later) part.answer).written =
    on-records call.query part.written (drop 16 draws) part.rest (data_call s p call.args block) s.handle (confers later) part.answer (call-wrote s p call.args block stream) (data-size s p call.args block h sized.0 size) (call-handle s p call.args block stream) h
    (λ t few. writes later t (drop 16 draws) part.rest few sized.1 left) in
    by-number (s.number == 0x80000000) (leaves Spent draws (destroys s stream)) (goes_on call.query part.written (drop 16 draws) part.rest (confers later) part.answer) on (end-records Spent s draws stream h)
