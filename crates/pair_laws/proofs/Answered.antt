-- An honest call is answered, and its result taken.
use Rattle.std.proofs.Common.{◌≡◌, inl, inr, ℕ, ◌+◌, ◌*◌, ◌≤◌, ◌<◌, ◌^◌, lit<, lit≤, true, refl, ap, sym, subst, ◌∙◌, arith, List, ◌++◌, length, take, drop, Option, Some, Ok, append-nil}
use Rattle.std.specs.Prelude.{◌==◌}
use Rattle.std.proofs.lemmas.Bool.Decides.{nat_tests}
use Rattle.std.proofs.lemmas.List.{length-append, length-take, length-drop}
use Rattle.std.proofs.lemmas.Nat.{from_be_bytes-to_be_bytes_8}
use Rattle.rpc_msgs.specs.Words.{word, opaque}
use Rattle.rpc_msgs.specs.Calls.{CallValue, secure_call, header_octets, call_octets, call_at}
use Rattle.rpc_msgs.specs.declared.call.CallRefusal.{CallRefusal}
use Rattle.rpc_msgs.proofs.CallLaws.{call-only}
use Rattle.rpc_msgs.specs.Replies.{ReplyValue, accepted, reply_octets}
use Rattle.rpc_msgs.specs.ReplyReading.{reply_at}
use Rattle.rpc_msgs.specs.Records.{last_fragment}
use Rattle.rpc_msgs.proofs.ReplyLaws.{reply-only}
use Rattle.rpc_msgs.proofs.WordLengths.{length-word, length-opaque}
use Rattle.rpc_msgs.proofs.XdrLaws.{ok_is}
use Rattle.rpcsec_msgs.specs.Bodies.{checked_at, checked_octets, sealed_at}
use Rattle.rpcsec_msgs.specs.Cred.{CredValue, is_service, cred_octets, cred_at}
use Rattle.rpcsec_msgs.specs.declared.cred.CredRefusal.{CredRefusal}
use Rattle.rpcsec_msgs.proofs.CredLaws.{cred-only}
use Rattle.rpcsec_msgs.proofs.BodyLaws.{sealed-only, checked-only}
use Rattle.krb_derive.specs.declared.sealing.SealKeys.{SealKeys}
use Rattle.krb_derive.specs.Kept.{ForSealing}
use Rattle.krb_tokens.specs.declared.end.Side.TheVariants.{Initiator}
use Rattle.krb_tokens.specs.declared.end.TokenEnd.{TokenEnd}
use Rattle.krb_tokens.specs.Mic.{mic_of, checked_mic}
use Rattle.krb_tokens.specs.Wrap.{wrap_of, unwrapped}
use Rattle.krb_tokens.proofs.Taken.{mic-taken}
use Rattle.krb_tokens.proofs.AcceptedWraps.{wrap-all}
use Rattle.spnego_core.specs.Outcome.{token_end}
use Rattle.accept_book.specs.Honest.{IsOctets, IsId, Carries, Honest, data_header, made_call, caller_of, HonestLaw}
use Rattle.accept_book.specs.RecordShown.{KeptAnswers, handle_of, handle_id, end_of, result_body}
use Rattle.accept_book.specs.RecordRule.{record_ruling}
use Rattle.accept_book.specs.declared.book_answer.Lease.{Lease}
use Rattle.accept_book.proofs.HonestMakings.{mic-made, sealed-made, made-honest}
use Rattle.rpcsec_bodies.specs.declared.service.Service.{Service}
use Rattle.gss_client.specs.declared.terms.Terms.{Terms}
use Rattle.rpcsec_bodies.specs.declared.service.Service.TheVariants as services
use Rattle.rpcsec_bodies.specs.Opening.{unprotected}
use Rattle.rpcsec_bodies.specs.Protection.{protected}
use Rattle.rpcsec_bodies.specs.Service.{number_of}
use Rattle.rpcsec_bodies.proofs.Lengths.{length-wrap_of, long-databody, longest-databody, mic-size, protected-within}
use Rattle.rpcsec_bodies.proofs.Taken.{checked-read, sealed-read}
use Rattle.gss_client.specs.Calling.{own_end, header_of, verifier_of, signed_call, body_of, data_call}
use Rattle.gss_client.specs.Judging.{answer_in, verified_in, or_refused, body_result, call_result, result_taken}
use Rattle.gss_client.specs.Session.{SessionState, session_after}
use Rattle.gss_client.specs.Talk.{calls}
use Rattle.gss_client.specs.Talking.{said}
use Rattle.gss_client.proofs.CallLengths.{cred-fits}
use Rattle.gss_server.specs.Connections.{framed}
use Rattle.rpc_program.specs.Programs.{ProgramSays}
use Rattle.rpc_program.specs.declared.limits.TheConstants.{MOST}
use Rattle.rpc_program.specs.declared.program.ProgramId.{ProgramId}
use Rattle.pair_laws.specs.Answering.{Server}
use Rattle.pair_laws.specs.HonestCalls.{IsToServer, session_on, HonestCall, IsAdmitted, IsAnswered}
use Rattle.pair_laws.proofs.Creating.{exchanged}
use Rattle.pair_laws.proofs.Ruling.{few-services}

-- ---- the call

carries : (s : SessionState) (args confounder : List ℕ) (service : Service) → s.number ≤ 0x7fffffff → length args ≤ 65540 → length confounder ≡ 16 → IsOctets (confounder ++ (word s.number ++ args)) → Carries (own_end s) (number_of service) s.number args (body_of s args confounder service)
unfolding protected
carries s args confounder services.None few size block octets = inl (refl, refl)
carries s args confounder services.Integrity few size block octets =
    inr (inl (refl, record { tag = _; mic = mic-made (own_end s) (2 * s.number + 1) (word s.number ++ args) (omega arith); long = omega (arith, long-databody s.number args size); spelled = refl }))
carries s args confounder services.Privacy few size block octets =
    inr (inr (
      refl,
      record {
        token = _;
        sealed = sealed-made (own_end s) (2 * s.number + 1) confounder (word s.number ++ args) (omega arith) block octets;
        long = omega (arith, long-databody s.number args size, length-wrap_of (own_end s) (2 * s.number + 1) confounder (word s.number ++ args) block);
        spelled = refl;
      },
    ))

-- a call of this program and version, as `made_call` has it for the server's
abbrev made_to : ℕ → ℕ → TokenEnd → ℕ → ℕ → ℕ → CredValue → List ℕ → List ℕ
made_to program version end number xid procedure cred body = call_octets (secure_call xid program version procedure (cred_octets cred) (record { flavour = 6; body = mic_of end number (header_octets xid program version procedure (record { flavour = 6; body = cred_octets cred })) }) body)

pub is-made : (program : ProgramSays) (s : SessionState) (procedure : ℕ) (args confounder : List ℕ) → IsToServer program s.terms → data_call s procedure args confounder ≡ made_call program.id (own_end s) (2 * s.number) s.xid procedure (record { proc = 0; seq = s.number; service = number_of s.terms.service; context = s.handle }) (body_of s args confounder s.terms.service)
unfolding data_call signed_call verifier_of header_of
is-made program s procedure args confounder called =
    let cred : CredValue = record { proc = 0; seq = s.number; service = number_of s.terms.service; context = s.handle } in
    ap (λ (number : ℕ). made_to number s.terms.version (own_end s) (2 * s.number) s.xid procedure cred (body_of s args confounder s.terms.service)) called.number
    ∙ ap (λ (version : ℕ). made_to program.id.number version (own_end s) (2 * s.number) s.xid procedure cred (body_of s args confounder s.terms.service)) called.version

pub handle-length : (id : ℕ) → length (handle_of id) ≡ 8
handle-length id = refl

pub id-again : (id : ℕ) → id < 2 ^ 64 → handle_id (handle_of id) ≡ Some id
id-again id h = ap Some (from_be_bytes-to_be_bytes_8 id h)

-- ---- what is heard

abbrev pub data_cred : Lease → Service → ℕ → CredValue
data_cred lease service number = record { proc = 0; seq = number; service = number_of service; context = handle_of lease.id }

abbrev made_value : ProgramId → TokenEnd → ℕ → ℕ → ℕ → CredValue → List ℕ → CallValue
made_value id end number xid procedure cred body = secure_call xid id.number id.version procedure (cred_octets cred) (record { flavour = 6; body = mic_of end number (data_header id xid procedure cred) }) body

cred-short : (lease : Lease) (service : Service) (number : ℕ) → length (cred_octets (data_cred lease service number)) ≤ 400
cred-short lease service number = cred-fits (data_cred lease service number) (omega (arith, handle-length lease.id))

made-read : (id : ProgramId) (end : TokenEnd) (number xid procedure : ℕ) (lease : Lease) (service : Service) (n : ℕ) (body : List ℕ) → IsId id → xid < 2 ^ 32 → procedure < 2 ^ 32
    → call_at (made_call id end number xid procedure (data_cred lease service n) body) ≡ Ok (made_value id end number xid procedure (data_cred lease service n) body)
made-read id end number xid procedure lease service n body fits x low = call-only (made_value id end number xid procedure (data_cred lease service n) body) (record {
  xid = x;
  program = fits.number;
  version = fits.version;
  procedure = low;
  cred = record { flavour = lit< tt; body = cred-short lease service n };
  verf = record { flavour = lit< tt; body = omega (arith, mic-size end number (data_header id xid procedure (data_cred lease service n))) };
  header = refl;
})

served : (service : Service) → is_service 0 (number_of service) ≡ true
served services.None = refl
served services.Integrity = refl
served services.Privacy = refl

cred-read : (lease : Lease) (service : Service) (n : ℕ) → n < 2 ^ 32 → cred_at (cred_octets (data_cred lease service n)) ≡ Ok (data_cred lease service n)
cred-read lease service n h =
    cred-only (data_cred lease service n) (record { proc = lit≤ tt; seq = h; service = few-services service; served = served service; context = omega (arith, handle-length lease.id) })

-- what an honest record says is what was made
heard-call : (program : ProgramSays) (octets : List ℕ) (end : TokenEnd) (n procedure : ℕ) (args : List ℕ) (call : CallValue) → (h : Honest program octets end n procedure args) → call_at octets ≡ Ok call → call ≡ h.call
heard-call program octets end n procedure args call h e = ok_is {E = CallRefusal} call h.call (sym e ∙ h.reads)

heard-cred : (program : ProgramSays) (octets : List ℕ) (end : TokenEnd) (n procedure : ℕ) (args : List ℕ) (call : CallValue) (cred : CredValue) → (h : Honest program octets end n procedure args) → call ≡ h.call → cred_at call.cred.body ≡ Ok cred → cred ≡ h.cred
heard-cred program octets end n procedure args call cred h e f = ok_is {E = CredRefusal} cred h.cred (sym f ∙ (ap (λ (c : CallValue). cred_at c.cred.body) e ∙ h.header))

-- ---- the reply

pub eqb-same : (n : ℕ) → (n == n) ≡ true
eqb-same n = grind (arith, nat_tests)

body-read : (keys : SealKeys) (lease : Lease) (service : Service) (n : ℕ) (confounder result : List ℕ) → ForSealing keys lease.outcome.key 22 → n < 2 ^ 32 → length result ≤ MOST → length confounder ≡ 16 → IsOctets (confounder ++ (word n ++ result))
    → body_result (token_end lease.outcome Initiator) n (result_body (end_of lease) (data_cred lease service n) confounder result) service ≡ Ok result
unfolding result_body protected unprotected
body-read keys lease services.None n confounder result for h few block octets = refl
body-read keys lease services.Integrity n confounder result for h few block octets =
    let mic : List ℕ = mic_of (end_of lease) (2 * n + 1) (word n ++ result) in
    let split : checked_at (checked_octets (word n ++ result) mic) ≡ Ok (word n ++ result, mic) = checked-only (word n ++ result) mic (omega (arith, longest-databody n result few)) (omega (arith, mic-size (end_of lease) (2 * n + 1) (word n ++ result))) in
    let good : checked_mic (token_end lease.outcome Initiator) mic (word n ++ result) ≡ Ok tt = mic-taken (end_of lease) (2 * n + 1) (word n ++ result) in
    ap or_refused (checked-read (token_end lease.outcome Initiator) n result (checked_octets (word n ++ result) mic) mic h split good)
body-read keys lease services.Privacy n confounder result for h few block octets =
    let token : List ℕ = wrap_of (end_of lease) (2 * n + 1) true confounder (word n ++ result) in
    let split : sealed_at (opaque token) ≡ Ok token = sealed-only token (omega (arith, longest-databody n result few, length-wrap_of (end_of lease) (2 * n + 1) confounder (word n ++ result) block)) in
    let good : unwrapped (token_end lease.outcome Initiator) token ≡ Ok (record { sealed = true; content = word n ++ result }) =
    wrap-all keys (token_end lease.outcome Initiator) true token (word n ++ result) for (sealed-made (end_of lease) (2 * n + 1) confounder (word n ++ result) (omega (arith, h)) block octets) in
    ap or_refused (sealed-read (token_end lease.outcome Initiator) n result (opaque token) token h split good)

body-fits : (lease : Lease) (service : Service) (n : ℕ) (confounder result : List ℕ) → length result ≤ MOST → length confounder ≡ 16 → length (result_body (end_of lease) (data_cred lease service n) confounder result) ≤ 131020
unfolding result_body
body-fits lease services.None n confounder result few block = protected-within (end_of lease) services.None n confounder result few block
body-fits lease services.Integrity n confounder result few block = protected-within (end_of lease) services.Integrity n confounder result few block
body-fits lease services.Privacy n confounder result few block = protected-within (end_of lease) services.Privacy n confounder result few block

abbrev replying : Lease → Service → ℕ → ℕ → List ℕ → List ℕ → ReplyValue
replying lease service n xid confounder result = accepted xid 6 (mic_of (end_of lease) (2 * n) (word n)) 0 0 0 (result_body (end_of lease) (data_cred lease service n) confounder result)

signed-within : (xid : ℕ) (verf result : List ℕ) → length verf ≡ 28 → length result ≤ 131020 → length (reply_octets (accepted xid 6 verf 0 0 0 result)) ≤ 131072
signed-within xid verf result signed few = simp (length-append, length-word, length-opaque) (omega (arith, signed, few))

replying-fits : (lease : Lease) (service : Service) (n xid : ℕ) (confounder result : List ℕ) → length result ≤ MOST → length confounder ≡ 16 → length (reply_octets (replying lease service n xid confounder result)) ≤ 131072
replying-fits lease service n xid confounder result few block =
    signed-within xid (mic_of (end_of lease) (2 * n) (word n)) (result_body (end_of lease) (data_cred lease service n) confounder result) (mic-size (end_of lease) (2 * n) (word n)) (body-fits lease service n confounder result few block)

reply-reads : (lease : Lease) (service : Service) (n xid : ℕ) (confounder result : List ℕ) → xid < 2 ^ 32 → reply_at (reply_octets (replying lease service n xid confounder result)) ≡ Ok (replying lease service n xid confounder result)
reply-reads lease service n xid confounder result h =
    reply-only (replying lease service n xid confounder result) (omega (arith, mic-size (end_of lease) (2 * n) (word n)), (λ other. absurd (other refl)), (λ other. refl), (λ other. refl))
    (h, lit< tt, lit< tt, lit< tt, lit< tt)

-- the session takes the result from it
result-read : (keys : SealKeys) (lease : Lease) (terms : Terms) (n xid : ℕ) (confounder result : List ℕ) → ForSealing keys lease.outcome.key 22 → n < 2 ^ 32 → xid < 2 ^ 32 → length result ≤ MOST → length confounder ≡ 16 → IsOctets (confounder ++ (word n ++ result))
    → result_taken (session_on lease terms n xid) (reply_octets (replying lease terms.service n xid confounder result)) ≡ Ok (session_after (session_on lease terms n xid), result)
unfolding result_taken call_result verified_in answer_in
result-read keys lease terms n xid confounder result for h x few block octets =
    let good : checked_mic (token_end lease.outcome Initiator) (mic_of (end_of lease) (2 * n) (word n)) (word n) ≡ Ok tt = mic-taken (end_of lease) (2 * n) (word n) in
    rw (reply-reads lease terms.service n xid confounder result x) (rw (eqb-same xid) (rw (good) (rw (body-read keys lease terms.service n confounder result for h few block octets) refl)))

taken : (s : SessionState) (procedure : ℕ) (args confounder reply rest result : List ℕ) → length reply ≤ 131072 → result_taken s reply ≡ Ok (session_after s, result) → calls s procedure args confounder (last_fragment reply ++ rest) ≡ said (last_fragment (data_call s procedure args confounder)) (Ok (session_after s, result)) rest
unfolding calls
taken s procedure args confounder reply rest result few judged = rw (exchanged (data_call s procedure args confounder) reply rest few, judged, append-nil (last_fragment (data_call s procedure args confounder))) refl

-- ---- both

drawn-block : (draws : List ℕ) → length draws ≡ 82 → length (take 16 (drop 66 draws)) ≡ 16
drawn-block draws h = omega (arith, length-take 16 (drop 66 draws), length-drop 66 draws)

-- the call that the session makes is honest
pub record MadeHonest (program : ProgramSays) (lease : Lease) (terms : Terms) (number xid procedure : ℕ) (args confounder : List ℕ) : Type 0 where
  pub honest : Honest program (data_call (session_on lease terms number xid) procedure args confounder) (caller_of lease) number procedure args
  pub handle : handle_id honest.cred.context ≡ Some lease.id

pub call-honest : (program : ProgramSays) (lease : Lease) (terms : Terms) (number xid procedure : ℕ) (args confounder : List ℕ) → HonestCall program lease terms number xid procedure args confounder → MadeHonest program lease terms number xid procedure args confounder
call-honest program lease terms number xid procedure args confounder h =
    let s : SessionState = session_on lease terms number xid in
    let body : List ℕ = body_of s args confounder terms.service in
    let made : List ℕ = made_call program.id (own_end s) (2 * number) xid procedure (data_cred lease terms.service number) body in
    let honest : Honest program made (caller_of lease) number procedure args =
    made-honest program (own_end s) (2 * number) xid number procedure (number_of terms.service) (handle_of lease.id) args body h.called.fits (omega (arith, h.number_left)) h.xid_fits (omega (arith, h.number_left)) h.procedure_fits h.served h.protected (handle-length lease.id) h.proper
    (carries s args confounder terms.service h.number_left h.size h.block h.octets) in
    let call : CallValue = made_value program.id (own_end s) (2 * number) xid procedure (data_cred lease terms.service number) body in
    let same_call : call ≡ honest.call = heard-call program made (caller_of lease) number procedure args call honest (made-read program.id (own_end s) (2 * number) xid procedure lease terms.service number body h.called.fits h.xid_fits h.procedure_fits) in
    let same_cred : data_cred lease terms.service number ≡ honest.cred = heard-cred program made (caller_of lease) number procedure args call (data_cred lease terms.service number) honest same_call (cred-read lease terms.service number (omega (arith, h.number_left))) in
    let m : (x : Honest program made (caller_of lease) number procedure args) × (handle_id x.cred.context ≡ Some lease.id) = (honest, ap (λ (c : CredValue). handle_id c.context) (sym same_cred) ∙ id-again lease.id h.id) in
    let n = subst (λ (zs : List ℕ). (x : Honest program zs (caller_of lease) number procedure args) × (handle_id x.cred.context ≡ Some lease.id)) (sym (is-made program s procedure args confounder h.called)) m in
    record { honest = n.0; handle = n.1 }

pub answered : (keys : SealKeys) (lease : Lease) → HonestLaw lease → ForSealing keys lease.outcome.key 22 → (terms : Terms) (number xid procedure : ℕ) (args confounder : List ℕ) (kept : KeptAnswers) (serves : Server) (rest : List ℕ) → HonestCall serves.serving.program lease terms number xid procedure args confounder
    → (a : IsAdmitted lease number args kept) → IsAnswered lease terms number xid procedure args confounder kept serves a.result rest
answered keys lease law for terms number xid procedure args confounder kept serves rest h a =
    let s : SessionState = session_on lease terms number xid in
    let body : List ℕ = body_of s args confounder terms.service in
    let made : List ℕ = made_call serves.serving.program.id (own_end s) (2 * number) xid procedure (data_cred lease terms.service number) body in
    let block : List ℕ = take 16 (drop 66 kept.draws) in
    let honest : Honest serves.serving.program made (caller_of lease) number procedure args =
    made-honest serves.serving.program (own_end s) (2 * number) xid number procedure (number_of terms.service) (handle_of lease.id) args body h.called.fits (omega (arith, h.number_left)) h.xid_fits (omega (arith, h.number_left)) h.procedure_fits h.served h.protected (handle-length lease.id) h.proper
    (carries s args confounder terms.service h.number_left h.size h.block h.octets) in
    let call : CallValue = made_value serves.serving.program.id (own_end s) (2 * number) xid procedure (data_cred lease terms.service number) body in
    let same_call : call ≡ honest.call = heard-call serves.serving.program made (caller_of lease) number procedure args call honest (made-read serves.serving.program.id (own_end s) (2 * number) xid procedure lease terms.service number body h.called.fits h.xid_fits h.procedure_fits) in
    let same_cred : data_cred lease terms.service number ≡ honest.cred = heard-cred serves.serving.program made (caller_of lease) number procedure args call (data_cred lease terms.service number) honest same_call (cred-read lease terms.service number (omega (arith, h.number_left))) in
    let handle : handle_id honest.cred.context ≡ Some lease.id = ap (λ (c : CredValue). handle_id c.context) (sym same_cred) ∙ id-again lease.id h.id in
    let ruled = law made kept serves.serving number procedure args honest lease.id handle a.looked in
    let same : data_call s procedure args confounder ≡ made = is-made serves.serving.program s procedure args confounder h.called in
    let done = ruled.done a.admitted a.result a.is_admitted a.is_result in
    let reply : (record_ruling made kept serves.serving).reply ≡ Some (reply_octets (replying lease terms.service number xid block a.result)) =
    done.replied
    ∙ (ap (λ (x : ℕ). Some (reply_octets (accepted x 6 (mic_of (end_of lease) (2 * number) (word number)) 0 0 0 (result_body (end_of lease) honest.cred block a.result)))) (ap (λ (c : CallValue). c.xid) (sym same_call))
    ∙ ap (λ (c : CredValue). Some (reply_octets (accepted xid 6 (mic_of (end_of lease) (2 * number) (word number)) 0 0 0 (result_body (end_of lease) c block a.result)))) (sym same_cred)) in
    let size : length block ≡ 16 = drawn-block kept.draws a.drawn in
    let octets : List ℕ = reply_octets (replying lease terms.service number xid block a.result) in
    record {
      rule = ap (λ (zs : List ℕ). (record_ruling zs kept serves.serving).rule) same ∙ done.rule;
      answer = ap (λ (zs : List ℕ). calls s procedure args confounder (framed (record_ruling zs kept serves.serving).reply ++ rest)) same
          ∙ (ap (λ (r : Option (List ℕ)). calls s procedure args confounder (framed r ++ rest)) reply
          ∙ taken s procedure args confounder octets rest a.result (replying-fits lease terms.service number xid block a.result a.short size) (result-read keys lease terms number xid block a.result for (omega (arith, h.number_left)) h.xid_fits a.short size a.octets));
    }
