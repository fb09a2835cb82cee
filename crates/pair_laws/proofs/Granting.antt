-- The replies that a creation has are granted: a context that goes on, and one that is settled, on which the session stands.
use Rattle.std.proofs.Common.{◌≡◌, ℕ, ◌≤◌, ◌<◌, ◌^◌, lit<, lit≤, nat_le, true, false, refl, arith, List, [], length, Ok}
use Rattle.std.specs.Prelude.{◌==◌}
use Rattle.std.proofs.lemmas.Bool.Decides.{nat_tests}
use Rattle.rpc_msgs.specs.Words.{word}
use Rattle.rpc_msgs.specs.Replies.{ReplyValue, accepted, reply_octets}
use Rattle.rpc_msgs.specs.ReplyReading.{reply_at}
use Rattle.rpc_msgs.proofs.ReplyLaws.{reply-only}
use Rattle.rpcsec_msgs.specs.InitRes.{init_res_octets, IsInitRes}
use Rattle.rpcsec_msgs.specs.declared.init_res.InitRes.{InitRes}
use Rattle.rpcsec_msgs.proofs.InitResLaws.{init_res-only}
use Rattle.krb_tokens.specs.declared.end.Side.TheVariants.{Initiator, Acceptor}
use Rattle.krb_tokens.specs.Mic.{mic_of, checked_mic}
use Rattle.krb_tokens.proofs.Taken.{mic-taken}
use Rattle.spnego_core.specs.declared.outcome.Outcome.{Outcome}
use Rattle.spnego_core.specs.Ends.{EndSays}
use Rattle.spnego_core.specs.EndSteps as steps
use Rattle.spnego_core.specs.Initiating.{init_step, step_of}
use Rattle.spnego_core.specs.Outcome.{token_end}
use Rattle.rpcsec_bodies.proofs.Lengths.{mic-size}
use Rattle.accept_book.specs.RecordShown.{handle_of}
use Rattle.gss_client.specs.Creation as created
use Rattle.gss_client.specs.Judging.{answer_in, granted_in, GrantedValue, by_step, creation_by, creation_step}
use Rattle.gss_server.proofs.BodyLengths.{init-fits}
use Rattle.gss_server.proofs.ReplyLengths.{accepted-fits}

same-xid : (xid : ℕ) → (xid == xid) ≡ true
same-xid xid = grind (arith, nat_tests)

handle-length : (id : ℕ) → length (handle_of id) ≡ 8
handle-length id = refl

-- ---- any result of a creation

-- a reply with this result: the verifier has its kind, and is of at most 400 octets
abbrev pub reply_with : ℕ → ℕ → List ℕ → InitRes → ReplyValue
reply_with xid flavour verf result = accepted xid flavour verf 0 0 0 (init_res_octets result)

abbrev pub granted_with : ℕ → ℕ → List ℕ → InitRes → GrantedValue
granted_with xid flavour verf result = record {
  answer = record { flavour = flavour; verf = verf; stat = 0; result = init_res_octets result; size = length (reply_octets (reply_with xid flavour verf result)) };
  result = result;
}

reply-reads : (xid flavour : ℕ) (verf : List ℕ) (result : InitRes) → xid < 2 ^ 32 → flavour < 2 ^ 32 → length verf ≤ 400 → reply_at (reply_octets (reply_with xid flavour verf result)) ≡ Ok (reply_with xid flavour verf result)
reply-reads xid flavour verf result fits kind few =
    reply-only (reply_with xid flavour verf result) (few, (λ other. absurd (other refl)), (λ other. refl), (λ other. refl)) (fits, kind, lit< tt, lit< tt, lit< tt)

pub grants : (xid flavour : ℕ) (verf : List ℕ) (result : InitRes) → xid < 2 ^ 32 → flavour < 2 ^ 32 → length verf ≤ 400 → IsInitRes result → result.major ≤ 1
    → granted_in xid (reply_octets (reply_with xid flavour verf result)) ≡ Ok (granted_with xid flavour verf result)
unfolding granted_in answer_in
grants xid flavour verf result fits kind few is low =
    let due : nat_le result.major 1 ≡ true = grind (arith, nat_tests) in
    rw (reply-reads xid flavour verf result fits kind few) (rw (same-xid xid) (rw (init_res-only result is) (rw due refl)))

-- ---- a context that is settled

-- the result of a creation that is complete
abbrev pub result_with : ℕ → ℕ → List ℕ → InitRes
result_with id width token = record { context = handle_of id; major = 0; minor = 0; window = width; token = token }

-- the acceptor's MIC over the window
abbrev pub window_mic : Outcome → ℕ → List ℕ
window_mic outcome width = mic_of (token_end outcome Acceptor) 1 (word width)

abbrev pub granting : ℕ → Outcome → ℕ → ℕ → List ℕ → ReplyValue
granting xid outcome id width token = reply_with xid 6 (window_mic outcome width) (result_with id width token)

stands : (xid : ℕ) (outcome : Outcome) (id width : ℕ) (token : List ℕ) → 0 < width → by_step {E = EndSays} (granted_with xid 6 (window_mic outcome width) (result_with id width token)) (steps.Done outcome) ≡ Ok (created.Stands outcome (handle_of id))
unfolding by_step
stands xid outcome id width token some =
    let wide : (width == 0) ≡ false = grind (arith, nat_tests) in
    let good : checked_mic (token_end outcome Initiator) (window_mic outcome width) (word width) ≡ Ok tt = mic-taken (token_end outcome Acceptor) 1 (word width) in
    rw (wide, good) refl

pub creation-stands : (xid : ℕ) (end : EndSays) (outcome : Outcome) (id width : ℕ) (token : List ℕ) → xid < 2 ^ 32 → 0 < width → width < 2 ^ 32 → length token ≤ 65536 → step_of (init_step end token) ≡ Ok (steps.Done outcome)
    → creation_step end xid (reply_octets (granting xid outcome id width token)) ≡ Ok (created.Stands outcome (handle_of id))
unfolding creation_by
creation-stands xid end outcome id width token fits some wide few takes =
    let is : IsInitRes (result_with id width token) = record { context = omega (arith, handle-length id); major = lit< tt; minor = lit< tt; window = wide; token = few } in
    rw (grants xid 6 (window_mic outcome width) (result_with id width token) fits (lit< tt) (omega (arith, mic-size (token_end outcome Acceptor) 1 (word width))) is (lit≤ tt)) (rw takes (stands xid outcome id width token some))

-- the reply fits into a record
pub granting-fits : (xid : ℕ) (outcome : Outcome) (id width : ℕ) (token : List ℕ) → length token ≤ 65536 → length (reply_octets (granting xid outcome id width token)) ≤ 131072
granting-fits xid outcome id width token few =
    accepted-fits xid 6 (window_mic outcome width) 0 0 0 (init_res_octets (result_with id width token)) (omega (arith, mic-size (token_end outcome Acceptor) 1 (word width))) (init-fits (result_with id width token) (omega (arith, handle-length id)) few)

-- ---- a context that goes on

abbrev pub result_on : ℕ → List ℕ → InitRes
result_on id token = record { context = handle_of id; major = 1; minor = 0; window = 0; token = token }

abbrev pub going : ℕ → ℕ → List ℕ → ReplyValue
going xid id token = reply_with xid 0 [] (result_on id token)

pub creation-goes : (xid : ℕ) (end after : EndSays) (id : ℕ) (token further : List ℕ) → xid < 2 ^ 32 → length token ≤ 65536 → step_of (init_step end token) ≡ Ok (steps.More after further)
    → creation_step end xid (reply_octets (going xid id token)) ≡ Ok (created.Going (record { end = after; handle = handle_of id; token = further }))
unfolding creation_by by_step
creation-goes xid end after id token further fits few takes =
    let is : IsInitRes (result_on id token) = record { context = omega (arith, handle-length id); major = lit< tt; minor = lit< tt; window = lit< tt; token = few } in
    rw (grants xid 0 [] (result_on id token) fits (lit< tt) (lit≤ tt) is (lit≤ tt)) (rw takes refl)

pub going-fits : (xid id : ℕ) (token : List ℕ) → length token ≤ 65536 → length (reply_octets (going xid id token)) ≤ 131072
going-fits xid id token few = accepted-fits xid 0 [] 0 0 0 (init_res_octets (result_on id token)) (lit≤ tt) (init-fits (result_on id token) (omega (arith, handle-length id)) few)
