-- One call by integrity, record by record: what its record says and asks, and what is found verified in it.
use Rattle.std.proofs.Common.{◌≡◌, inl, inr, ℕ, ◌+◌, ◌*◌, ◌≤◌, ◌<◌, ◌^◌, lit<, lit≤, true, false, refl, ap, sym, subst, ◌∙◌, arith, Bool, cond, List, [], ◌∷◌, ◌++◌, length, map, take, replicate, Option, Some, None, Result, Ok}
use Rattle.std.specs.Prelude.{◌==◌}
use Rattle.std.proofs.lemmas.List.{length-append}
use Rattle.std.proofs.lemmas.Nat.{from_be_bytes-to_be_bytes_8}
use Rattle.std.proofs.Math.Seq.{take-append_seam}
use Rattle.krb_derive.specs.Making.{Making}
use Rattle.krb_tokens.specs.declared.end.Side.TheVariants.{Initiator, Acceptor}
use Rattle.krb_tokens.specs.declared.end.TokenEnd.{TokenEnd}
use Rattle.krb_tokens.specs.declared.end.TokenRefusal.{TokenRefusal}
use Rattle.krb_tokens.specs.Makings.{mic_making, found_of_mic}
use Rattle.krb_tokens.specs.Mic.{mic_header, mic_of, checked_mic}
use Rattle.krb_tokens.specs.Tokens.{IsMicOf}
use Rattle.krb_tokens.proofs.Taken.{mic-taken}
use Rattle.rpc_msgs.specs.Words.{word}
use Rattle.rpc_msgs.specs.Auths.{auth_octets}
use Rattle.rpc_msgs.specs.Calls.{CallValue, secure_call, call_at}
use Rattle.rpc_msgs.proofs.CallLaws.{call-only}
use Rattle.rpc_msgs.proofs.WordLengths.{length-word}
use Rattle.rpcsec_msgs.specs.Bodies.{checked_octets}
use Rattle.rpcsec_msgs.specs.Cred.{CredValue, cred_octets, cred_at}
use Rattle.rpcsec_msgs.proofs.BodyLaws.{checked-only}
use Rattle.rpcsec_msgs.proofs.CredLaws.{cred-only}
use Rattle.scram_mech.specs.MechMaking.{MechMaking, AmongMakings, typed}
use Rattle.spnego_core.specs.declared.outcome.Outcome.{Outcome}
use Rattle.spnego_core.specs.Outcome.{token_end}
use Rattle.accept_book.specs.declared.book_answer.Lease.{Lease}
use Rattle.accept_book.specs.Honest.{Honest, data_header, made_call}
use Rattle.accept_book.specs.RecordRule.{record_ruling, call_ruling, ask_look, id_ruling}
use Rattle.accept_core.specs.declared.answer.LookRefusal.{LookRefusal}
use Rattle.accept_book.specs.RecordShown.{KeptAnswers, Look, Ruling, Shown, handle_of, handle_id}
use Rattle.posts_program.specs.Posts.{are_args}
use Rattle.std.specs.Prelude.{if◌then◌else◌}
use Rattle.std.proofs.lemmas.Bool.{lt-ltb}
use Rattle.rpcsec_bodies.specs.Service.{number_of}
use Rattle.rpcsec_bodies.specs.declared.service.Service.TheVariants as services
use Rattle.accept_book.proofs.HonestMakings.{mic-made}
use Rattle.rpcsec_bodies.proofs.Lengths.{mic-size}
use Rattle.rpcsec_bodies.specs.Protection.{protected}
use Rattle.gss_client.specs.Calling.{header_of, verifier_of, signed_call, data_call}
use Rattle.gss_client.specs.Session.{SessionState}
use Rattle.gss_client.specs.Talk.{begun}
use Rattle.gss_client.proofs.CallLengths.{cred-fits}
use Rattle.world_laws.specs.Initiators.{header_making, call_makings}
use Rattle.rpc_program.specs.Programs.{Serving}
use Rattle.world_laws.specs.Lanes.{found_in_checked, secure_call_in, found_in_header, found_in_body, found_in_call}
use Rattle.world_runs.specs.Served.{served, own_terms}

-- a call of a session, which has this outcome and this context's handle
pub record Made : Type 0 where
  pub outcome : Outcome
  pub id : ℕ
  pub number : ℕ
  pub xid : ℕ
  pub procedure : ℕ
  pub args : List ℕ
  pub id_fits : id < 2 ^ 64
  pub few : number ≤ 0x7fffffff
  pub xid_fits : xid < 2 ^ 32
  pub served : procedure ≤ 4
  pub proper : are_args procedure args ≡ true
  pub size : length args ≤ 65540

abbrev pub session_of : Made → SessionState
session_of m = begun own_terms m.number m.xid m.outcome (handle_of m.id)

-- its record
abbrev pub record_of : Made → List ℕ
record_of m = data_call (session_of m) m.procedure m.args (replicate 16 0)

abbrev pub own_end : Made → TokenEnd
own_end m = token_end m.outcome Initiator

abbrev pub cred_with : Made → CredValue
cred_with m = record { proc = 0; seq = m.number; service = 2; context = handle_of m.id }

abbrev pub header_with : Made → List ℕ
header_with m = data_header served.program.id m.xid m.procedure (cred_with m)

abbrev pub numbered_args : Made → List ℕ
numbered_args m = word m.number ++ m.args

abbrev pub verifier_with : Made → List ℕ
verifier_with m = mic_of (own_end m) (2 * m.number) (header_with m)

abbrev pub body_mic : Made → List ℕ
body_mic m = mic_of (own_end m) (2 * m.number + 1) (numbered_args m)

abbrev pub body_with : Made → List ℕ
body_with m = checked_octets (numbered_args m) (body_mic m)

abbrev pub value_with : Made → CallValue
value_with m = secure_call m.xid served.program.id.number served.program.id.version m.procedure (cred_octets (cred_with m)) (record { flavour = 6; body = verifier_with m }) (body_with m)

abbrev pub octets_with : Made → List ℕ
octets_with m = made_call served.program.id (own_end m) (2 * m.number) m.xid m.procedure (cred_with m) (body_with m)

is-made : (m : Made) → record_of m ≡ octets_with m
unfolding data_call signed_call verifier_of header_of protected
is-made m = refl

-- ---- how it reads

handle-length : (id : ℕ) → length (handle_of id) ≡ 8
handle-length id = refl

pub call-is : (m : Made) → call_at (octets_with m) ≡ Ok (value_with m)
call-is m = call-only (value_with m) (record {
  xid = m.xid_fits;
  program = lit< tt;
  version = lit< tt;
  procedure = omega (arith, m.served);
  cred = record { flavour = lit< tt; body = cred-fits (cred_with m) (omega (arith, handle-length m.id)) };
  verf = record { flavour = lit< tt; body = omega (arith, mic-size (own_end m) (2 * m.number) (header_with m)) };
  header = refl;
})

pub cred-is : (m : Made) → cred_at (cred_octets (cred_with m)) ≡ Ok (cred_with m)
cred-is m = cred-only (cred_with m) (record { proc = lit≤ tt; seq = omega (arith, m.few); service = lit< tt; served = refl; context = omega (arith, handle-length m.id) })

pub seam : (m : Made) → take (length (header_with m)) (octets_with m) ≡ header_with m
seam m = take-append_seam (header_with m) (auth_octets (record { flavour = 6; body = verifier_with m }) ++ body_with m)

pub long-args : (m : Made) → length (numbered_args m) ≤ 65544
long-args m = omega (arith, length-append (word m.number) m.args, length-word m.number, m.size)

-- integrity is what a procedure needs at most
pub allowed-is : (b : Bool) → number_of (if b then services.None else services.Integrity) ≤ 2
allowed-is true = omega arith
allowed-is false = omega arith

-- it is an honest call of its context
abbrev pub honest : (m : Made) → Honest served.program (octets_with m) (own_end m) m.number m.procedure m.args
honest m = record {
  call = value_with m;
  cred = cred_with m;
  reads = call-is m;
  flavour = refl;
  header = cred-is m;
  is_data = refl;
  number = refl;
  few = omega (arith, m.few);
  number_called = refl;
  version_called = refl;
  called = refl;
  served = lt-ltb m.procedure 5 (omega (arith, m.served));
  allowed = allowed-is (m.procedure == 0);
  secured = refl;
  verifier = subst (λ (zs : List ℕ). IsMicOf (own_end m) zs (verifier_with m)) (sym (seam m)) (mic-made (own_end m) (2 * m.number) (header_with m) (omega (arith, m.few)));
  body = inr (inl (refl, record { tag = body_mic m; mic = mic-made (own_end m) (2 * m.number + 1) (numbered_args m) (omega (arith, m.few)); long = omega (arith, long-args m); spelled = refl }));
  proper = m.proper;
}

pub handle-is : (m : Made) → handle_id (cred_with m).context ≡ Some m.id
handle-is m = ap Some (from_be_bytes-to_be_bytes_8 m.id m.id_fits)

abbrev pub shown_with : Made → KeptAnswers → Serving → Shown
shown_with m kept serves = record { record_octets = octets_with m; call = value_with m; now = kept.now; draws = kept.draws; serves = serves }

-- it asks for its context first
pub asks-look : (m : Made) (kept : KeptAnswers) (serves : Serving) → record_ruling (octets_with m) kept serves ≡ ask_look (shown_with m kept serves) (cred_with m) m.id kept.admitted kept.ended kept.looked
unfolding record_ruling call_ruling
asks-look m kept serves = rw (call-is m) (rw (cred-is m) (ap (id_ruling (shown_with m kept serves) (cred_with m) kept.looked kept.admitted kept.ended) (handle-is m)))

-- ---- what is found verified in it

found-mic : (outcome : Outcome) (number : ℕ) (octets : List ℕ) (r : Result (Unit {0}) TokenRefusal) → r ≡ Ok tt
    → found_of_mic (token_end outcome Acceptor) (mic_of (token_end outcome Initiator) number octets) octets r ≡ mic_making (token_end outcome Initiator) number octets ∷ []
unfolding mic_of mic_header
found-mic outcome number octets r e = rw e refl

checked-is : (outcome : Outcome) (number : ℕ) (octets : List ℕ) → checked_mic (token_end outcome Acceptor) (mic_of (token_end outcome Initiator) number octets) octets ≡ Ok tt
checked-is outcome number octets = mic-taken (token_end outcome Initiator) number octets

abbrev pub args_making : Made → Making
args_making m = mic_making (own_end m) (2 * m.number + 1) (numbered_args m)

abbrev pub header_found : Made → Making
header_found m = mic_making (own_end m) (2 * m.number) (header_with m)

header-found : (m : Made) → found_in_header (token_end m.outcome Acceptor) (octets_with m) (value_with m) ≡ header_found m ∷ []
header-found m =
    ap (λ (zs : List ℕ). found_of_mic (token_end m.outcome Acceptor) (verifier_with m) zs (checked_mic (token_end m.outcome Acceptor) (verifier_with m) zs)) (seam m)
    ∙ found-mic m.outcome (2 * m.number) (header_with m) (checked_mic (token_end m.outcome Acceptor) (verifier_with m) (header_with m)) (checked-is m.outcome (2 * m.number) (header_with m))

body-found : (m : Made) → found_in_body (token_end m.outcome Acceptor) 2 (body_with m) ≡ args_making m ∷ []
body-found m =
    ap (found_in_checked (token_end m.outcome Acceptor)) (checked-only (numbered_args m) (body_mic m) (omega (arith, long-args m)) (omega (arith, mic-size (own_end m) (2 * m.number + 1) (numbered_args m))))
    ∙ found-mic m.outcome (2 * m.number + 1) (numbered_args m) (checked_mic (token_end m.outcome Acceptor) (body_mic m) (numbered_args m)) (checked-is m.outcome (2 * m.number + 1) (numbered_args m))

said-is : (m : Made) → secure_call_in (octets_with m) ≡ Some (value_with m, cred_with m)
said-is m = rw (call-is m) (rw (cred-is m) refl)

found-made : (m : Made) → found_in_header (token_end m.outcome Acceptor) (octets_with m) (value_with m) ++ found_in_body (token_end m.outcome Acceptor) 2 (body_with m) ≡ header_found m ∷ args_making m ∷ []
found-made m = λ i. header-found m i ++ body-found m i

-- by a lease with its outcome
found-call : (m : Made) (lease : Lease) → lease.outcome ≡ m.outcome → found_in_call lease (octets_with m) (secure_call_in (octets_with m)) ≡ header_found m ∷ args_making m ∷ []
found-call m lease same =
    ap (found_in_call lease (octets_with m)) (said-is m)
    ∙ (ap (λ (o : Outcome). found_in_header (token_end o Acceptor) (octets_with m) (value_with m) ++ found_in_body (token_end o Acceptor) 2 (body_with m)) same ∙ found-made m)

-- the initiator handed both out
header-is : (m : Made) → header_found m ≡ header_making (session_of m) 0 2 m.procedure
unfolding header_of
header-is m = refl

behind-bare : (b : Bool) (bare : Making) (back : List Making) (making : MechMaking) → AmongMakings (map typed back) making → AmongMakings (map typed (cond b (bare ∷ []) [] ++ back)) making
behind-bare true bare back making a = inr a
behind-bare false bare back making a = a

both-made : (m : Made) (making : MechMaking) → AmongMakings (map typed (header_found m ∷ args_making m ∷ [])) making → AmongMakings (map typed (call_makings (session_of m) m.procedure m.args)) making
both-made m making (inl e) = behind-bare (m.procedure == 0) (header_making (session_of m) 0 1 m.procedure) _ making (inl (e ∙ ap typed (header-is m)))
both-made m making (inr (inl e)) = behind-bare (m.procedure == 0) (header_making (session_of m) 0 1 m.procedure) _ making (inr (inr (inr (inl e))))
both-made m making (inr (inr none)) = absurd none

-- ---- all of it, of the record as the session writes it

-- what is known of a record of a call, by a lease of its context
pub record IsRecord (m : Made) (octets : List ℕ) : Type 0 where
  pub honest : Honest served.program octets (own_end m) m.number m.procedure m.args
  pub handle : handle_id honest.cred.context ≡ Some m.id
  pub looks : (kept : KeptAnswers) (serves : Serving) → kept.looked ≡ None → (record_ruling octets kept serves).due ≡ Some (Look m.id kept.now)
  pub found : (lease : Lease) → lease.outcome ≡ m.outcome → (making : MechMaking) → AmongMakings (map typed (found_in_call lease octets (secure_call_in octets))) making → AmongMakings (map typed (call_makings (session_of m) m.procedure m.args)) making

looks-first : (m : Made) (kept : KeptAnswers) (serves : Serving) → kept.looked ≡ None → (record_ruling (octets_with m) kept serves).due ≡ Some (Look m.id kept.now)
looks-first m kept serves none =
    ap (λ (r : Ruling). r.due) (asks-look m kept serves) ∙ ap (λ (l : Option (Result Lease LookRefusal)). (ask_look (shown_with m kept serves) (cred_with m) m.id kept.admitted kept.ended l).due) none

pub is-record : (m : Made) → IsRecord m (record_of m)
is-record m = subst (IsRecord m) (sym (is-made m)) (record {
  honest = honest m;
  handle = handle-is m;
  looks = looks-first m;
  found = λ lease same making among. both-made m making (subst (λ (ms : List Making). AmongMakings (map typed ms) making) (found-call m lease same) among);
})
