-- The tokens of an initiator are short.
use Rattle.std.proofs.Common.{◌≡◌, ℕ, ◌≤◌, Bool, true, false, sym, subst, arith, List, [], ◌∷◌, length, map, Option, Result, Ok, Err}
use Rattle.gss_base.specs.declared.mech.KerberosName.TheVariants.{Standard, Microsoft}
use Rattle.gss_base.specs.declared.mech.MechName.{MechName}
use Rattle.gss_base.specs.declared.mech.MechName.TheVariants as names
use Rattle.gss_base.specs.Mech.{oid_named}
use Rattle.gss_base.specs.Principal.{is_named}
use Rattle.krb_tokens.specs.declared.end.Side.TheVariants.{Initiator}
use Rattle.krb_files.specs.Granted.{Granted}
use Rattle.der_core.specs.Values.{object_identifier}
use Rattle.der_core.specs.Fields.{many_spelling}
use Rattle.spnego_msgs.specs.Lists.{mech_types}
use Rattle.spnego_msgs.specs.NegInit.{spnego_identifier, neg_init}
use Rattle.ap_exchange.specs.declared.request.ApInit.{ApInit}
use Rattle.ap_exchange.specs.Request.{request_token, request_of, RequestFits}
use Rattle.spnego_core.specs.declared.outcome.Outcome.{Outcome}
use Rattle.spnego_core.specs.declared.setup.MechCred.{MechCred}
use Rattle.spnego_core.specs.Ends.{PlainSetup}
use Rattle.spnego_core.specs.Tokens.{init_octets, first_octets, resp_octets}
use Rattle.spnego_core.specs.ListMic.{list_mic}
use Rattle.spnego_core.specs.InitMech.{name_of, oid_listed, is_own_list}
use Rattle.spnego_core.specs.Initiating.{first_sent, token_sent, mic_sent}
use Rattle.std.specs.Prelude.{IfOk}
use Rattle.spnego_core.specs.Sizes.{IsShort, FitsBeside}
use Rattle.spnego_core.proofs.Requests.{request-token}
use Rattle.spnego_core.proofs.Sizes.{Within, more, none, both, element_within, string_within, oid_within, request_within}
use Rattle.spnego_core.proofs.Short.{resp_within, some-is, none-is, list_mic_within}

pub request_fits : (credential : Granted) (stamp : ℕ) (draws : List ℕ) (bindings : Option (List ℕ)) (end : ApInit) (token : List ℕ) → request_of credential stamp draws bindings ≡ Ok (end, token) → length draws ≡ 66 → length credential.ticket ≤ 60000 → is_named credential.client.realm credential.client.parts ≡ true → RequestFits credential stamp draws bindings → FitsBeside token
request_fits credential stamp draws bindings end token sent drawn ticket named fits =
    let is : token ≡ request_token credential stamp draws bindings = request-token credential stamp draws bindings (end, token) sent in
    subst FitsBeside (sym is) (request_within credential stamp draws bindings drawn ticket named fits.hash).most

pub token_short : (token : List ℕ) → FitsBeside token → IsShort (resp_octets (token_sent token))
token_short token h =
    let own : Within token 61040 = record { most = h } in
    omega (arith, (resp_within (token_sent token) 61040 (λ v e. none-is v 32 e) (λ v e. some-is token v 61040 own e) (λ v e. none-is v 28 e)).most)

listed_within : (name : MechName) → Within (oid_named name) 9
listed_within (names.Kerberos Standard) = record { most = omega arith }
listed_within (names.Kerberos Microsoft) = record { most = omega arith }
listed_within names.Scram = record { most = omega arith }

own_within : (cred : MechCred) → Within (object_identifier.spell (oid_listed cred)) 15
own_within cred = oid_within (oid_listed cred) (listed_within (name_of cred))

list_within : (list : List MechCred) → is_own_list list ≡ true → Within (many_spelling object_identifier (map oid_listed list)) 45
list_within [] e = cc
list_within (only ∷ []) e = more 45 (omega arith) (both (own_within only) none)
list_within (first ∷ second ∷ []) e = more 45 (omega arith) (both (own_within first) (both (own_within second) none))
list_within (first ∷ second ∷ third ∷ []) e = more 45 (omega arith) (both (own_within first) (both (own_within second) (both (own_within third) none)))
list_within (first ∷ second ∷ third ∷ fourth ∷ rest) e = cc

pub first_short : (own : PlainSetup) (token : List ℕ) → is_own_list own.list ≡ true → FitsBeside token → IsShort (init_octets (first_sent own token))
unfolding init_octets neg_init spnego_identifier mech_types
first_short own token list h =
    let sent : Within token 61040 = record { most = h } in
    let name : Within (0x2b ∷ 6 ∷ 1 ∷ 5 ∷ 5 ∷ 2 ∷ []) 6 = record { most = omega arith } in
    let all : Within (init_octets (first_sent own token)) 61139 =
    more 61139 (omega arith) (element_within 0x60 (both (element_within 6 name) (element_within 0xa0 (element_within 0x30
    (both (element_within 0xa0 (element_within 0x30 (list_within own.list list)))
    (both none
    (both (element_within 0xa2 (string_within token sent))
    (both none none)))))))) in
    omega (arith, all.most)

-- by whether the initiator negotiates
pub opening_short : (negotiates : Bool) (own : PlainSetup) (token : List ℕ) → is_own_list own.list ≡ true → FitsBeside token → IsShort (first_octets negotiates (first_sent own token))
opening_short true own token list h = first_short own token list h
opening_short false own token list h = omega (arith, h)

pub if_short : {E : Type 0} (r : Result (List ℕ) E) (token : List ℕ) → IfOk r (λ o. o ≡ token) → IsShort token → IfOk r IsShort
if_short (Ok o) token e h = subst IsShort (sym e) h
if_short (Err refusal) token e h = tt

pub if_mic : {E : Type 0} (outcome : Outcome) (list : List (List ℕ)) (mic : List ℕ) (r : Result (List ℕ) E) → mic ≡ list_mic outcome Initiator list → IfOk r (λ o. o ≡ resp_octets (mic_sent mic)) → IfOk r IsShort
if_mic outcome list mic r e h =
    let own : Within mic 28 = subst (λ (x : List ℕ). Within x 28) (sym e) (list_mic_within outcome Initiator list) in
    if_short r (resp_octets (mic_sent mic)) h (omega (arith, (resp_within (mic_sent mic) 0 (λ v f. none-is v 32 f) (λ v f. none-is v 0 f) (λ v f. some-is mic v 28 own f)).most))
