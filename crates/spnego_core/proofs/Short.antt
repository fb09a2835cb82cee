-- The tokens of both ends are short.
use Rattle.std.proofs.Common.{◌≡◌, ℕ, ◌+◌, ◌≤◌, ◌&&◌, if◌then◌else◌, Bool, true, false, nat_le, refl, sym, subst, arith, List, [], ◌∷◌, length, Option, Some, None, Result, Ok, Err}
use Rattle.std.proofs.lemmas.Bool.{leb-true}
use Rattle.sec_base.specs.Oid.{are_arcs, is_oid}
use Rattle.krb_tokens.specs.declared.end.Side.{Side}
use Rattle.der_core.specs.Format.{Format}
use Rattle.der_core.specs.Fields.{optional_spelling}
use Rattle.der_core.specs.Element.{octet_string, explicit}
use Rattle.der_core.specs.Values.{object_identifier}
use Rattle.spnego_msgs.specs.declared.neg_state.NegState.{NegState}
use Rattle.spnego_msgs.specs.declared.neg_resp.NegResp.{NegResp}
use Rattle.spnego_msgs.specs.Lists.{list_octets}
use Rattle.spnego_msgs.specs.NegResp.{state_number, neg_state, neg_resp}
use Rattle.ap_exchange.specs.declared.judged.Judged.{Judged}
use Rattle.spnego_core.specs.declared.outcome.Outcome.{Outcome}
use Rattle.spnego_core.specs.declared.accept_mech.AcceptAnswer.{AcceptAnswer}
use Rattle.spnego_core.specs.declared.accept_end.Turn.{Turn}
use Rattle.spnego_core.specs.declared.accept_end.Turn.TheVariants.{First, Later, Bare}
use Rattle.std.specs.Prelude.{IfOk, IfSome}
use Rattle.spnego_core.specs.Outcome.{token_end}
use Rattle.spnego_core.specs.Tokens.{says_completed, alone, resp_octets, completes, last_octets}
use Rattle.spnego_core.specs.ListMic.{list_mic}
use Rattle.spnego_core.specs.AcceptMech.{request_answered}
use Rattle.spnego_core.specs.Accepting.{state_said, mech_said, octets_of, reply_with, reply}
use Rattle.spnego_core.specs.Sizes.{IsShort, FitsBeside, IsMicSized, ShortTold}
use Rattle.spnego_core.proofs.Sizes.{Within, more, none, both, element_within, string_within, oid_within, answer_within, mic_within}

optional_within : {A : Type 0} (format : Format A) (o : Option A) (n : ℕ) → ((v : A) → o ≡ Some v → Within (format.spell v) n) → Within (optional_spelling format o) n
optional_within format None n f = more n (omega arith) none
optional_within format (Some v) n f = f v refl

state_within : (state : NegState) → Within (neg_state.spell state) 7
unfolding neg_state
state_within state = element_within 0x0a one
  where
    one : Within (state_number state ∷ []) 1
    one = record { most = omega arith }

pub resp_within : (resp : NegResp) (n : ℕ) → ((v : List ℕ) → resp.mech ≡ Some v → Within v 32) → ((v : List ℕ) → resp.token ≡ Some v → Within v n) → ((v : List ℕ) → resp.mic ≡ Some v → Within v 28) → Within (resp_octets resp) (n + 121)
unfolding resp_octets neg_resp
resp_within resp n mech token mic =
    more (n + 121) (omega arith) (element_within 0xa1 (element_within 0x30
    (both (optional_within (explicit 0xa0 neg_state) resp.state 13 (λ v e. element_within 0xa0 (state_within v)))
    (both (optional_within (explicit 0xa1 object_identifier) resp.mech 44 (λ v e. element_within 0xa1 (oid_within v (mech v e))))
    (both (optional_within (explicit 0xa2 octet_string) resp.token (n + 12) (λ v e. more (n + 12) (omega arith) (element_within 0xa2 (string_within v (token v e)))))
    (both (optional_within (explicit 0xa3 octet_string) resp.mic 40 (λ v e. element_within 0xa3 (string_within v (mic v e))))
    none))))))

pub some-is : (a v : List ℕ) (n : ℕ) → Within a n → Some a ≡ Some v → Within v n
some-is a v n w e = let same : a ≡ v = cc in subst (λ (x : List ℕ). Within x n) same w

pub none-is : (v : List ℕ) (n : ℕ) → None ≡ Some v → Within v n
none-is v n e = absurd (let f : None ≡ Some v = e in cc)

pub list_mic_within : (outcome : Outcome) (side : Side) (list : List (List ℕ)) → Within (list_mic outcome side list) 28
unfolding list_mic
list_mic_within outcome side list = mic_within (token_end outcome side) 0 (list_octets list)

-- ---- the acceptor

and_last : (a b : Bool) → (a && b) ≡ true → b ≡ true
and_last true b e = e
and_last false b e = cc

-- an object identifier's content has at most 32 octets
pub few_oid : (oid : List ℕ) → is_oid oid ≡ true → length oid ≤ 32
few_oid oid e =
    leb-true (length oid) 32
    (and_last (nat_le 1 (length oid)) (nat_le (length oid) 32) (and_last (are_arcs true oid) (nat_le 1 (length oid) && nat_le (length oid) 32) e))

pub named_within : (turn : Turn) (oid : List ℕ) (v : List ℕ) → length oid ≤ 32 → mech_said turn oid ≡ Some v → Within v 32
named_within First oid v few e = some-is oid v 32 (record { most = few }) e
named_within Later oid v few e = none-is v 32 e
named_within Bare oid v few e = none-is v 32 e

alone_short : (token : Option (List ℕ)) → ((v : List ℕ) → token ≡ Some v → IsShort v) → IsShort (alone token)
alone_short None t = omega arith
alone_short (Some v) t = t v refl

-- a reply in its turn
pub octets_short : (turn : Turn) (resp : NegResp) → IsShort (resp_octets resp) → ((v : List ℕ) → resp.token ≡ Some v → IsShort v) → IsShort (octets_of turn resp)
octets_short First resp h t = h
octets_short Later resp h t = h
octets_short Bare resp h t = alone_short resp.token t

reply_within : (turn : Turn) (oid : List ℕ) (owes finished : Bool) (token mic : Option (List ℕ)) → length oid ≤ 32 → ((v : List ℕ) → token ≡ Some v → Within v 61040) → ((v : List ℕ) → mic ≡ Some v → Within v 28) → IsShort (reply turn oid owes finished token mic)
reply_within turn oid owes finished token mic few t m =
    octets_short turn (reply_with turn oid owes finished token mic)
    (omega (arith, (resp_within (reply_with turn oid owes finished token mic) 61040 (λ v e. named_within turn oid v few e) t m).most)) (λ v e. omega (arith, (t v e).most))

if_within : {P : List ℕ → Type 0} (o : Option (List ℕ)) (n : ℕ) → ((v : List ℕ) → P v → length v ≤ n) → IfSome o P → (v : List ℕ) → o ≡ Some v → Within v n
if_within None n f h v e = none-is v n e
if_within (Some x) n f h v e = some-is x v n (record { most = f x h }) e

pub reply_short : (turn : Turn) (oid : List ℕ) (owes finished : Bool) (token mic : Option (List ℕ)) → length oid ≤ 32 → IfSome token FitsBeside → IfSome mic IsMicSized → IsShort (reply turn oid owes finished token mic)
reply_short turn oid owes finished token mic few t m =
    reply_within turn oid owes finished token mic few (if_within token 61040 (λ v h. h) t) (if_within mic 28 (λ v h. h) m)

-- a reply's octets, by what it says of the negotiation and the mechanism that it names
pub if_reply : {E : Type 0} (turn : Turn) (oid : List ℕ) (owes finished : Bool) (state : Option NegState) (mech token mic : Option (List ℕ)) (r : Result (List ℕ) E) → length oid ≤ 32 → state ≡ state_said turn owes finished → mech ≡ mech_said turn oid
    → IfOk r (λ o. o ≡ octets_of turn (record { state = state; mech = mech; token = token; mic = mic })) → IfSome token FitsBeside → IfSome mic IsMicSized → IfOk r IsShort
if_reply turn oid owes finished state mech token mic (Ok o) few s m h t k =
    let stated : o ≡ octets_of turn (record { state = state_said turn owes finished; mech = mech; token = token; mic = mic }) = subst (λ (x : Option NegState). o ≡ octets_of turn (record { state = x; mech = mech; token = token; mic = mic })) s h in
    let named : o ≡ reply turn oid owes finished token mic = subst (λ (x : Option (List ℕ)). o ≡ octets_of turn (record { state = state_said turn owes finished; mech = x; token = token; mic = mic })) m stated in
    subst IsShort (sym named) (reply_short turn oid owes finished token mic few t k)
if_reply turn oid owes finished state mech token mic (Err refusal) few s m h t k = tt

-- the answer to a request
pub request_short : (request : Judged) (draws : List ℕ) (answer : AcceptAnswer) → length draws ≡ 66 → answer ≡ (request_answered draws [] request).answer → ShortTold answer
request_short request draws answer drawn e = subst ShortTold (sym e) (omega (arith, (answer_within request draws drawn).most))

pub if_answer : {E : Type 0} (request : Judged) (draws : List ℕ) (r : Result AcceptAnswer E) → length draws ≡ 66 → IfOk r (λ answer. answer ≡ (request_answered draws [] request).answer) → IfOk r ShortTold
if_answer request draws (Ok answer) drawn e = request_short request draws answer drawn e
if_answer request draws (Err refusal) drawn e = tt

-- the last reply
completes_short : IsShort (resp_octets completes)
completes_short = omega (arith, (resp_within completes 0 (λ v e. none-is v 32 e) (λ v e. none-is v 0 e) (λ v e. none-is v 28 e)).most)

last_by : (b : Bool) → IsShort (if b then [] else resp_octets completes)
last_by true = omega arith
last_by false = completes_short

pub last_short : (state : Option NegState) → IsShort (last_octets state)
last_short state = last_by (says_completed state)
