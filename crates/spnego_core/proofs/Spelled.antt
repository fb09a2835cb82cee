-- Tokens that have not too many octets have a spelling that is read back.
use Rattle.std.proofs.Common.{◌≡◌, ℕ, ◌≤◌, ◌<◌, ◌^◌, ◌&&◌, Bool, true, refl, sym, subst, arith, List, [], ◌∷◌, ◌++◌, length, map, Option, Some, None, Ok, nat_lt}
use Rattle.std.proofs.lemmas.List.{length-append}
use Rattle.std.proofs.lemmas.Bool.Decides.{nat_tests}
use Rattle.sec_base.specs.Oid.{is_oid}
use Rattle.gss_base.specs.declared.mech.MechKind.{MechKind}
use Rattle.gss_base.specs.declared.mech.KerberosName.TheVariants.{Standard, Microsoft}
use Rattle.gss_base.specs.declared.mech.MechName.{MechName}
use Rattle.gss_base.specs.declared.mech.MechName.TheVariants as names
use Rattle.gss_base.specs.Mech.{oid_named}
use Rattle.der_core.specs.Header.{length_octets, tlv}
use Rattle.der_core.specs.Format.{Format}
use Rattle.der_core.specs.Element.{octet_string, explicit}
use Rattle.der_core.specs.Fields.{optional_spelling, optional_fits, many_spelling, many_fit}
use Rattle.der_core.specs.Values.{object_identifier}
use Rattle.spnego_msgs.specs.declared.neg_state.NegState.{NegState}
use Rattle.spnego_msgs.specs.declared.neg_resp.NegResp.{NegResp}
use Rattle.spnego_msgs.specs.NegResp.{neg_state, neg_resp}
use Rattle.spnego_msgs.specs.NegInit.{spnego_identifier, neg_init}
use Rattle.spnego_msgs.specs.Lists.{mech_types, is_count}
use Rattle.spnego_core.specs.declared.setup.MechCred.{MechCred}
use Rattle.spnego_core.specs.declared.accept_end.Turn.{Turn}
use Rattle.spnego_core.specs.declared.accept_end.Turn.TheVariants.{First, Later, Bare}
use Rattle.spnego_core.specs.declared.setup.AcceptSetup.{AcceptSetup}
use Rattle.spnego_core.specs.Bare.{bare_oid}
use Rattle.spnego_core.specs.Ends.{PlainSetup}
use Rattle.spnego_core.specs.Sizes.{IsShort}
use Rattle.spnego_core.specs.Tokens.{init_read, init_octets, resp_read, resp_octets}
use Rattle.spnego_core.specs.Choice.{listed_as}
use Rattle.spnego_core.specs.InitMech.{name_of, oid_listed, is_own_list}
use Rattle.spnego_core.specs.Accepting.{mech_said, reply_with}
use Rattle.spnego_core.specs.Initiating.{own_list, first_sent, token_sent, mic_sent}
use Rattle.spnego_core.proofs.Sizes.{Within}
use Rattle.spnego_core.proofs.Listed.{listed-named, listed-few}
use Rattle.spnego_core.proofs.Short.{resp_within, named_within, some-is, none-is}
use Rattle.spnego_core.proofs.Pairs.{init_again, resp_again}
use Rattle.spnego_core.proofs.Bares.{init-unbare}

-- what the octets spell fits, unless they are too many
record Sized (octets : List ℕ) (fits : Bool) : Type 0 where
  holds : length octets < 2 ^ 32 → fits ≡ true

both_hold : {a b : Bool} → a ≡ true → b ≡ true → (a && b) ≡ true
both_hold e f = rw (e, f) refl

below : (n m : ℕ) → n < m → nat_lt n m ≡ true
below n m h = grind (arith, nat_tests)

in_element : (tag : ℕ) (content : List ℕ) → length content ≤ length (tlv tag content)
unfolding tlv
in_element tag content = omega (arith, length-append (length_octets (length content)) content)

element_sized : (tag : ℕ) {content : List ℕ} {fits : Bool} → Sized content fits → Sized (tlv tag content) (fits && nat_lt (length content) (2 ^ 32))
element_sized tag {content} {fits} s = record {
  holds = λ h.
      let few : length content < 2 ^ 32 = omega (arith, h, in_element tag content) in
      both_hold (s.holds few) (below (length content) (2 ^ 32) few);
}

both_sized : {xs ys : List ℕ} {a b : Bool} → Sized xs a → Sized ys b → Sized (xs ++ ys) (a && b)
both_sized {xs} {ys} s t = record {
  holds = λ h. both_hold (s.holds (omega (arith, h, length-append xs ys))) (t.holds (omega (arith, h, length-append xs ys)));
}

any_sized : {octets : List ℕ} → Sized octets true
any_sized = record { holds = λ h. refl }

none_sized : Sized [] true
none_sized = record { holds = λ h. refl }

optional_sized : {A : Type 0} (format : Format A) (o : Option A) → ((v : A) → o ≡ Some v → Sized (format.spell v) (format.fits v)) → Sized (optional_spelling format o) (optional_fits format o)
optional_sized format None f = any_sized
optional_sized format (Some v) f = f v refl

string_sized : (octets : List ℕ) → Sized (octet_string.spell octets) (octet_string.fits octets)
unfolding octet_string
string_sized octets = element_sized 4 any_sized

state_sized : (state : NegState) → Sized (neg_state.spell state) (neg_state.fits state)
unfolding neg_state
state_sized state = element_sized 0x0a any_sized

oid_sized : (oid : List ℕ) → is_oid oid ≡ true → Sized (object_identifier.spell oid) (object_identifier.fits oid)
unfolding object_identifier
oid_sized oid e = element_sized 6 (record { holds = λ h. e })

-- ---- replies

resp_sized : (resp : NegResp) → ((v : List ℕ) → resp.mech ≡ Some v → is_oid v ≡ true) → Sized (resp_octets resp) (neg_resp.fits resp)
unfolding resp_octets neg_resp
resp_sized resp mech =
    element_sized 0xa1 (element_sized 0x30
    (both_sized (optional_sized (explicit 0xa0 neg_state) resp.state (λ v e. element_sized 0xa0 (state_sized v)))
    (both_sized (optional_sized (explicit 0xa1 object_identifier) resp.mech (λ v e. element_sized 0xa1 (oid_sized v (mech v e))))
    (both_sized (optional_sized (explicit 0xa2 octet_string) resp.token (λ v e. element_sized 0xa2 (string_sized v)))
    (both_sized (optional_sized (explicit 0xa3 octet_string) resp.mic (λ v e. element_sized 0xa3 (string_sized v)))
    any_sized)))))

named_oid : (name : MechName) → is_oid (oid_named name) ≡ true
named_oid (names.Kerberos Standard) = refl
named_oid (names.Kerberos Microsoft) = refl
named_oid names.Scram = refl

said_oid : (turn : Turn) (list : List (List ℕ)) (kind : MechKind) (v : List ℕ) → mech_said turn (listed_as list kind) ≡ Some v → is_oid v ≡ true
said_oid First list kind v e = let same : listed_as list kind ≡ v = cc in subst (λ (oid : List ℕ). is_oid oid ≡ true) same (subst (λ (oid : List ℕ). is_oid oid ≡ true) (sym (listed-named list kind).is) (named_oid (listed-named list kind).name))
said_oid Later list kind v e = absurd (let f : None ≡ Some v = e in cc)
said_oid Bare list kind v e = absurd (let f : None ≡ Some v = e in cc)

no_mech : (v : List ℕ) → None ≡ Some v → is_oid v ≡ true
no_mech v e = absurd (let f : None ≡ Some v = e in cc)

said_within : (turn : Turn) (list : List (List ℕ)) (kind : MechKind) (v : List ℕ) → mech_said turn (listed_as list kind) ≡ Some v → Within v 32
said_within turn list kind v e = named_within turn (listed_as list kind) v (omega (arith, listed-few list kind)) e

-- a reply of an acceptor is read
pub reply_reads : (turn : Turn) (list : List (List ℕ)) (kind : MechKind) (owes finished : Bool) (token mic : Option (List ℕ)) → ((v : List ℕ) → token ≡ Some v → Within v 65000) → ((v : List ℕ) → mic ≡ Some v → Within v 28)
    → resp_read (resp_octets (reply_with turn (listed_as list kind) owes finished token mic)) ≡ Ok (reply_with turn (listed_as list kind) owes finished token mic)
reply_reads turn list kind owes finished token mic t m =
    let resp : NegResp = reply_with turn (listed_as list kind) owes finished token mic in
    resp_again resp ((resp_sized resp (said_oid turn list kind)).holds (omega (arith, (resp_within resp 65000 (said_within turn list kind) t m).most)))

-- so is a token of an initiator
pub token_reads : (token : List ℕ) → IsShort (resp_octets (token_sent token)) → resp_read (resp_octets (token_sent token)) ≡ Ok (token_sent token)
token_reads token h = resp_again (token_sent token) ((resp_sized (token_sent token) no_mech).holds (omega (arith, h)))

pub token_short : (token : List ℕ) → length token ≤ 65000 → IsShort (resp_octets (token_sent token))
token_short token h =
    let own : Within token 65000 = record { most = h } in
    omega (arith, (resp_within (token_sent token) 65000 (λ v e. none-is v 32 e) (λ v e. some-is token v 65000 own e) (λ v e. none-is v 28 e)).most)

-- and one with its MIC
pub mic_reads : (mic : List ℕ) → Within mic 28 → resp_read (resp_octets (mic_sent mic)) ≡ Ok (mic_sent mic)
mic_reads mic own =
    resp_again (mic_sent mic) ((resp_sized (mic_sent mic) no_mech).holds (omega (arith, (resp_within (mic_sent mic) 0 (λ v e. none-is v 32 e) (λ v e. none-is v 0 e) (λ v e. some-is mic v 28 own e)).most)))

pub mic_short : (mic : List ℕ) → Within mic 28 → IsShort (resp_octets (mic_sent mic))
mic_short mic own = omega (arith, (resp_within (mic_sent mic) 0 (λ v e. none-is v 32 e) (λ v e. none-is v 0 e) (λ v e. some-is mic v 28 own e)).most)

-- ---- the first token

list_sized : (list : List MechCred) → Sized (many_spelling object_identifier (map oid_listed list)) (many_fit object_identifier (map oid_listed list))
list_sized [] = any_sized
list_sized (cred ∷ list) = both_sized (oid_sized (oid_listed cred) (named_oid (name_of cred))) (list_sized list)

list_counted : (list : List MechCred) → is_own_list list ≡ true → is_count (map oid_listed list) ≡ true
list_counted [] e = cc
list_counted (only ∷ []) e = refl
list_counted (first ∷ second ∷ []) e = refl
list_counted (first ∷ second ∷ third ∷ []) e = refl
list_counted (first ∷ second ∷ third ∷ fourth ∷ rest) e = cc

types_sized : (own : PlainSetup) → is_own_list own.list ≡ true → Sized (mech_types.spell (own_list own)) (mech_types.fits (own_list own))
unfolding mech_types
types_sized own e = record { holds = λ h. both_hold ((element_sized 0x30 (list_sized own.list)).holds h) (list_counted own.list e) }

init_sized : (own : PlainSetup) (token : List ℕ) → is_own_list own.list ≡ true → Sized (init_octets (first_sent own token)) (neg_init.fits (first_sent own token))
unfolding init_octets neg_init spnego_identifier
init_sized own token e =
    element_sized 0x60 (both_sized (element_sized 6 any_sized) (element_sized 0xa0 (element_sized 0x30
    (both_sized (element_sized 0xa0 (types_sized own e))
    (both_sized none_sized
    (both_sized (element_sized 0xa2 (string_sized token))
    (both_sized none_sized none_sized)))))))

-- it is no request alone
pub init_asks : (setup : AcceptSetup) (own : PlainSetup) (token : List ℕ) → is_own_list own.list ≡ true → IsShort (init_octets (first_sent own token)) → bare_oid setup (init_octets (first_sent own token)) ≡ None
init_asks setup own token e h = init-unbare setup (first_sent own token) ((init_sized own token e).holds (omega (arith, h)))

pub init_reads : (own : PlainSetup) (token : List ℕ) → is_own_list own.list ≡ true → IsShort (init_octets (first_sent own token)) → init_read (init_octets (first_sent own token)) ≡ Ok (first_sent own token)
init_reads own token e h = init_again (first_sent own token) ((init_sized own token e).holds (omega (arith, h)))
