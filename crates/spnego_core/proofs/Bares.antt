-- A request of Kerberos that comes without negotiation, and tokens that negotiate.
use Rattle.std.proofs.Common.{◌≡◌, ℕ, ◌&&◌, Bool, true, false, if◌then◌else◌, refl, subst, List, [], ◌∷◌, length, Option, Some, None, Result, Ok, Err}
use Rattle.gss_base.specs.declared.mech.MechKind.{MechKind}
use Rattle.gss_base.specs.declared.mech.MechKind.TheVariants as kinds
use Rattle.gss_base.specs.declared.mech.MechKind.TheVariants.{Kerberos}
use Rattle.gss_base.specs.declared.mech.KerberosName.TheVariants.{Standard}
use Rattle.gss_base.specs.Mech.{oid_of, mech_of}
use Rattle.der_core.specs.declared.refusal.DerRefusal.{DerRefusal}
use Rattle.der_core.specs.Format.{all_of}
use Rattle.der_core.specs.Frame.{framed}
use Rattle.der_core.specs.Values.{object_identifier}
use Rattle.der_core.proofs.Wholes.{framed_law}
use Rattle.spnego_msgs.specs.declared.neg_init.NegInit.{NegInit}
use Rattle.spnego_msgs.specs.NegInit.{spnego_identifier, neg_init_choice, neg_init}
use Rattle.krb_files.specs.Granted.{Granted}
use Rattle.ap_exchange.specs.Tokens.{ap_req_id, token_of}
use Rattle.ap_exchange.specs.Request.{ap_req_of, request_token, RequestFits}
use Rattle.krb_msgs.specs.ApReq.{ap_req}
use Rattle.spnego_core.specs.declared.setup.AcceptSetup.{AcceptSetup}
use Rattle.spnego_core.specs.declared.setup.MechCred.{MechCred}
use Rattle.spnego_core.specs.declared.setup.MechCred.TheVariants as creds
use Rattle.spnego_core.specs.Choice.{is_first, is_kind, best, is_mic_due}
use Rattle.spnego_core.specs.Bare.{kerberos_in, kerberos_framed, takes_bare, bare_oid}
use Rattle.spnego_core.specs.InitMech.{is_bare_list}
use Rattle.spnego_core.specs.Tokens.{init_octets}

-- ---- what is taken without negotiation

-- the identifier is one of Kerberos's, which is the first of the offer
pub record IsBare (setup : AcceptSetup) (oid : List ℕ) : Type 0 where
  pub first : is_first setup.offer Kerberos ≡ true
  pub named : mech_of oid ≡ Some Kerberos

named_kerberos : (named : Option MechKind) → is_kind named Kerberos ≡ true → named ≡ Some Kerberos
named_kerberos None e = absurd (let f : false ≡ true = e in cc)
named_kerberos (Some kinds.Kerberos) e = refl
named_kerberos (Some kinds.Scram) e = absurd (let f : false ≡ true = e in cc)

none-some : (oid : List ℕ) → None ≡ Some oid → ⊥
none-some oid e = cc

same-some : (a b : List ℕ) → Some a ≡ Some b → a ≡ b
same-some a b e = cc

both : (a b : Bool) → (a && b) ≡ true → (a ≡ true) × (b ≡ true)
both true b e = (refl, e)
both false b e = absurd (let f : false ≡ true = e in cc)

where-some : (b : Bool) (o : Option (List ℕ)) (oid : List ℕ) → (if b then o else None) ≡ Some oid → (b ≡ true) × (o ≡ Some oid)
where-some true o oid e = (refl, e)
where-some false o oid e = absurd (none-some oid e)

in-named : (r : Result (List ℕ × List ℕ) DerRefusal) (oid : List ℕ) → kerberos_in r ≡ Some oid → mech_of oid ≡ Some Kerberos
in-named (Ok frame) oid e =
    let w = where-some (is_kind (mech_of frame.0) Kerberos) (Some frame.0) oid e in
    subst (λ (o : List ℕ). mech_of o ≡ Some Kerberos) (same-some frame.0 oid w.1) (named_kerberos (mech_of frame.0) w.0)
in-named (Err refusal) oid e = absurd (none-some oid e)

framed-named : (token oid : List ℕ) → kerberos_framed token ≡ Some oid → mech_of oid ≡ Some Kerberos
unfolding kerberos_framed
framed-named token oid e = in-named (framed.read (all_of token)) oid e

pub bare-is : (setup : AcceptSetup) (token oid : List ℕ) → bare_oid setup token ≡ Some oid → IsBare setup oid
bare-is setup token oid e =
    let w = where-some (takes_bare setup) (kerberos_framed token) oid e in
    record { first = (both setup.bare (is_first setup.offer Kerberos) w.0).1; named = framed-named token oid w.1 }

-- Kerberos is the best of such a list, and the list's MIC isn't due
pub best-bare : (offer : List MechKind) (oid : List ℕ) → is_first offer Kerberos ≡ true → mech_of oid ≡ Some Kerberos → best offer (oid ∷ []) ≡ Some Kerberos
best-bare [] oid first named = absurd (let f : false ≡ true = first in cc)
best-bare (kind ∷ rest) oid first named = rw (named, first) refl

pub undue-bare : (offer : List MechKind) (oid : List ℕ) → is_first offer Kerberos ≡ true → mech_of oid ≡ Some Kerberos → is_mic_due offer (oid ∷ []) Kerberos ≡ false
undue-bare offer oid first named = rw (named, first) refl

-- ---- what negotiates

-- the object identifier of SPNEGO, 1.3.6.1.5.5.2
abbrev spnego_oid : List ℕ
spnego_oid = 0x2b ∷ 6 ∷ 1 ∷ 5 ∷ 5 ∷ 2 ∷ []

fits-frame : (init : NegInit) → neg_init.fits init ≡ true → framed.fits (spnego_oid, neg_init_choice.spell init) ≡ true
unfolding neg_init spnego_identifier framed object_identifier
fits-frame init fits = (both (neg_init_choice.fits init) _ fits).1

-- a token that negotiates isn't Kerberos's own
framed-init : (init : NegInit) → neg_init.fits init ≡ true → kerberos_in (framed.read (all_of (framed.spell (spnego_oid, neg_init_choice.spell init)))) ≡ None
framed-init init fits =
    rw (framed_law.again (length (framed.spell (spnego_oid, neg_init_choice.spell init))) (spnego_oid, neg_init_choice.spell init) (fits-frame init fits)) refl

pub init-framed : (init : NegInit) → neg_init.fits init ≡ true → kerberos_framed (init_octets init) ≡ None
unfolding kerberos_framed init_octets neg_init spnego_identifier framed object_identifier
init-framed init fits = framed-init init fits

unbare_by : (b : Bool) (o : Option (List ℕ)) → o ≡ None → (if b then o else None) ≡ None
unbare_by true o e = e
unbare_by false o e = refl

pub init-unbare : (setup : AcceptSetup) (init : NegInit) → neg_init.fits init ≡ true → bare_oid setup (init_octets init) ≡ None
init-unbare setup init fits = unbare_by (takes_bare setup) (kerberos_framed (init_octets init)) (init-framed init fits)

-- ---- a request alone

request-framed : (credential : Granted) (stamp : ℕ) (draws : List ℕ) (bindings : Option (List ℕ)) → RequestFits credential stamp draws bindings → kerberos_framed (request_token credential stamp draws bindings) ≡ Some (oid_of Kerberos)
unfolding kerberos_framed request_token token_of
request-framed credential stamp draws bindings made =
    let inside : List ℕ = ap_req_id ∷ 0 ∷ ap_req.spell (ap_req_of credential stamp draws bindings) in
    rw (framed_law.again (length (framed.spell (oid_of Kerberos, inside))) (oid_of Kerberos, inside) made.token) refl

pub request-bare : (setup : AcceptSetup) (credential : Granted) (stamp : ℕ) (draws : List ℕ) (bindings : Option (List ℕ)) → RequestFits credential stamp draws bindings → takes_bare setup ≡ true → bare_oid setup (request_token credential stamp draws bindings) ≡ Some (oid_of Kerberos)
request-bare setup credential stamp draws bindings made takes = rw (takes, request-framed credential stamp draws bindings made) refl

pub takes-first : (setup : AcceptSetup) → takes_bare setup ≡ true → is_first setup.offer Kerberos ≡ true
takes-first setup e = (both setup.bare (is_first setup.offer Kerberos) e).1

-- the list of an initiator that doesn't negotiate
pub record IsAlone (list : List MechCred) : Type 0 where
  pub credential : Granted
  pub is : list ≡ creds.Kerberos Standard credential ∷ []

pub bare-list : (list : List MechCred) → is_bare_list list ≡ true → IsAlone list
bare-list (creds.Kerberos Standard credential ∷ []) e = record { credential = credential; is = refl }
bare-list list e = absurd (let f : false ≡ true = e in cc)
