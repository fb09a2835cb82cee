-- A proof, and a request, is of one initiator: its nonce, and its session key and stamp, are its own.
use Rattle.std.proofs.Common.{◌≡◌, ℕ, ◌+◌, true, inl, inr, sym, ◌∙◌, ap, subst, arith, List, [], ◌∷◌, ◌++◌, length, length-append, take, Some, Result, Ok}
use Rattle.std.proofs.Math.Seq.{take-append_seam}
use Rattle.std.proofs.lemmas.Option.{same_Some}
use Rattle.gss_base.specs.declared.mech.MechKind.TheVariants as kinds
use Rattle.der_core.specs.Format.{all_of}
use Rattle.krb_derive.specs.declared.key.Key.{Key}
use Rattle.krb_files.specs.Granted.{Granted}
use Rattle.krb_msgs.specs.declared.authenticator.Authenticator.{Authenticator}
use Rattle.krb_msgs.specs.Authenticator.{authenticator}
use Rattle.krb_msgs.proofs.MessageLaws.{authenticator_law}
use Rattle.ap_exchange.specs.Draws.{drawn_nonce}
use Rattle.ap_exchange.specs.Request.{seconds_of, micros_of, authenticator_of}
use Rattle.scram_mech.specs.AuthParts.{AuthParts, auth_parts}
use Rattle.scram_mech.specs.Base64.{encoded, decoded}
use Rattle.scram_mech.specs.Laws.{Laws as ScramLaws}
use Rattle.scram_mech.specs.MechMaking.{OfType, MechMaking, AmongMakings, proof_making}
use Rattle.scram_mech.specs.Secrets.{stored_key, proof_of}
use Rattle.scram_mech.proofs.Masks.{length-proof}
use Rattle.scram_mech.proofs.Written.{decoded-encoded}
use Rattle.spnego_core.specs.declared.setup.MechCred.TheVariants as creds
use Rattle.spnego_core.specs.Ends.{PlainSetup}
use Rattle.spnego_core.specs.InitMech.{cred_for}
use Rattle.world_laws.specs.Setups.{IsSetup, Proper}
use Rattle.world_laws.specs.State.{World}
use Rattle.world_laws.proofs.Invariants.{MadeProof, FreshFacts}
use Rattle.world_laws.proofs.OnceMakers.{OneOwner}
use Rattle.world_laws.proofs.OwnTexts.{Told, secret_with, told, nonce-octets}

-- ---- proofs

front-same : (a p b q : List ℕ) → length p ≡ length q → a ++ p ≡ b ++ q → a ≡ b
front-same a p b q few e =
    let same : length a ≡ length b = omega (arith, length-append a p, length-append b q, ap length e, few) in
    sym (take-append_seam a p) ∙ (ap (λ (os : List ℕ). take (length a) os) e ∙ (ap (λ (n : ℕ). take n (b ++ q)) same ∙ take-append_seam b q))

one-making : (making first : MechMaking) → AmongMakings (first ∷ []) making → making ≡ first
one-making making first a = elim a [ inl e ↦ e | inr n ↦ absurd n ]

-- what a proof is over
record Over (own : PlainSetup) (making : MechMaking) : Type 0 where
  user : List ℕ
  password : List ℕ
  account : cred_for own.list kinds.Scram ≡ Some (creds.Scram user password)
  auth : List ℕ
  proof : List ℕ
  sized : length proof ≡ 20
  octets : making.octets ≡ auth ++ proof
  parts : AuthParts
  reads : auth_parts auth ≡ Some parts
  nonce : parts.client ≡ encoded (drawn_nonce own.draws)

over : (scram : ScramLaws) (own : PlainSetup) (making : MechMaking) → IsSetup own → MadeProof own making → Over own making
over scram own making setup p =
    let t : Told own p.answered = told scram own setup p.end p.first p.text p.answered p.answers in
    record {
      user = t.user;
      password = t.password;
      account = t.is_own;
      auth = t.auth;
      proof = proof_of (secret_with t.password t.parts) t.auth;
      sized = length-proof (secret_with t.password t.parts) t.auth;
      octets = ap (λ (m : MechMaking). m.octets)
          (one-making making (proof_making (stored_key (secret_with t.password t.parts)) t.auth (proof_of (secret_with t.password t.parts) t.auth)) (subst (λ (ms : List MechMaking). AmongMakings ms making) t.makes p.made));
      parts = t.parts;
      reads = t.reads;
      nonce = t.nonce;
    }

same-nonce : (own other : PlainSetup) (making : MechMaking) → IsSetup own → IsSetup other → Over own making → Over other making → drawn_nonce own.draws ≡ drawn_nonce other.draws
same-nonce own other making s t a b =
    let auth : a.auth ≡ b.auth = front-same a.auth a.proof b.auth b.proof (a.sized ∙ sym b.sized) (sym a.octets ∙ b.octets) in
    let parts : a.parts ≡ b.parts = same_Some a.parts b.parts (sym a.reads ∙ (ap auth_parts auth ∙ b.reads)) in
    let text : encoded (drawn_nonce own.draws) ≡ encoded (drawn_nonce other.draws) = sym a.nonce ∙ (ap (λ (x : AuthParts). x.client) parts ∙ b.nonce) in
    sym (decoded-encoded (drawn_nonce own.draws) (nonce-octets own s)) ∙ (ap decoded text ∙ decoded-encoded (drawn_nonce other.draws) (nonce-octets other t))

-- ---- requests

read-same : {E : Type 0} (a b : Authenticator) (r : Result Authenticator E) → r ≡ Ok a → r ≡ Ok b → a ≡ b
read-same a b r e f = cc

spelled-same : (a b : Authenticator) → authenticator.fits a ≡ true → authenticator.fits b ≡ true → authenticator.spell a ≡ authenticator.spell b → a ≡ b
spelled-same a b fits small e =
    read-same a b (authenticator.read (all_of (authenticator.spell a))) (authenticator_law.again (length (authenticator.spell a)) a fits)
    (subst (λ (os : List ℕ). authenticator.read (all_of os) ≡ Ok b) (sym e) (authenticator_law.again (length (authenticator.spell b)) b small))

whole-stamp : (stamp : ℕ) → seconds_of stamp + micros_of stamp ≡ stamp
whole-stamp stamp = omega arith

same-stamp : (own other : PlainSetup) (c d : Granted) → authenticator_of c own.stamp own.draws own.bindings ≡ authenticator_of d other.stamp other.draws other.bindings → own.stamp ≡ other.stamp
same-stamp own other c d e = sym (whole-stamp own.stamp) ∙ (ap (λ (a : Authenticator). a.ctime + a.cusec) e ∙ whole-stamp other.stamp)

typed-same : (a b : Key) → OfType a ≡ OfType b → a ≡ b
typed-same a b e = cc

-- ---- both

pub one-owner : (scram : ScramLaws) (w : World) → Proper w → FreshFacts w → OneOwner w
one-owner scram w proper fresh = record {
  proofs = λ i j own other making there elsewhere p q. (let a = over scram own making (proper.setups i own there) p in
      let b = over scram other making (proper.setups j other elsewhere) q in
      fresh.nonces i j own other a.user a.password b.user b.password (record { there = there; is_own = a.account }) (record { there = elsewhere; is_own = b.account })
      (same-nonce own other making (proper.setups i own there) (proper.setups j other elsewhere) a b));
  requests = λ i j own other making there elsewhere r s. (let e = sym r.made ∙ s.made in
      fresh.stamps i j own other r.credential s.credential (record { there = there; is_own = r.is_own }) (record { there = elsewhere; is_own = s.is_own })
      (typed-same r.credential.session s.credential.session (ap (λ (m : MechMaking). m.key) e))
      (same-stamp own other r.credential s.credential
      (spelled-same (authenticator_of r.credential own.stamp own.draws own.bindings) (authenticator_of s.credential other.stamp other.draws other.bindings)
      ((proper.setups i own there).spelled r.credential r.is_own) ((proper.setups j other elsewhere).spelled s.credential s.is_own) (ap (λ (m : MechMaking). m.octets) e))));
}
