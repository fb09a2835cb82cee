-- What a context on a proof says of its AuthMessage, and the initiator whose proof it is.
use Rattle.std.proofs.Common.{◌≡◌, inl, ℕ, ◌^◌, ◌<◌, ◌≤◌, ◌==◌, true, false, refl, sym, ap, ◌∙◌, subst, arith, List, [], ◌++◌, length, Option, None, Some, Ok}
use Rattle.std.proofs.lemmas.Bool.Decides.{nat_tests}
use Rattle.gss_base.specs.Bindings.{hash_of}
use Rattle.gss_base.specs.declared.mech.MechKind.TheVariants as kinds
use Rattle.ap_exchange.specs.Draws.{drawn_nonce}
use Rattle.scram_mech.specs.declared.verifiers.Verifier.{Verifier}
use Rattle.scram_mech.specs.Acceptor.{AcceptModel, AcceptFinished, nonce_of, second_by, auth_with}
use Rattle.scram_mech.specs.AuthParts.{AuthParts, auth_parts}
use Rattle.scram_mech.specs.Base64.{encoded}
use Rattle.scram_mech.specs.Grammar.{IsNonce, AreOctets}
use Rattle.scram_mech.specs.Judging.{are_rounds}
use Rattle.scram_bindings.specs.Carried.{data_of, carried}
use Rattle.scram_mech.specs.Laws.{Accepts, Laws as ScramLaws}
use Rattle.scram_mech.specs.MechMaking.{OfPassword, MechMaking, AmongMakings, proof_making}
use Rattle.scram_mech.specs.SecondText.{second_of}
use Rattle.scram_mech.specs.Secrets.{client_key, stored_key, proof_of, key_of_client, context_key}
use Rattle.scram_mech.specs.ThirdText.{Third, third_of}
use Rattle.scram_mech.specs.VerifierFile.{IsLine}
use Rattle.scram_mech.proofs.Masks.{length-proof}
use Rattle.scram_mech.proofs.Written.{second-read}
use Rattle.spnego_core.specs.declared.outcome.Outcome.{Outcome}
use Rattle.spnego_core.specs.Ends.{PlainSetup}
use Rattle.spnego_core.specs.Outcome.{outcome_of}
use Rattle.world_laws.specs.State.{Context, World}
use Rattle.world_laws.specs.Premises.{Marking, Listed, MarkedLine, GuardedSecret, WasMade, Fresh, HasAuth, HasAccount, Proved}
use Rattle.world_laws.specs.Setups.{Proper}
use Rattle.world_laws.proofs.Invariants.{MadeProof, ScramFixed, Owning}
use Rattle.world_laws.proofs.Apart.{split-back}
use Rattle.world_laws.proofs.Makers.{only, ProofOf, from-proof}
use Rattle.world_laws.proofs.OwnTexts.{secret_with, Told, told}

-- ---- the context's AuthMessage

abbrev pub context_outcome : AcceptModel → Third → Outcome
context_outcome end third = record {
  mech = kinds.Scram;
  initiator = end.line.name;
  acceptor = [];
  key = context_key end.line.stored third.proof (auth_with end third.bare);
  subkey = false;
  hash = hash_of (carried third.binding);
}

pub record Taken (w : World) (x : Context) (end : AcceptModel) (text : List ℕ) : Type 0 where
  pub third : Third
  pub read : third_of text ≡ Ok third
  pub parts : AuthParts
  pub reads : auth_parts (auth_with end third.bare) ≡ Some parts
  pub name : parts.name ≡ end.line.name
  pub client : parts.client ≡ end.client
  pub nonce : parts.nonce ≡ end.client ++ end.own
  pub binding : parts.binding ≡ third.binding
  pub twenty : length third.proof ≡ 20
  pub outcome_is : x.fixed.outcome ≡ context_outcome end third
  pub listed : Listed w.book.setup.verifiers end.line
  pub ranged : are_rounds end.line.rounds ≡ true

some-rounds : (n : ℕ) → are_rounds n ≡ true → (0 < n) × (n < 10 ^ 10)
some-rounds n e = (grind (arith, nat_tests), grind (arith, nat_tests))

second-back : (scram : ScramLaws) (end : AcceptModel) (text : List ℕ) (third : Third) → third_of text ≡ Ok third → third.nonce ≡ nonce_of end → IsLine end.line
    → second_of (second_by end) ≡ Ok (record { nonce = nonce_of end; salt = end.line.salt; rounds = end.line.rounds })
second-back scram end text third read same line =
    let t = scram.third_found text third read in
    let fresh = subst (λ (os : List ℕ). IsNonce 256 os) same t.fresh in
    let r = some-rounds end.line.rounds line.ranged in
    second-read (nonce_of end) end.line.salt end.line.rounds fresh.each fresh.some fresh.few line.salted.each line.salted.enough line.salted.few r.0 r.1

pub taken : (scram : ScramLaws) (marking : Marking) (w : World) → Proper w → (x : Context) (end : AcceptModel) (text : List ℕ) → ScramFixed marking w x end text → Taken w x end text
taken scram marking w proper x end text f = by (scram.accepts end text w.book.setup.bindings f.now f.finished f.finishes)
  where
    line : IsLine end.line
    line = proper.lines f.line.place end.line f.line.there

    by : Accepts end text w.book.setup.bindings f.now f.finished → Taken w x end text
    by a = record {
      third = a.third;
      read = a.read;
      parts = record { name = f.line.first.name; client = f.line.first.nonce; nonce = nonce_of end; salt = end.line.salt; rounds = end.line.rounds; binding = a.third.binding; last_nonce = a.third.nonce };
      reads = scram.parts end.first (second_by end) text f.line.first (record { nonce = nonce_of end; salt = end.line.salt; rounds = end.line.rounds }) a.third f.line.read
          (second-back scram end text a.third a.read a.nonce line) a.read;
      name = sym f.line.named;
      client = sym f.line.client;
      nonce = refl;
      binding = refl;
      twenty = let t = (scram.third_found text a.third a.read).proved in omega (arith, t.enough, t.few);
      outcome_is = f.outcome_is ∙ ap (λ (z : AcceptFinished). outcome_of kinds.Scram z.done) a.same;
      listed = record { place = f.line.place; there = f.line.there };
      ranged = line.ranged;
    }

-- ---- its proof was handed out

guarded-line : (marking : Marking) (w : World) → Fresh marking w → (line : Verifier) → Listed w.book.setup.verifiers line → MarkedLine marking line → GuardedSecret marking line.stored
guarded-line marking w fresh line listed m = record {
  account = m.account;
  marked = m.marked;
  salt = line.salt;
  rounds = line.rounds;
  ranged = m.ranged;
  is_key = inl (fresh.lines m.account line m.marked listed m.named);
}

pub same-third : (text : List ℕ) (a b : Third) → third_of text ≡ Ok a → third_of text ≡ Ok b → a ≡ b
same-third text a b e f = cc

proof-out : (scram : ScramLaws) (marking : Marking) (w : World) → Fresh marking w → (x : Context) (end : AcceptModel) (text : List ℕ) → ScramFixed marking w x end text → (t : Taken w x end text) → MarkedLine marking end.line
    → WasMade w (proof_making end.line.stored (auth_with end t.third.bare) t.third.proof)
proof-out scram marking w fresh x end text f t m = by (scram.accepts end text w.book.setup.bindings f.now f.finished f.finishes)
  where
    by : Accepts end text w.book.setup.bindings f.now f.finished → WasMade w (proof_making end.line.stored (auth_with end t.third.bare) t.third.proof)
    by a =
        let third : t.third ≡ a.third = same-third text t.third a.third t.read a.read in
        let among : AmongMakings f.finished.found (proof_making end.line.stored (auth_with end a.third.bare) a.third.proof) =
        subst (λ (z : AcceptFinished). AmongMakings z.found (proof_making end.line.stored (auth_with end a.third.bare) a.third.proof)) (sym a.same) (inl refl) in
        subst (λ (z : Third). WasMade w (proof_making end.line.stored (auth_with end z.bare) z.proof)) (sym third)
        (f.handed_out (guarded-line marking w fresh end.line t.listed m) (proof_making end.line.stored (auth_with end a.third.bare) a.third.proof) among)

-- ---- the initiator of the proof

abbrev pub scram_outcome : List ℕ → List ℕ → AuthParts → List ℕ → Option (List ℕ) → Outcome
scram_outcome user password parts auth bindings = record {
  mech = kinds.Scram;
  initiator = user;
  acceptor = [];
  key = key_of_client (stored_key (secret_with password parts)) (client_key (secret_with password parts)) auth;
  subkey = false;
  hash = hash_of bindings;
}

pub record ScramAsked (w : World) (x : Context) (end : AcceptModel) (text : List ℕ) : Type 0 where
  pub i : ℕ
  pub own : PlainSetup
  pub user : List ℕ
  pub password : List ℕ
  pub has : HasAccount w i own user password
  pub auth : List ℕ
  pub taken : HasAuth end text auth
  pub proved : Proved w own auth
  pub parts : AuthParts
  pub reads : auth_parts auth ≡ Some parts
  pub name : parts.name ≡ user
  pub nonce : parts.client ≡ encoded (drawn_nonce own.draws)
  pub making : MechMaking
  pub made : MadeProof own making
  pub among : AmongMakings w.makings making
  pub making_is : making ≡ proof_making (stored_key (secret_with password parts)) auth (proof_of (secret_with password parts) auth)
  pub outcome_is : x.fixed.outcome ≡ scram_outcome user password parts auth own.bindings

pub same-password : (a b : List ℕ) → OfPassword a ≡ OfPassword b → a ≡ b
same-password a b e = cc

pub some-parts : (auth other : List ℕ) (a b : AuthParts) → auth ≡ other → auth_parts auth ≡ Some a → auth_parts other ≡ Some b → a ≡ b
some-parts auth other a b same e f = let g : auth_parts auth ≡ Some b = subst (λ (os : List ℕ). auth_parts os ≡ Some b) (sym same) f in cc

some-length : (application : List ℕ) → 1 ≤ length application → (length application == 0) ≡ false
some-length application some = grind (arith, nat_tests)

carried-back : (bindings : Option (List ℕ)) → ((application : List ℕ) → bindings ≡ Some application → AreOctets 1 32768 application) → carried (data_of bindings) ≡ bindings
carried-back None s = refl
carried-back (Some application) s = rw (some-length application (s application refl).enough) refl

same-outcome : (name user stored proof auth mine binding : List ℕ) (bindings : Option (List ℕ)) (password : List ℕ) (parts : AuthParts) → name ≡ user → stored ≡ stored_key (secret_with password parts) → auth ≡ mine → proof ≡ proof_of (secret_with password parts) mine
    → carried binding ≡ bindings → key_of_client (stored_key (secret_with password parts)) (client_key (secret_with password parts)) mine ≡ context_key (stored_key (secret_with password parts)) (proof_of (secret_with password parts) mine) mine
    → (let o : Outcome = record { mech = kinds.Scram; initiator = name; acceptor = []; key = context_key stored proof auth; subkey = false; hash = hash_of (carried binding) } in o) ≡ scram_outcome user password parts mine bindings
same-outcome name user stored proof auth mine binding bindings password parts a b c d e f = rw (a, b, c, d, e, f) refl

abbrev pub proof_by : List ℕ → AuthParts → List ℕ → MechMaking
proof_by password parts auth = proof_making (stored_key (secret_with password parts)) auth (proof_of (secret_with password parts) auth)

pub made-is : (m : MechMaking) (own : PlainSetup) (made : MadeProof own m) (o : Told own made.answered) → m ≡ proof_by o.password o.parts o.auth
made-is m own made o = only m (proof_by o.password o.parts o.auth) (subst (λ (ms : List MechMaking). AmongMakings ms m) o.makes made.made)

asked-with : (scram : ScramLaws) (marking : Marking) (w : World) → Proper w → (x : Context) (end : AcceptModel) (text : List ℕ) → (t : Taken w x end text)
    → (p : ProofOf w (proof_making end.line.stored (auth_with end t.third.bare) t.third.proof)) → Told p.own p.made.answered → ScramAsked w x end text
asked-with scram marking w proper x end text t p o =
    let m : MechMaking = proof_making end.line.stored (auth_with end t.third.bare) t.third.proof in
    let is : proof_making end.line.stored (auth_with end t.third.bare) t.third.proof ≡ proof_by o.password o.parts o.auth = made-is (proof_making end.line.stored (auth_with end t.third.bare) t.third.proof) p.own p.made o in
    let stored : end.line.stored ≡ stored_key (secret_with o.password o.parts) = same-password _ _ (ap (λ (z : MechMaking). z.key) is) in
    let both : (auth_with end t.third.bare ≡ o.auth) × (t.third.proof ≡ proof_of (secret_with o.password o.parts) o.auth) =
    split-back (auth_with end t.third.bare) t.third.proof o.auth (proof_of (secret_with o.password o.parts) o.auth) (t.twenty ∙ sym (length-proof (secret_with o.password o.parts) o.auth)) (ap (λ (z : MechMaking). z.octets) is) in
    let same : t.parts ≡ o.parts = some-parts (auth_with end t.third.bare) o.auth t.parts o.parts both.0 t.reads o.reads in
    let name : end.line.name ≡ o.user = sym t.name ∙ (ap (λ (z : AuthParts). z.name) same ∙ o.name) in
    let bound : carried t.third.binding ≡ p.own.bindings = ap carried (sym t.binding ∙ (ap (λ (z : AuthParts). z.binding) same ∙ o.binding)) ∙ carried-back p.own.bindings (proper.setups p.i p.own p.there).bound in
    let among : AmongMakings w.makings (proof_by o.password o.parts o.auth) = subst (λ (z : MechMaking). AmongMakings w.makings z) is p.among in
    record {
      i = p.i;
      own = p.own;
      user = o.user;
      password = o.password;
      has = record { there = p.there; is_own = o.is_own };
      auth = o.auth;
      taken = record { third = t.third; read = t.read; auth_is = sym both.0 };
      proved = record { user = o.user; password = o.password; is_own = o.is_own; parts = o.parts; reads = o.reads; name = o.name; nonce = o.nonce; binding = o.binding; handed_out = among };
      parts = o.parts;
      reads = o.reads;
      name = o.name;
      nonce = o.nonce;
      making = proof_making end.line.stored (auth_with end t.third.bare) t.third.proof;
      made = p.made;
      among = p.among;
      making_is = is;
      outcome_is = t.outcome_is ∙ same-outcome end.line.name o.user end.line.stored t.third.proof (auth_with end t.third.bare) o.auth t.third.binding p.own.bindings o.password o.parts name stored both.0 both.1 bound (scram.one_key (secret_with o.password o.parts) o.auth);
    }

asked-from : (scram : ScramLaws) (marking : Marking) (w : World) → Proper w → (x : Context) (end : AcceptModel) (text : List ℕ) → (t : Taken w x end text)
    → ProofOf w (proof_making end.line.stored (auth_with end t.third.bare) t.third.proof) → ScramAsked w x end text
asked-from scram marking w proper x end text t p = asked-with scram marking w proper x end text t p (told scram p.own (proper.setups p.i p.own p.there) p.made.end p.made.first p.made.text p.made.answered p.made.answers)

pub scram-asked : (scram : ScramLaws) (marking : Marking) (w : World) → Proper w → Fresh marking w → Owning w → (x : Context) (end : AcceptModel) (text : List ℕ) → ScramFixed marking w x end text → Taken w x end text → MarkedLine marking end.line → ScramAsked w x end text
scram-asked scram marking w proper fresh owning x end text f t m =
    asked-from scram marking w proper x end text t (from-proof scram w (proof_making end.line.stored (auth_with end t.third.bare) t.third.proof) owning (proof-out scram marking w fresh x end text f t m) refl)
