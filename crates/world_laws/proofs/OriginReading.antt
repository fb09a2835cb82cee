-- What a call's header says, by the words at its places.
use Rattle.std.proofs.Common.{◌≡◌, ℕ, zero, suc, ◌+◌, ◌≤◌, List, [], ◌∷◌, length, take, drop, Result, Ok, Err, nat_le, refl, sym, ap, subst, ◌∙◌, arith, eqb}
use Rattle.std.proofs.lemmas.Bool.{eqb-true}
use Rattle.std.proofs.lemmas.List.{length-take-le}
use Rattle.rpc_msgs.specs.Xdr.{Input, whole, place, word_at, opaque_at, end_at}
use Rattle.rpc_msgs.specs.Auths.{AuthValue, auth_at}
use Rattle.rpc_msgs.specs.Calls.{CallValue, readable, call_word_at, version_at, xid_at, rest_at, call_at}
use Rattle.rpc_msgs.specs.declared.call.CallRefusal.{CallRefusal}
use Rattle.rpc_msgs.specs.declared.call.CallRefusal.TheVariants.{NotCall, RpcVersion}
use Rattle.rpc_msgs.specs.declared.xdr_reader.XdrRefusal.{XdrRefusal}
use Rattle.rpc_msgs.proofs.XdrLaws.{bind_ok, refused_else, ok_is}
use Rattle.rpcsec_msgs.specs.Cred.{CredValue, is_service, placed, cred_word_at, procedure_at, service_at, cred_fields_at, cred_at}
use Rattle.rpcsec_msgs.specs.Cred.{version_at as cred_version_at}
use Rattle.rpcsec_msgs.specs.declared.cred.CredRefusal.{CredRefusal}
use Rattle.told_apart.proofs.Places.{word_of, word-in, word-at, OpaqueAt, opaque-at}

-- ---- a call

readable-ok : {A : Type 0} (r : Result A XdrRefusal) (y : A) → readable r ≡ Ok y → r ≡ Ok y
readable-ok (Ok x) y e = cc
readable-ok (Err d) y e = absurd cc

placed-ok : {A : Type 0} (r : Result A XdrRefusal) (y : A) → placed r ≡ Ok y → r ≡ Ok y
placed-ok (Ok x) y e = cc
placed-ok (Err d) y e = absurd cc

pub record CallAt (octets : List ℕ) (call : CallValue) : Type 0 where
  pub kind : word_of 4 octets ≡ 0
  pub version : word_of 8 octets ≡ 2
  pub procedure : call.procedure ≡ word_of 20 octets
  pub size : ℕ
  pub body : call.cred.body ≡ take size (drop 32 octets)
  pub header : 32 + size ≤ call.header
  pub within : call.header ≤ length octets

-- behind the RPC version
record RestAt (octets : List ℕ) (call : CallValue) : Type 0 where
  procedure : call.procedure ≡ word_of 20 octets
  size : ℕ
  body : call.cred.body ≡ take size (drop 32 octets)
  header : 32 + size ≤ call.header
  within : call.header ≤ length octets

auth-at : (octets : List ℕ) (i : Input) (v : AuthValue) (j : Input) → i.octets ≡ drop 24 octets → auth_at i ≡ Ok (v, j) → OpaqueAt octets 28 400 i v.body j
unfolding auth_at
auth-at octets i v j left e =
    let b = bind_ok (word_at i) _ (v, j) e in
    let t = word-at octets 24 i b.0.0 b.0.1 left b.1 in
    let c = bind_ok (opaque_at 400 b.0.1) _ (v, j) b.2 in
    let u = opaque-at octets 28 400 b.0.1 c.0.0 c.0.1 t.left c.1 in
    let is = ok_is {E = XdrRefusal} (record { flavour = b.0.0; body = c.0.0 }, c.0.1) (v, j) c.2 in
    subst (λ (p : AuthValue × Input). OpaqueAt octets 28 400 i p.0.body p.1) is
    (record { size = u.size; size_is = u.size_is; low = u.low; value = u.value; all = u.all; end = u.end ∙ t.end })

rest-at : (xid : ℕ) (octets : List ℕ) (i : Input) (call : CallValue) → i.octets ≡ drop 12 octets → i.end ≡ length octets → rest_at xid i ≡ Ok call → RestAt octets call
unfolding rest_at
rest-at xid octets i call left whole_end e =
    let b = bind_ok (word_at i) _ call e in
    let t = word-at octets 12 i b.0.0 b.0.1 left b.1 in
    let c = bind_ok (word_at b.0.1) _ call b.2 in
    let u = word-at octets 16 b.0.1 c.0.0 c.0.1 t.left c.1 in
    let d = bind_ok (word_at c.0.1) _ call c.2 in
    let w = word-at octets 20 c.0.1 d.0.0 d.0.1 u.left d.1 in
    let f = bind_ok (auth_at d.0.1) _ call d.2 in
    let x = auth-at octets d.0.1 f.0.0 f.0.1 w.left f.1 in
    let g = bind_ok (auth_at f.0.1) _ call f.2 in
    let made : CallValue = record { xid = xid; program = b.0.0; version = c.0.0; procedure = d.0.0; cred = f.0.0; verf = g.0.0; header = place f.0.1; args = g.0.1.octets } in
    let all = x.all in
    let end_is : f.0.1.end ≡ length octets = x.end ∙ (w.end ∙ (u.end ∙ (t.end ∙ whole_end))) in
    subst (RestAt octets) (ok_is {E = XdrRefusal} made call g.2)
    (record { procedure = w.value; size = x.size; body = x.value; header = omega (arith, all, end_is); within = omega (arith, all, end_is) })

pub call-read : (octets : List ℕ) (call : CallValue) → call_at octets ≡ Ok call → CallAt octets call
unfolding call_at xid_at version_at call_word_at
call-read octets call e =
    let a = bind_ok (xid_at (whole octets)) _ call e in
    let b = bind_ok (call_word_at (whole octets)) _ a.0 a.1 in
    let t = word-at octets 0 (whole octets) b.0.0 b.0.1 refl (readable-ok (word_at (whole octets)) b.0 b.1) in
    let c = bind_ok (call_word_at b.0.1) _ a.0 b.2 in
    let u = word-at octets 4 b.0.1 c.0.0 c.0.1 t.left (readable-ok (word_at b.0.1) c.0 c.1) in
    let k = refused_else (eqb c.0.0 0) NotCall (version_at b.0.0 c.0.1) a.0 c.2 in
    let d = bind_ok (call_word_at c.0.1) _ a.0 k.1 in
    let w = word-at octets 8 c.0.1 d.0.0 d.0.1 u.left (readable-ok (word_at c.0.1) d.0 d.1) in
    let l = refused_else (eqb d.0.0 2) (RpcVersion b.0.0) (Ok (b.0.0, d.0.1)) a.0 d.2 in
    let is = ok_is {E = CallRefusal} (b.0.0, d.0.1) a.0 l.1 in
    let left : a.0.1.octets ≡ drop 12 octets = sym (ap (λ p. p.1.octets) is) ∙ w.left in
    let end : a.0.1.end ≡ length octets = sym (ap (λ p. p.1.end) is) ∙ (w.end ∙ (u.end ∙ t.end)) in
    let r = rest-at a.0.0 octets a.0.1 call left end (readable-ok (rest_at a.0.0 a.0.1) call a.2) in
    record {
      kind = sym u.value ∙ eqb-true c.0.0 0 k.0;
      version = sym w.value ∙ eqb-true d.0.0 2 l.0;
      procedure = r.procedure;
      size = r.size;
      body = r.body;
      header = r.header;
      within = r.within;
    }

-- ---- a credential

pub record CredAt (body : List ℕ) (cred : CredValue) : Type 0 where
  pub proc : cred.proc ≡ word_of 4 body
  pub seq : cred.seq ≡ word_of 8 body
  pub service : cred.service ≡ word_of 12 body
  pub long : 16 ≤ length body

pub cred-read : (body : List ℕ) (cred : CredValue) → cred_at body ≡ Ok cred → CredAt body cred
unfolding cred_at cred_fields_at cred_version_at procedure_at service_at cred_word_at
cred-read body cred e =
    let z = bind_ok (cred_fields_at (whole body)) _ cred e in
    let y = bind_ok (placed (end_at z.0.1)) _ cred z.2 in
    let a = bind_ok (cred_version_at (whole body)) _ z.0 z.1 in
    let b = bind_ok (cred_word_at (whole body)) _ a.0 a.1 in
    let t = word-at body 0 (whole body) b.0.0 b.0.1 refl (placed-ok (word_at (whole body)) b.0 b.1) in
    let k = refused_else (eqb b.0.0 1) (record { at = place (whole body) }) (Ok (tt, b.0.1)) a.0 b.2 in
    let first = ok_is {E = CredRefusal} (tt, b.0.1) a.0 k.1 in
    let c = bind_ok (procedure_at a.0.1) _ z.0 a.2 in
    let d = bind_ok (cred_word_at a.0.1) _ c.0 c.1 in
    let u = word-at body 4 a.0.1 d.0.0 d.0.1 (sym (ap (λ p. p.1.octets) first) ∙ t.left) (placed-ok (word_at a.0.1) d.0 d.1) in
    let l = refused_else (nat_le d.0.0 3) (record { at = place a.0.1 }) (Ok d.0) c.0 d.2 in
    let second = ok_is {E = CredRefusal} d.0 c.0 l.1 in
    let f = bind_ok (cred_word_at c.0.1) _ z.0 c.2 in
    let w = word-at body 8 c.0.1 f.0.0 f.0.1 (sym (ap (λ p. p.1.octets) second) ∙ u.left) (placed-ok (word_at c.0.1) f.0 f.1) in
    let g = bind_ok (service_at c.0.0 f.0.1) _ z.0 f.2 in
    let h = bind_ok (cred_word_at f.0.1) _ g.0 g.1 in
    let x = word-at body 12 f.0.1 h.0.0 h.0.1 w.left (placed-ok (word_at f.0.1) h.0 h.1) in
    let m = refused_else (is_service c.0.0 h.0.0) (record { at = place f.0.1 }) (Ok h.0) g.0 h.2 in
    let third = ok_is {E = CredRefusal} h.0 g.0 m.1 in
    let n = bind_ok (placed (opaque_at 4294967295 g.0.1)) _ z.0 g.2 in
    let made : CredValue = record { proc = c.0.0; seq = f.0.0; service = g.0.0; context = n.0.0 } in
    let fourth = ok_is {E = CredRefusal} (made, n.0.1) z.0 n.2 in
    let is : made ≡ cred = ap (λ p. p.0) fourth ∙ ok_is {E = CredRefusal} z.0.0 cred y.2 in
    let within = x.within in
    record {
      proc = sym (ap (λ (k : CredValue). k.proc) is) ∙ (sym (ap (λ p. p.0) second) ∙ u.value);
      seq = sym (ap (λ (k : CredValue). k.seq) is) ∙ w.value;
      service = sym (ap (λ (k : CredValue). k.service) is) ∙ (sym (ap (λ p. p.0) third) ∙ x.value);
      long = within;
    }

-- ---- both, in the octets up to the end of the credential

pub record Told (header : List ℕ) (call : CallValue) (cred : CredValue) : Type 0 where
  pub kind : word_of 4 header ≡ 0
  pub version : word_of 8 header ≡ 2
  pub procedure : call.procedure ≡ word_of 20 header
  pub proc : cred.proc ≡ word_of 36 header
  pub seq : cred.seq ≡ word_of 40 header
  pub service : cred.service ≡ word_of 44 header
  pub long : 48 ≤ length header

-- by the credential's body as it stands in the octets
told-by : (octets body : List ℕ) (call : CallValue) (cred : CredValue) (size : ℕ) → CallAt octets call → CredAt body cred → body ≡ take size (drop 32 octets) → 16 ≤ size → 32 + size ≤ call.header
    → call.header ≤ length octets → Told (take call.header octets) call cred
told-by octets body call cred size c d is enough header within = record {
  kind = word-in 4 call.header 0 octets (omega (arith, header, enough)) ∙ c.kind;
  version = word-in 8 call.header 0 octets (omega (arith, header, enough)) ∙ c.version;
  procedure = c.procedure ∙ sym (word-in 20 call.header 0 octets (omega (arith, header, enough)));
  proc = d.proc ∙ (ap (word_of 4) is ∙ (word-in 4 size 32 octets (omega (arith, enough)) ∙ sym (word-in 36 call.header 0 octets (omega (arith, header, enough)))));
  seq = d.seq ∙ (ap (word_of 8) is ∙ (word-in 8 size 32 octets (omega (arith, enough)) ∙ sym (word-in 40 call.header 0 octets (omega (arith, header, enough)))));
  service = d.service ∙ (ap (word_of 12) is ∙ (word-in 12 size 32 octets (omega (arith, enough)) ∙ sym (word-in 44 call.header 0 octets (omega (arith, header, enough)))));
  long = let sized : length (take call.header octets) ≡ call.header = length-take-le call.header octets within in omega (arith, sized, header, enough);
}

pub told : (octets : List ℕ) (call : CallValue) (cred : CredValue) → call_at octets ≡ Ok call → cred_at call.cred.body ≡ Ok cred → Told (take call.header octets) call cred
told octets call cred e f =
    let c = call-read octets call e in
    let d = cred-read call.cred.body cred f in
    told-by octets call.cred.body call cred c.size c d c.body (long-enough c.size (drop 32 octets) call.cred.body c.body d.long) c.header c.within
  where
    short-take : (n : ℕ) (xs : List ℕ) → length (take n xs) ≤ n
    short-take zero xs = omega arith
    short-take (suc n) [] = omega arith
    short-take (suc n) (x ∷ xs) = let less = short-take n xs in omega (arith, less)

    long-enough : (size : ℕ) (xs body : List ℕ) → body ≡ take size xs → 16 ≤ length body → 16 ≤ size
    long-enough size xs body is long = let less = short-take size xs in let same = ap length is in omega (arith, less, same, long)
