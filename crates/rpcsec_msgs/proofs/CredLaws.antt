-- Credentials are read as they are spelled.
use Rattle.std.proofs.Common.{◌≡◌, ℕ, ◌≤◌, ◌<◌, ◌^◌, lit<, true, nat_le, eqb, List, [], ◌++◌, length, Result, Ok, Err, refl, sym, ap, subst, ◌∙◌, arith, append_assoc, append-nil, IfOk}
use Rattle.std.proofs.lemmas.Bool.{eqb-true}
use Rattle.std.proofs.lemmas.Bool.Decides.{nat_tests}
use Rattle.rpc_msgs.specs.Words.{word, opaque}
use Rattle.rpc_msgs.specs.Xdr.{Answers, whole, place, word_at, opaque_at, end_at}
use Rattle.rpc_msgs.specs.declared.xdr_reader.XdrRefusal.{XdrRefusal}
use Rattle.rpc_msgs.proofs.XdrLaws.{AreOctets, Law, bind_ok, refused_else, ok_is, word_law}
use Rattle.rpc_msgs.proofs.CallLaws.{found-same}
use Rattle.rpcsec_msgs.specs.declared.cred.CredRefusal.{CredRefusal}
use Rattle.rpcsec_msgs.specs.declared.cred.GssCred.{GssCred}
use Rattle.rpcsec_msgs.specs.Cred.{CredValue, cred_value, is_service, cred_octets, IsCred, placed, cred_word_at, version_at, procedure_at, service_at, cred_fields_at, cred_at}
use Rattle.rpcsec_msgs.proofs.BodyLaws.{end-found, end-only, any_law}

placed_ok : {A : Type 0} (r : Result A XdrRefusal) (y : A) → placed r ≡ Ok y → r ≡ Ok y
placed_ok (Ok x) y e = cc
placed_ok (Err d) y e = absurd cc

cred_word_law : Law cred_word_at word (λ v. v < 2 ^ 32)
unfolding cred_word_at
cred_word_law = record {
  found = λ i j v all e. word_law.found i j v all (placed_ok (word_at i) (v, j) e);
  only = λ v back end has. rw (word_law.only v back end has) refl;
}

handle_law : Law (λ i. placed (opaque_at 4294967295 i)) opaque (λ v. length v ≤ 4294967295)
handle_law = record {
  found = λ i j v all e. any_law.found i j v all (placed_ok (opaque_at 4294967295 i) (v, j) e);
  only = λ v back end has. rw (any_law.only v back end has) refl;
}

version_law : Law version_at (λ v. word 1) (λ v. Unit {0})
unfolding version_at
version_law = record {
  found = λ i j v all e.
      let b = bind_ok (cred_word_at i) _ (v, j) e in
      let t = cred_word_law.found i b.0.1 b.0.0 all b.1 in
      let k = refused_else (eqb b.0.0 1) (record { at = place i }) (Ok (tt, b.0.1)) (v, j) b.2 in
      let one : b.0.0 ≡ 1 = eqb-true b.0.0 1 k.0 in
      found-same tt b.0.1 v j (ok_is {E = CredRefusal} (tt, b.0.1) (v, j) k.1)
      (record { has = tt; same = t.same ∙ ap (λ (n : ℕ). word n ++ b.0.1.octets) one; end = t.end; left = t.left });
  only = λ v back end has. rw (cred_word_law.only 1 back end (lit< tt)) refl;
}

procedure_law : Law procedure_at word (λ p. p ≤ 3)
unfolding procedure_at
procedure_law = record {
  found = λ i j v all e.
      let b = bind_ok (cred_word_at i) _ (v, j) e in
      let t = cred_word_law.found i b.0.1 b.0.0 all b.1 in
      let k = refused_else (nat_le b.0.0 3) (record { at = place i }) (Ok b.0) (v, j) b.2 in
      let within : nat_le b.0.0 3 ≡ true = k.0 in
      let low : b.0.0 ≤ 3 = grind (arith, nat_tests) in
      found-same b.0.0 b.0.1 v j (ok_is {E = CredRefusal} (b.0.0, b.0.1) (v, j) k.1)
      (record { has = low; same = t.same; end = t.end; left = t.left });
  only = λ v back end has.
      let within : nat_le v 3 ≡ true = grind (arith, nat_tests) in
      rw (cred_word_law.only v back end (omega arith), within) refl;
}

record Serves (proc service : ℕ) : Type 0 where
  small : service < 2 ^ 32
  served : is_service proc service ≡ true

service_law : (proc : ℕ) → Law (service_at proc) word (Serves proc)
unfolding service_at
service_law proc = record {
  found = λ i j v all e.
      let b = bind_ok (cred_word_at i) _ (v, j) e in
      let t = cred_word_law.found i b.0.1 b.0.0 all b.1 in
      let k = refused_else (is_service proc b.0.0) (record { at = place i }) (Ok b.0) (v, j) b.2 in
      found-same b.0.0 b.0.1 v j (ok_is {E = CredRefusal} (b.0.0, b.0.1) (v, j) k.1)
      (record { has = record { small = t.has; served = k.0 }; same = t.same; end = t.end; left = t.left });
  only = λ v back end has. rw (cred_word_law.only v back end has.small, has.served) refl;
}

flat : (a b c d e rest : List ℕ) → (a ++ (b ++ (c ++ (d ++ e)))) ++ rest ≡ a ++ (b ++ (c ++ (d ++ (e ++ rest))))
flat a b c d e rest = simp append_assoc

chain : (octets a one b two c three d four e rest : List ℕ) → octets ≡ a ++ one → one ≡ b ++ two → two ≡ c ++ three → three ≡ d ++ four → four ≡ e ++ rest
    → octets ≡ (a ++ (b ++ (c ++ (d ++ e)))) ++ rest
chain octets a one b two c three d four e rest f g h k l = rw (f, g, h, k, l) (sym (flat a b c d e rest))

fields_law : Law cred_fields_at cred_octets IsCred
unfolding cred_fields_at
fields_law = record {
  found = λ i j v all e.
      let b = bind_ok (version_at i) _ (v, j) e in
      let t = version_law.found i b.0.1 b.0.0 all b.1 in
      let c = bind_ok (procedure_at b.0.1) _ (v, j) b.2 in
      let u = procedure_law.found b.0.1 c.0.1 c.0.0 t.left c.1 in
      let d = bind_ok (cred_word_at c.0.1) _ (v, j) c.2 in
      let w = cred_word_law.found c.0.1 d.0.1 d.0.0 u.left d.1 in
      let f = bind_ok (service_at c.0.0 d.0.1) _ (v, j) d.2 in
      let x = (service_law c.0.0).found d.0.1 f.0.1 f.0.0 w.left f.1 in
      let g = bind_ok (placed (opaque_at 4294967295 f.0.1)) _ (v, j) f.2 in
      let y = handle_law.found f.0.1 g.0.1 g.0.0 x.left g.1 in
      let made : CredValue = record { proc = c.0.0; seq = d.0.0; service = f.0.0; context = g.0.0 } in
      found-same made g.0.1 v j (ok_is {E = CredRefusal} (made, g.0.1) (v, j) g.2)
      (record {
        has = record { proc = u.has; seq = w.has; service = x.has.small; served = x.has.served; context = y.has };
        same = chain i.octets (word 1) b.0.1.octets (word c.0.0) c.0.1.octets (word d.0.0) d.0.1.octets (word f.0.0) f.0.1.octets (opaque g.0.0) g.0.1.octets t.same u.same w.same x.same y.same;
        end = y.end ∙ (x.end ∙ (w.end ∙ (u.end ∙ t.end)));
        left = y.left;
      });
  only = λ v back end has.
      rw (
        flat (word 1) (word v.proc) (word v.seq) (word v.service) (opaque v.context) back,
        version_law.only tt (word v.proc ++ (word v.seq ++ (word v.service ++ (opaque v.context ++ back)))) end tt,
        procedure_law.only v.proc (word v.seq ++ (word v.service ++ (opaque v.context ++ back))) end has.proc,
        cred_word_law.only v.seq (word v.service ++ (opaque v.context ++ back)) end has.seq,
        (service_law v.proc).only v.service (opaque v.context ++ back) end (record { small = has.service; served = has.served }),
        handle_law.only v.context back end has.context,
      ) refl;
}

pub cred-found : (octets : List ℕ) (v : CredValue) → AreOctets octets → cred_at octets ≡ Ok v → IsCred v × (octets ≡ cred_octets v)
unfolding cred_at
cred-found octets v all e =
    let b = bind_ok (cred_fields_at (whole octets)) _ v e in
    let t = fields_law.found (whole octets) b.0.1 b.0.0 all b.1 in
    let c = bind_ok (placed (end_at b.0.1)) _ v b.2 in
    let done = end-found b.0.1 c.0 (placed_ok (end_at b.0.1) c.0 c.1) in
    let is : b.0.0 ≡ v = ok_is {E = CredRefusal} b.0.0 v c.2 in (
      subst IsCred is t.has,
      t.same ∙ (ap (λ (zs : List ℕ). cred_octets b.0.0 ++ zs) done ∙ (append-nil (cred_octets b.0.0) ∙ ap cred_octets is)),
    )

pub cred-only : (v : CredValue) → IsCred v → cred_at (cred_octets v) ≡ Ok v
unfolding cred_at
cred-only v h =
    let end : ℕ = length (cred_octets v) in
    let read : cred_fields_at (record { octets = cred_octets v; end = end }) ≡ Ok (v, record { octets = []; end = end }) =
    ap (λ (zs : List ℕ). cred_fields_at (record { octets = zs; end = end })) (sym (append-nil (cred_octets v))) ∙ fields_law.only v [] end h in
    rw (read, end-only end) refl

pub cred-spelled : (octets : List ℕ) (result : Result GssCred CredRefusal) → AreOctets octets → Answers cred_value result (cred_at octets)
    → IfOk result (λ c. IsCred (cred_value c) × (octets ≡ cred_octets (cred_value c)))
cred-spelled octets (Ok cred) all e = cred-found octets (cred_value cred) all e
cred-spelled octets (Err e) all r = tt
